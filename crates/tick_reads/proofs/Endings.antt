-- A call that is over, or went astray, has no further answer.
use Rattle.std.proofs.Common.{◌≡◌, ℕ, ◌<◌, ◌==◌, ◌&&◌, ◌⊎◌, inl, inr, ⊎_elim, Bool, true, false, not, List, [], ◌∷◌, ◌++◌, length, refl, ap, sym, ◌∙◌, subst, Some, None, ne_eqb, arith, append_assoc, length-append}
use Rattle.clock_lines.specs.declared.readings.Entry.{Entry}
use Rattle.tick_reads.specs.declared.loads.Ask.{Ask}
use Rattle.tick_reads.specs.declared.loads.Load.{Load}
use Rattle.tick_reads.specs.declared.loads.Load.TheVariants.{Turn, Field, Mark, Counter}
use Rattle.clock_logs.specs.Legal.{Way, full, quick, past, way_of}
use Rattle.tick_reads.specs.Scans.{Scan, fresh, has_fields, ends, turn_ends, mark_ends, turn_again, turned, mark_by, walks, takes_counter, counter_back, field_on, after, run}

-- a call that has begun goes on by its way
unfoldable pub after_by : Way → Ask → Scan → Load → Scan
after_by y ask s (Turn x) = turn_again y ask s x
after_by y ask s (Field t f x) = field_on s t f x
after_by y ask s (Counter x) = takes_counter y ask s x
after_by y ask s (Mark t x) = mark_by y ask s t x

pub by_way : (y : Way) (ask : Ask) → way_of ask.kind ≡ y → (s : Scan) → s.begun ≡ true → (l : Load) → after ask s l ≡ after_by y ask s l
unfolding after_by
by_way y ask e s begun (Turn x) = (λ i. turned (begun i) ask s x) ∙ (λ i. turn_again (e i) ask s x)
by_way y ask e s begun (Field t f x) = refl
by_way y ask e s begun (Counter x) = λ i. takes_counter (e i) ask s x
by_way y ask e s begun (Mark t x) = λ i. mark_by (e i) ask s t x

-- a call that will have no further answer: it went astray, or a full read has a sixteenth field or a second counter
abbrev pub IsLost : Way → Scan → Type 0
IsLost full s = (s.good ≡ false) ⊎ ((15 < length s.fields) ⊎ (1 < length s.counters))
IsLost quick s = s.good ≡ false
IsLost past s = s.good ≡ false

pub false_and : (b : Bool) → (b && false) ≡ false
false_and true = refl
false_and false = refl

pub none_some : {P : Type 0} (e : Entry) → None ≡ Some e → P
none_some e p = cc

pub some_same : (e d : Entry) → Some e ≡ Some d → e ≡ d
some_same e d p = cc

pub IsOut : Way → Scan → Type 0
IsOut y s = (s.begun ≡ true) × (s.answer ≡ None) × IsLost y s

no_end : (s : Scan) → IsLost full s → (has_fields s && (length s.counters == 1)) ≡ false
no_end s lost = ⊎_elim (λ (bad : s.good ≡ false). λ i. bad i && (length s.fields == 15) && (length s.counters == 1))
    (λ (z : (15 < length s.fields) ⊎ (1 < length s.counters)). ⊎_elim
    (λ (long : 15 < length s.fields). (λ i. s.good && ne_eqb (length s.fields) 15 (λ e. omega arith) i && (length s.counters == 1))
    ∙ ap (λ b. b && (length s.counters == 1)) (false_and s.good))
    (λ (two : 1 < length s.counters). ap (λ b. has_fields s && b) (ne_eqb (length s.counters) 1 (λ e. omega arith)) ∙ false_and (has_fields s)) z) lost

longer : (n x : ℕ) (xs : List ℕ) → n < length xs → n < length (xs ++ x ∷ [])
longer n x xs h = omega (arith, length-append xs (x ∷ []))

module _ (ask : Ask) where
  pub stays_lost : (y : Way) → way_of ask.kind ≡ y → (s : Scan) → s.begun ≡ true → IsLost y s → (l : Load) → IsOut y (after_by y ask s l)
  unfolding IsOut after_by
  stays_lost full e s begun lost (Turn x) = subst (λ b. IsOut full (ends (turn_ends b ask s x) s)) (sym (no_end s lost)) (refl, refl, inl refl)
  stays_lost full e s begun lost (Field t f x) = (
    refl,
    refl,
    ⊎_elim (λ (bad : s.good ≡ false). inl (λ i. bad i && not s.line && (t == s.tick) && (f == length s.fields)))
        (λ (z : (15 < length s.fields) ⊎ (1 < length s.counters)). ⊎_elim (λ (long : 15 < length s.fields). inr (inl (longer 15 x s.fields long)))
        (λ (two : 1 < length s.counters). inr (inr two)) z) lost,
  )
  stays_lost full e s begun lost (Counter x) = (
    refl,
    refl,
    ⊎_elim (λ (bad : s.good ≡ false). inl (λ i. bad i && (length s.fields == 15)))
        (λ (z : (15 < length s.fields) ⊎ (1 < length s.counters)). ⊎_elim (λ (long : 15 < length s.fields). inr (inl long))
        (λ (two : 1 < length s.counters). inr (inr (longer 1 x s.counters two))) z) lost,
  )
  stays_lost full e s begun lost (Mark t x) = (refl, refl, inl refl)
  stays_lost quick e s begun lost (Turn x) = (refl, refl, refl)
  stays_lost quick e s begun lost (Field t f x) = (refl, refl, λ i. lost i && not s.line && (t == s.tick) && (f == length s.fields))
  stays_lost quick e s begun lost (Counter x) = (refl, refl, refl)
  stays_lost quick e s begun lost (Mark t x) = subst (λ b. IsOut quick (ends (mark_ends b ask s x) s))
      (λ i. sym lost i && (length s.fields == 15) && (t == s.tick)) (refl, refl, refl)
  stays_lost past e s begun lost (Turn x) = subst (λ b. IsOut past (ends (turn_ends b ask s x) s))
      (λ i. sym lost i && s.line && (length s.counters == 1)) (refl, refl, refl)
  stays_lost past e s begun lost (Field t f x) = (refl, refl, λ i. lost i && not s.line && (t == s.tick) && (f == length s.fields))
  stays_lost past e s begun lost (Counter x) = subst (λ b. IsOut past (counter_back b ask s x))
      (λ i. sym lost i && s.line && (length s.counters == 0)) (refl, refl, refl)
  stays_lost past e s begun lost (Mark t x) = subst (λ b. IsOut past (walks b ask s x))
      (λ i. sym lost i && (length s.fields == 15) && not s.line && (t == s.tick)) (refl, refl, refl)

  module _ (y : Way) (way : way_of ask.kind ≡ y) where
    pub no_more : (s : Scan) (ls : List Load) (e : Entry) → IsOut y s → (run ask s ls).answer ≡ Some e → ⊥
    unfolding IsOut
    no_more s [] e out is = none_some e (sym out.1 ∙ is)
    no_more s (l ∷ ls) e out is = no_more (after ask s l) ls e (subst (IsOut y) (sym (by_way y ask way s out.0 l)) (stays_lost y way s out.0 out.2 l)) is

    module _ (Stage : List Load → Scan → Type 0) (Law : List Load → Entry → Type 0) where
      -- the call has its answer, or will have none
      pub IsOver : List Load → Scan → Type 0
      IsOver loads s = (s.begun ≡ true) × IsLost y s × ((e : Entry) → s.answer ≡ Some e → Law loads e)

      pub Goes : List Load → Scan → Type 0
      unfolding IsOver
      Goes loads s = Stage loads s ⊎ IsOver loads s

      pub further : (loads : List Load) (s : Scan) → Stage loads s → Goes loads s
      unfolding Goes IsOver
      further loads s st = inl st

      pub astray : (loads : List Load) (s : Scan) → s.begun ≡ true → IsLost y s → s.answer ≡ None → Goes loads s
      unfolding Goes IsOver
      astray loads s begun lost none-yet = inr (begun, lost, λ e is. none_some e (sym none-yet ∙ is))

      pub over : (loads : List Load) (s : Scan) (e : Entry) → s.begun ≡ true → IsLost y s → s.answer ≡ Some e → Law loads e → Goes loads s
      unfolding Goes IsOver
      over loads s e begun lost is law = inr (begun, lost, λ d d-is. subst (Law loads) (some_same e d (sym is ∙ d-is)) law)

      module _ (open_yet : (loads : List Load) (s : Scan) → Stage loads s → (s.begun ≡ true) × (s.answer ≡ None))
          (next : (loads : List Load) (s : Scan) → Stage loads s → (l : Load) → Goes (loads ++ l ∷ []) (after_by y ask s l)) where
        step : (loads : List Load) (s : Scan) → Stage loads s → (l : Load) → Goes (loads ++ l ∷ []) (after ask s l)
        step loads s st l = subst (Goes (loads ++ l ∷ [])) (sym (by_way y ask way s (open_yet loads s st).0 l)) (next loads s st l)

        pub goes_to_end : (before : List Load) (s : Scan) (ls : List Load) (e : Entry) → Stage before s → (run ask s ls).answer ≡ Some e → Law (before ++ ls) e
        unfolding Goes IsOver IsOut
        goes_to_end before s [] e st is = none_some e (sym (open_yet before s st).1 ∙ is)
        goes_to_end before s (l ∷ []) e st is = ⊎_elim (λ (st' : Stage (before ++ l ∷ []) (after ask s l)). none_some e
            (sym (open_yet _ _ st').1 ∙ is)) (λ (o : IsOver (before ++ l ∷ []) (after ask s l)). o.2 e is) (step before s st l)
        goes_to_end before s (l ∷ k ∷ ls) e st is = ⊎_elim (λ (st' : Stage (before ++ l ∷ []) (after ask s l)). subst (λ z. Law z e)
            (append_assoc before (l ∷ []) (k ∷ ls)) (goes_to_end (before ++ l ∷ []) (after ask s l) (k ∷ ls) e st' is))
            (λ (o : IsOver (before ++ l ∷ []) (after ask s l)). absurd (no_more (after ask (after ask s l) k) ls e
            (subst (IsOut y) (sym (by_way y ask way (after ask s l) o.0 k)) (stays_lost y way (after ask s l) o.0 o.1 k)) is)) (step before s st l)

-- a call that does not begin with the turn word has no answer
lost_at_once : (y : Way) (s : Scan) → s.good ≡ false → IsLost y s
lost_at_once full s bad = inl bad
lost_at_once quick s bad = bad
lost_at_once past s bad = bad

module _ (ask : Ask) (y : Way) (way : way_of ask.kind ≡ y) where
  counter_first : (z : Way) (x : ℕ) → IsOut y (takes_counter z ask fresh x)
  unfolding IsOut
  counter_first full x = (refl, refl, lost_at_once y (takes_counter full ask fresh x) refl)
  counter_first quick x = (refl, refl, lost_at_once y (takes_counter quick ask fresh x) refl)
  counter_first past x = (refl, refl, lost_at_once y (takes_counter past ask fresh x) refl)

  mark_first : (z : Way) (t x : ℕ) → IsOut y (mark_by z ask fresh t x)
  unfolding IsOut
  mark_first full t x = (refl, refl, lost_at_once y (mark_by full ask fresh t x) refl)
  mark_first quick t x = (refl, refl, lost_at_once y (mark_by quick ask fresh t x) refl)
  mark_first past t x = (refl, refl, lost_at_once y (mark_by past ask fresh t x) refl)

  field_first : (t f x : ℕ) → IsOut y (field_on fresh t f x)
  unfolding IsOut
  field_first t f x = (refl, refl, lost_at_once y (field_on fresh t f x) refl)

  pub no_field_first : (t f x : ℕ) (ls : List Load) (e : Entry) → (run ask fresh (Field t f x ∷ ls)).answer ≡ Some e → ⊥
  no_field_first t f x ls e is = no_more ask y way (field_on fresh t f x) ls e (field_first t f x) is

  pub no_counter_first : (x : ℕ) (ls : List Load) (e : Entry) → (run ask fresh (Counter x ∷ ls)).answer ≡ Some e → ⊥
  no_counter_first x ls e is = no_more ask y way (after ask fresh (Counter x)) ls e (counter_first (way_of ask.kind) x) is

  pub no_mark_first : (t x : ℕ) (ls : List Load) (e : Entry) → (run ask fresh (Mark t x ∷ ls)).answer ≡ Some e → ⊥
  no_mark_first t x ls e is = no_more ask y way (after ask fresh (Mark t x)) ls e (mark_first (way_of ask.kind) t x) is
