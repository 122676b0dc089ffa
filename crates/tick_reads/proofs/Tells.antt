-- What a full read and a light one decide is told by their loads, and their loads by what they decide.
use Rattle.std.proofs.Common.{◌≡◌, ◌≢◌, ℕ, ◌+◌, ◌*◌, ◌/◌, ◌%◌, ◌<◌, ◌==◌, ◌&&◌, inl, inr, Bool, true, false, true≢false, List, [], ◌∷◌, ◌++◌, length, refl, ap, sym, ◌∙◌, subst, Some, None, eq-eqb, ne_eqb, arith, append_assoc, length-append}
use Rattle.std.proofs.lemmas.Bool.{eqb-true}
use Rattle.clock_lines.specs.declared.readings.Kind.{Kind}
use Rattle.clock_lines.specs.declared.readings.Kind.TheVariants as kind
use Rattle.clock_lines.specs.declared.readings.Reading.{Reading}
use Rattle.clock_lines.specs.declared.readings.Entry.{Entry}
use Rattle.clock_lines.specs.declared.readings.Entry.TheVariants.{Read, Again}
use Rattle.ff_hands.specs.declared.hands.Hands.{Hands}
use Rattle.clock_lines.specs.Readings.{reading_at}
use Rattle.hand_words.specs.Words.{unpack}
use Rattle.tick_reads.specs.declared.loads.Ask.{Ask}
use Rattle.tick_reads.specs.declared.loads.Load.{Load}
use Rattle.tick_reads.specs.declared.loads.Load.TheVariants.{Turn, Field, Mark, Counter}
use Rattle.clock_logs.specs.Legal.{Way, full, quick, past, way_of}
use Rattle.tick_reads.specs.Ways.{count_by, reading}
use Rattle.tick_reads.specs.Looks.{full_mark, fields_from, look}
use Rattle.tick_reads.specs.Scans.{Scan, fresh, scan_at, ends, at_turn, at_mark, turn_ends, mark_ends, opens_at, turn_again, takes_counter, field_on, after, run, decided}
use Rattle.tick_reads.specs.Converts.{ask_back}
use Rattle.tick_reads.specs.Reads.{IsAtCounter, whole_loads, ReadsWhole, turn_open, turn_moved, turn_still, ReadsLight, mark_moved, mark_still, ReadsBy, Reads, StoodStill, Moved}
use Rattle.tick_reads.proofs.Conversions.{decides, explains}
use Rattle.tick_reads.proofs.Endings.{after_by, by_way, false_and, none_some, some_same, IsOut, stays_lost, no_more, Goes, further, astray, over, goes_to_end, no_field_first, no_counter_first, no_mark_first}
use Rattle.tick_reads.proofs.Runs.{run-append, run_fields, whole_counts, whole_ends, light_ends, opens_light, opens_even, opens_odd, fields_from-snoc}

whole_light : {P : Type 0} → quick ≡ full → P
whole_light e = cc

whole_past : {P : Type 0} → past ≡ full → P
whole_past e = cc

-- a full read is at the counter
pub count_whole : (k : Kind) (given c : ℕ) (h : Hands) → way_of k ≡ full → count_by k given h c ≡ c
count_whole kind.Abs given c h e = refl
count_whole kind.Mono given c h e = refl
count_whole kind.Uptime given c h e = refl
count_whole kind.Fast given c h e = whole_light e
count_whole kind.Diff given c h e = whole_light e
count_whole kind.Back given c h e = whole_past e
count_whole kind.Utc given c h e = refl

half : (n : ℕ) → 2 * n / 2 ≡ n
half n = omega arith

even : (n : ℕ) → 2 * n % 2 ≡ 0
even n = omega arith

-- each call of the order decides its answer
module _ (ask : Ask) (way : way_of ask.kind ≡ full) where
  opens_whole : (n : ℕ) → after ask fresh (Turn (2 * n)) ≡ scan_at (2 * n) n false [] []
  opens_whole n = opens_even ask (2 * n) (even n) ∙ ap (λ m. scan_at (2 * n) m false [] []) (half n)

  whole_run : (n : ℕ) (fields : List ℕ) (c x : ℕ) → length fields ≡ 15
      → decided ask (whole_loads n fields c x) ≡ Some (at_turn (x == 2 * n) ask (scan_at (2 * n) n false fields (c ∷ [])) x)
  whole_run n fields c x long = ap (λ (s : Scan). (run ask s (fields_from n 0 fields ++ Counter c ∷ Turn x ∷ [])).answer) (opens_whole n)
      ∙ (ap (λ (s : Scan). s.answer) (run-append ask (scan_at (2 * n) n false [] []) (fields_from n 0 fields) (Counter c ∷ Turn x ∷ []))
      ∙ (ap (λ (s : Scan). (after ask (after ask s (Counter c)) (Turn x)).answer) (run_fields ask (2 * n) n [] fields)
      ∙ (ap (λ (s : Scan). (after ask s (Turn x)).answer) (whole_counts ask (2 * n) n fields long way c)
      ∙ ap (λ (s : Scan). s.answer) (whole_ends ask (2 * n) n fields long way c x))))

  counted_reading : (n : ℕ) (fields : List ℕ) (c : ℕ) → reading ask n (unpack fields) c ≡ reading_at (unpack fields) n ask.kind c
  counted_reading n fields c = ap (λ k. reading_at (unpack fields) n ask.kind k) (count_whole ask.kind ask.given c (unpack fields) way)

  pub decides_whole : (loads : List Load) (e : Entry) → ReadsWhole ask.kind loads e → decided ask loads ≡ Some e
  decides_whole loads e (turn_open w odd) = ap (λ (s : Scan). s.answer) (opens_odd ask w way (λ z. omega arith))
  decides_whole loads e (turn_moved n fields c x long other) = whole_run n fields c x long
      ∙ ap (λ b. Some (at_turn b ask (scan_at (2 * n) n false fields (c ∷ [])) x)) (ne_eqb x (2 * n) other)
  decides_whole loads e (turn_still n fields c long) = whole_run n fields c (2 * n) long
      ∙ (ap (λ b. Some (at_turn b ask (scan_at (2 * n) n false fields (c ∷ [])) (2 * n))) (eq-eqb (2 * n) (2 * n) refl)
      ∙ ap (λ r. Some (Read r)) (counted_reading n fields c))

module _ (ask : Ask) (way : way_of ask.kind ≡ quick) where
  light_run : (w : ℕ) (fields : List ℕ) (x : ℕ) → length fields ≡ 15
      → decided ask (Turn w ∷ look (w / 2) fields x) ≡ Some (at_mark (x == full_mark (w / 2)) ask (scan_at w (w / 2) false fields []) x)
  light_run w fields x long = ap (λ (s : Scan). (run ask s (look (w / 2) fields x)).answer) (opens_light ask w way)
      ∙ (ap (λ (s : Scan). s.answer) (run-append ask (scan_at w (w / 2) false [] []) (fields_from (w / 2) 0 fields) (Mark (w / 2) x ∷ []))
      ∙ (ap (λ (s : Scan). (after ask s (Mark (w / 2) x)).answer) (run_fields ask w (w / 2) [] fields)
      ∙ ap (λ (s : Scan). s.answer) (light_ends ask w (w / 2) fields long way x)))

  pub decides_light : (loads : List Load) (e : Entry) → ReadsLight ask loads e → decided ask loads ≡ Some e
  decides_light loads e (mark_moved w fields x long other) = light_run w fields x long
      ∙ ap (λ b. Some (at_mark b ask (scan_at w (w / 2) false fields []) x)) (ne_eqb x (full_mark (w / 2)) other)
  decides_light loads e (mark_still w fields long) = light_run w fields (full_mark (w / 2)) long
      ∙ ap (λ b. Some (at_mark b ask (scan_at w (w / 2) false fields []) (full_mark (w / 2)))) (eq-eqb (full_mark (w / 2)) (full_mark (w / 2)) refl)

-- where an undecided full read of tick n is, and an undecided light one
data StageWhole (n : ℕ) : List Load → Scan → Type 0 where
  looking : (fields : List ℕ) → StageWhole n (Turn (2 * n) ∷ fields_from n 0 fields) (scan_at (2 * n) n false fields [])
  counted : (fields : List ℕ) (c : ℕ) → length fields ≡ 15 → StageWhole n (Turn (2 * n) ∷ fields_from n 0 fields ++ Counter c ∷ [])
      (scan_at (2 * n) n false fields (c ∷ []))

data StageLight (w : ℕ) : List Load → Scan → Type 0 where
  glancing : (fields : List ℕ) → StageLight w (Turn w ∷ fields_from (w / 2) 0 fields) (scan_at w (w / 2) false fields [])

field_more : (w m t f x : ℕ) (fields : List ℕ) → (t == m) ≡ true → (f == length fields) ≡ true → (Turn w ∷ fields_from m 0 fields) ++ Field t f x
    ∷ [] ≡ Turn w ∷ fields_from m 0 (fields ++ x ∷ [])
field_more w m t f x fields e g = let tick : t ≡ m = eqb-true t m e in let place : f ≡ 0
    + length fields = (let p = eqb-true f (length fields) g in omega arith) in
    (λ i. (Turn w ∷ fields_from m 0 fields) ++ Field (tick i) (place i) x ∷ []) ∙ ap (λ l. Turn w ∷ l) (fields_from-snoc m 0 fields x)

module _ (ask : Ask) (way : way_of ask.kind ≡ full) where
  abbrev GoesWhole : ℕ → List Load → Scan → Type 0
  GoesWhole n = Goes ask full way (StageWhole n) (ReadsWhole ask.kind)

  module _ (n : ℕ) (fields : List ℕ) where
    abbrev s0 : Scan
    s0 = scan_at (2 * n) n false fields []

    abbrev far : List Load
    far = Turn (2 * n) ∷ fields_from n 0 fields

    whole_field : (t f x : ℕ) (a b : Bool) → (t == n) ≡ a → (f == length fields) ≡ b → GoesWhole n (far ++ Field t f x ∷ []) (field_on s0 t f x)
    whole_field t f x false b e g = astray ask full way (StageWhole n) (ReadsWhole ask.kind) _ (field_on s0 t f x) refl
        (inl (λ i. e i && (f == length fields))) refl
    whole_field t f x true false e g = astray ask full way (StageWhole n) (ReadsWhole ask.kind) _ (field_on s0 t f x) refl (inl (λ i. e i && g i)) refl
    whole_field t f x true true e g = let scan : field_on s0 t f x ≡ scan_at (2 * n) n false (fields ++ x ∷ []) [] = λ i. record
        (scan_at (2 * n) n false (fields ++ x ∷ []) []) { good = e i && g i } in
        subst (λ (z : List Load × Scan). GoesWhole n z.0 z.1) (λ i. (sym (field_more (2 * n) n t f x fields e g) i, sym scan i))
        (further ask full way (StageWhole n) (ReadsWhole ask.kind) _ _ (looking (fields ++ x ∷ [])))

    whole_counter : (c : ℕ) (a : Bool) → (length fields == 15) ≡ a → GoesWhole n (far ++ Counter c ∷ []) (takes_counter full ask s0 c)
    whole_counter c false e = astray ask full way (StageWhole n) (ReadsWhole ask.kind) _ (takes_counter full ask s0 c) refl (inl e) refl
    whole_counter c true e = let scan : takes_counter full ask s0 c ≡ scan_at (2 * n) n false fields (c ∷ []) = λ i. record
        (scan_at (2 * n) n false fields (c ∷ [])) { good = e i } in
        subst (GoesWhole n (far ++ Counter c ∷ [])) (sym scan) (further ask full way (StageWhole n) (ReadsWhole ask.kind) _ _
        (counted fields c (eqb-true (length fields) 15 e)))

    module _ (c : ℕ) (long : length fields ≡ 15) where
      abbrev s1 : Scan
      s1 = scan_at (2 * n) n false fields (c ∷ [])

      turn_law : (x : ℕ) (a : Bool) → (x == 2 * n) ≡ a → ReadsWhole ask.kind (whole_loads n fields c x) (at_turn a ask s1 x)
      turn_law x true same = subst (λ (z : ℕ × Entry). ReadsWhole ask.kind (whole_loads n fields c z.0) z.1)
          (λ i. (sym (eqb-true x (2 * n) same) i, Read (sym (counted_reading ask way n fields c) i))) (turn_still n fields c long)
      turn_law x false other = turn_moved n fields c x long (λ e. true≢false (sym (eq-eqb x (2 * n) e) ∙ other))

      list_is : (x : ℕ) → whole_loads n fields c x ≡ (far ++ Counter c ∷ []) ++ Turn x ∷ []
      list_is x = ap (λ l. Turn (2 * n) ∷ l) (sym (append_assoc (fields_from n 0 fields) (Counter c ∷ []) (Turn x ∷ [])))

      whole_turn : (x : ℕ) → GoesWhole n ((far ++ Counter c ∷ []) ++ Turn x ∷ []) (turn_again full ask s1 x)
      whole_turn x = subst (λ b. GoesWhole n ((far ++ Counter c ∷ []) ++ Turn x ∷ []) (ends (turn_ends b ask s1 x) s1))
          (λ i. sym (eq-eqb (length fields) 15 long) i && true)
          (over ask full way (StageWhole n) (ReadsWhole ask.kind) _ (ends (Some (at_turn (x == 2 * n) ask s1 x)) s1) (at_turn (x == 2 * n) ask s1 x)
          refl (inl refl) refl (subst (λ l. ReadsWhole ask.kind l (at_turn (x == 2 * n) ask s1 x)) (list_is x) (turn_law x (x == 2 * n) refl)))

  next_whole : (n : ℕ) (loads : List Load) (s : Scan) → StageWhole n loads s → (l : Load) → GoesWhole n (loads ++ l ∷ []) (after_by full ask s l)
  unfolding after_by
  next_whole n loads s (looking fields) (Turn x) = subst (λ b. GoesWhole n ((Turn (2 * n) ∷ fields_from n 0 fields) ++ Turn x ∷ [])
      (ends (turn_ends b ask (s0 n fields) x) (s0 n fields))) (sym (false_and (length fields == 15)))
      (astray ask full way (StageWhole n) (ReadsWhole ask.kind) _ (ends None (s0 n fields)) refl (inl refl) refl)
  next_whole n loads s (looking fields) (Field t f x) = whole_field n fields t f x (t == n) (f == length fields) refl refl
  next_whole n loads s (looking fields) (Mark t x) = astray ask full way (StageWhole n) (ReadsWhole ask.kind) _ (ends None (s0 n fields)) refl (inl refl) refl
  next_whole n loads s (looking fields) (Counter x) = whole_counter n fields x (length fields == 15) refl
  next_whole n loads s (counted fields c long) (Turn x) = whole_turn n fields c long x
  next_whole n loads s (counted fields c long) (Field t f x) =
      astray ask full way (StageWhole n) (ReadsWhole ask.kind) _ (field_on (s1 n fields c long) t f x) refl
      (inr (inl (let h : length (fields ++ x ∷ []) ≡ length fields + 1 = length-append fields (x ∷ []) in omega arith))) refl
  next_whole n loads s (counted fields c long) (Mark t x) = astray ask full way (StageWhole n) (ReadsWhole ask.kind) _
      (ends None (s1 n fields c long)) refl (inl refl) refl
  next_whole n loads s (counted fields c long) (Counter x) = astray ask full way (StageWhole n) (ReadsWhole ask.kind) _
      (takes_counter full ask (s1 n fields c long) x) refl (inr (inr (let h : 1 < 2 = omega arith in h))) refl

  open_whole : (n : ℕ) (loads : List Load) (s : Scan) → StageWhole n loads s → (s.begun ≡ true) × (s.answer ≡ None)
  open_whole n loads s (looking fields) = (refl, refl)
  open_whole n loads s (counted fields c long) = (refl, refl)

  -- a call that found a windup open has its answer at once
  at_once : (w : ℕ) (ls : List Load) (e : Entry) → w % 2 ≡ 1 → (run ask (ends (Some (Again ask.kind w w)) (opens_at w)) ls).answer ≡ Some e
      → ReadsWhole ask.kind (Turn w ∷ ls) e
  at_once w [] e odd is = subst (ReadsWhole ask.kind (Turn w ∷ [])) (some_same (Again ask.kind w w) e is) (turn_open w odd)
  at_once w (l ∷ ls) e odd is = let s : Scan = ends (Some (Again ask.kind w w)) (opens_at w) in
      absurd (no_more ask full way (after ask s l) ls e (subst (IsOut full) (sym (by_way full ask way s refl l))
      (stays_lost ask full way s refl (inl refl) l)) is)

  by_turn : (w : ℕ) (ls : List Load) (e : Entry) (b : Bool) → (w % 2 == 0) ≡ b → decided ask (Turn w ∷ ls) ≡ Some e → ReadsWhole ask.kind (Turn w ∷ ls) e
  by_turn w ls e true at is = let z = eqb-true (w % 2) 0 at in let n : ℕ = w / 2 in let whole : w ≡ 2 * n = omega arith in
      subst (λ t. ReadsWhole ask.kind (Turn t ∷ ls) e) (sym whole)
      (goes_to_end ask full way (StageWhole n) (ReadsWhole ask.kind) (open_whole n) (next_whole n) (Turn (2 * n) ∷ [])
      (scan_at (2 * n) n false [] []) ls e (looking [])
      (ap (λ (s : Scan). (run ask s ls).answer) (sym (opens_whole ask way n)) ∙ (ap (λ t. decided ask (Turn t ∷ ls)) (sym whole) ∙ is)))
  by_turn w ls e false at is = let other : w % 2 ≢ 0 = λ z. true≢false (sym (eq-eqb (w % 2) 0 z) ∙ at) in
      at_once w ls e (omega arith) (ap (λ (s : Scan). (run ask s ls).answer) (sym (opens_odd ask w way other)) ∙ is)

  -- the answer of a full read tells its loads
  pub explains_whole : (w : ℕ) (ls : List Load) (e : Entry) → decided ask (Turn w ∷ ls) ≡ Some e → ReadsWhole ask.kind (Turn w ∷ ls) e
  explains_whole w ls e is = by_turn w ls e (w % 2 == 0) refl is

module _ (ask : Ask) (way : way_of ask.kind ≡ quick) where
  abbrev GoesLight : ℕ → List Load → Scan → Type 0
  GoesLight w = Goes ask quick way (StageLight w) (ReadsLight ask)

  module _ (w : ℕ) (fields : List ℕ) where
    abbrev s2 : Scan
    s2 = scan_at w (w / 2) false fields []

    abbrev near : List Load
    near = Turn w ∷ fields_from (w / 2) 0 fields

    light_field : (t f x : ℕ) (a b : Bool) → (t == w / 2) ≡ a → (f == length fields) ≡ b → GoesLight w (near ++ Field t f x ∷ []) (field_on s2 t f x)
    light_field t f x false b e g = astray ask quick way (StageLight w) (ReadsLight ask) _ (field_on s2 t f x) refl (λ i. e i && (f == length fields)) refl
    light_field t f x true false e g = astray ask quick way (StageLight w) (ReadsLight ask) _ (field_on s2 t f x) refl (λ i. e i && g i) refl
    light_field t f x true true e g = let scan : field_on s2 t f x ≡ scan_at w (w / 2) false (fields ++ x ∷ []) [] = λ i. record
        (scan_at w (w / 2) false (fields ++ x ∷ []) []) { good = e i && g i } in
        subst (λ (z : List Load × Scan). GoesLight w z.0 z.1) (λ i. (sym (field_more w (w / 2) t f x fields e g) i, sym scan i))
        (further ask quick way (StageLight w) (ReadsLight ask) _ _ (glancing (fields ++ x ∷ [])))

    mark_law : (x : ℕ) (a : Bool) → length fields ≡ 15 → (x == full_mark (w / 2)) ≡ a → ReadsLight ask (Turn w ∷ look (w / 2) fields x) (at_mark a ask s2 x)
    mark_law x true long same = subst (λ (z : ℕ). ReadsLight ask (Turn w ∷ look (w / 2) fields z) (at_mark true ask s2 x))
        (sym (eqb-true x (full_mark (w / 2)) same)) (mark_still w fields long)
    mark_law x false long other = mark_moved w fields x long (λ e. true≢false (sym (eq-eqb x (full_mark (w / 2)) e) ∙ other))

    light_mark : (t x : ℕ) (a b : Bool) → (length fields == 15) ≡ a → (t == w / 2) ≡ b
        → GoesLight w (near ++ Mark t x ∷ []) (ends (mark_ends ((length fields == 15) && (t == w / 2)) ask s2 x) s2)
    light_mark t x false b e g = subst (λ c. GoesLight w (near ++ Mark t x ∷ []) (ends (mark_ends c ask s2 x) s2)) (λ i. sym e i && (t == w / 2))
        (astray ask quick way (StageLight w) (ReadsLight ask) _ (ends None s2) refl refl refl)
    light_mark t x true false e g = subst (λ c. GoesLight w (near ++ Mark t x ∷ []) (ends (mark_ends c ask s2 x) s2)) (λ i. sym e i && sym g i)
        (astray ask quick way (StageLight w) (ReadsLight ask) _ (ends None s2) refl refl refl)
    light_mark t x true true e g = subst (λ c. GoesLight w (near ++ Mark t x ∷ []) (ends (mark_ends c ask s2 x) s2)) (λ i. sym e i && sym g i)
        (over ask quick way (StageLight w) (ReadsLight ask) _ (ends (Some (at_mark (x == full_mark (w / 2)) ask s2 x)) s2)
        (at_mark (x == full_mark (w / 2)) ask s2 x) refl refl refl
        (subst (λ n. ReadsLight ask (near ++ Mark n x ∷ []) (at_mark (x == full_mark (w / 2)) ask s2 x)) (sym (eqb-true t (w / 2) g))
        (mark_law x (x == full_mark (w / 2)) (eqb-true (length fields) 15 e) refl)))

  next_light : (w : ℕ) (loads : List Load) (s : Scan) → StageLight w loads s → (l : Load) → GoesLight w (loads ++ l ∷ []) (after_by quick ask s l)
  unfolding after_by
  next_light w loads s (glancing fields) (Turn x) = astray ask quick way (StageLight w) (ReadsLight ask) _ (ends None (s2 w fields)) refl refl refl
  next_light w loads s (glancing fields) (Field t f x) = light_field w fields t f x (t == w / 2) (f == length fields) refl refl
  next_light w loads s (glancing fields) (Mark t x) = light_mark w fields t x (length fields == 15) (t == w / 2) refl refl
  next_light w loads s (glancing fields) (Counter x) = astray ask quick way (StageLight w) (ReadsLight ask) _ (ends None (s2 w fields)) refl refl refl

  open_light : (w : ℕ) (loads : List Load) (s : Scan) → StageLight w loads s → (s.begun ≡ true) × (s.answer ≡ None)
  open_light w loads s (glancing fields) = (refl, refl)

  -- and that of a light read
  pub explains_light : (w : ℕ) (ls : List Load) (e : Entry) → decided ask (Turn w ∷ ls) ≡ Some e → ReadsLight ask (Turn w ∷ ls) e
  explains_light w ls e is = goes_to_end ask quick way (StageLight w) (ReadsLight ask) (open_light w) (next_light w) (Turn w ∷ [])
      (scan_at w (w / 2) false [] []) ls e (glancing []) (ap (λ (s : Scan). (run ask s ls).answer) (sym (opens_light ask w way)) ∙ is)

-- for each ask
back_only : (k : Kind) → way_of k ≡ past → k ≡ kind.Back
back_only kind.Abs e = cc
back_only kind.Mono e = cc
back_only kind.Uptime e = cc
back_only kind.Fast e = cc
back_only kind.Diff e = cc
back_only kind.Back e = refl
back_only kind.Utc e = cc

is_back : (ask : Ask) → way_of ask.kind ≡ past → ask_back ask.given ≡ ask
is_back ask e = λ i. record { kind = sym (back_only ask.kind e) i; given = ask.given }

explains_by : (ask : Ask) (y : Way) → way_of ask.kind ≡ y → (w : ℕ) (ls : List Load) (e : Entry) → decided ask (Turn w ∷ ls) ≡ Some e
    → ReadsBy y ask (Turn w ∷ ls) e
explains_by ask full way w ls e is = explains_whole ask way w ls e is
explains_by ask quick way w ls e is = explains_light ask way w ls e is
explains_by ask past way w ls e is = (w, explains ask.given w ls e (ap (λ k. decided k (Turn w ∷ ls)) (is_back ask way) ∙ is))

decides_by : (ask : Ask) (y : Way) → way_of ask.kind ≡ y → (loads : List Load) (e : Entry) → ReadsBy y ask loads e → decided ask loads ≡ Some e
decides_by ask full way loads e r = decides_whole ask way loads e r
decides_by ask quick way loads e r = decides_light ask way loads e r
decides_by ask past way loads e r = ap (λ k. decided k loads) (sym (is_back ask way)) ∙ decides ask.given r.0 loads e r.1

pub decides_read : (ask : Ask) (loads : List Load) (e : Entry) → Reads ask loads e → decided ask loads ≡ Some e
decides_read ask loads e r = decides_by ask (way_of ask.kind) refl loads e r

explains_read : (ask : Ask) (w : ℕ) (ls : List Load) (e : Entry) → decided ask (Turn w ∷ ls) ≡ Some e → Reads ask (Turn w ∷ ls) e
explains_read ask w ls e is = explains_by ask (way_of ask.kind) refl w ls e is

pub explains_loads : (ask : Ask) (loads : List Load) (e : Entry) → decided ask loads ≡ Some e → Reads ask loads e
explains_loads ask [] e is = none_some e is
explains_loads ask (Turn w ∷ ls) e is = explains_read ask w ls e is
explains_loads ask (Field t f x ∷ ls) e is = absurd (no_field_first ask (way_of ask.kind) refl t f x ls e is)
explains_loads ask (Mark t x ∷ ls) e is = absurd (no_mark_first ask (way_of ask.kind) refl t x ls e is)
explains_loads ask (Counter x ∷ ls) e is = absurd (no_counter_first ask (way_of ask.kind) refl x ls e is)

-- in words: what a full read tells by its answer
same_reads : (r q : Reading) → Read r ≡ Read q → r ≡ q
same_reads r q e = cc

again_read : {P : Type 0} (k : Kind) (first last : ℕ) (r : Reading) → Again k first last ≡ Read r → P
again_read k first last r e = cc

same_first : (k : Kind) (a b first last : ℕ) → Again k a b ≡ Again k first last → a ≡ first
same_first k a b first last e = cc

same_last : (k : Kind) (a b first last : ℕ) → Again k a b ≡ Again k first last → b ≡ last
same_last k a b first last e = cc

still_of : (k : Kind) (loads : List Load) (e : Entry) (r : Reading) → ReadsWhole k loads e → e ≡ Read r → StoodStill k loads r
still_of k loads e r (turn_open w odd) is = again_read k w w r is
still_of k loads e r (turn_moved n fields c x long other) is = again_read k (2 * n) x r is
still_of k loads e r (turn_still n fields c long) is = record { n = n; fields = fields; counter = c; long = long; loaded = refl; is = sym (same_reads _ r is) }

moved_of : (k : Kind) (loads : List Load) (e : Entry) (first last : ℕ) → ReadsWhole k loads e → e ≡ Again k first last → Moved loads first last
moved_of k loads e first last (turn_open w odd) is = subst (λ t. Moved (Turn w ∷ []) t last) (same_first k w w first last is)
    (subst (λ t. Moved (Turn w ∷ []) w t) (same_last k w w first last is) (inl (odd, refl, refl)))
moved_of k loads e first last (turn_moved n fields c x long other) is =
    subst (λ t. Moved loads t last) (same_first k (2 * n) x first last is)
    (subst (λ t. Moved loads (2 * n) t) (same_last k (2 * n) x first last is) (inr (even n, other)))
moved_of k loads e first last (turn_still n fields c long) is = again_read k first last _ (sym is)

pub read_stood : (k : Kind) (loads : List Load) (r : Reading) → ReadsWhole k loads (Read r) → StoodStill k loads r
read_stood k loads r h = still_of k loads (Read r) r h refl

pub again_moved : (k : Kind) (loads : List Load) (first last : ℕ) → ReadsWhole k loads (Again k first last) → Moved loads first last
again_moved k loads first last h = moved_of k loads (Again k first last) first last h refl

-- the kinds that are read at the counter are read in full
at_counter : (k : Kind) → IsAtCounter k → way_of k ≡ full
at_counter kind.Abs at = refl
at_counter kind.Mono at = refl
at_counter kind.Uptime at = refl
at_counter kind.Utc at = refl
at_counter kind.Fast at = absurd at
at_counter kind.Diff at = absurd at
at_counter kind.Back at = absurd at

pub kinds_stood : (ask : Ask) (loads : List Load) (r : Reading) → IsAtCounter ask.kind → Reads ask loads (Read r) → StoodStill ask.kind loads r
kinds_stood ask loads r at reads = read_stood ask.kind loads r (subst (λ y. ReadsBy y ask loads (Read r)) (at_counter ask.kind at) reads)
