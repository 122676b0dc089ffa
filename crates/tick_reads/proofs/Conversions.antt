-- What a conversion decides is told by its loads, and its loads by what it decides.
use Rattle.std.proofs.Common.{◌≡◌, ◌≢◌, ℕ, suc, ◌+◌, ◌-◌, ◌/◌, ◌%◌, ◌<◌, ◌≤◌, ◌==◌, ◌&&◌, nat_lt, Bool, true, false, true≢false, List, [], ◌∷◌, ◌++◌, length, refl, ap, sym, ◌∙◌, subst, Option, Some, None, eq-eqb, ne_eqb, arith, append_assoc, le_refl}
use Rattle.std.proofs.lemmas.Bool.{eqb-true}
use borrow.Author.Tests.{ltb-true, ltb-false}
use Rattle.clock_lines.specs.declared.readings.Kind.TheVariants as kind
use Rattle.clock_lines.specs.declared.readings.Entry.{Entry}
use Rattle.clock_lines.specs.declared.readings.Entry.TheVariants.{Again}
use Rattle.hand_words.specs.Words.{unpack}
use Rattle.tick_reads.specs.declared.loads.Load.{Load}
use Rattle.tick_reads.specs.declared.loads.Load.TheVariants.{Turn, Field, Mark, Counter}
use Rattle.clock_logs.specs.Legal.{past}
use Rattle.tick_reads.specs.Looks.{full_mark, fields_from, look}
use Rattle.tick_reads.specs.Scans.{Scan, fresh, scan_at, is_even, ends, at_turn, goes_down, finds_top, finds_line, looks_at, finds_mark, walks, counts_back, opens_at, field_on, after, run, decided}
use Rattle.tick_reads.specs.Converts.{Down, opens, goes, ask_back, read_back, Looks, IsPast, Converts, moved, open_windup, not_yet, crossed, newest, older, oldest, too_old}
use Rattle.tick_reads.proofs.Endings.{after_by, Goes, astray, over, further, goes_to_end, false_and}
use Rattle.tick_reads.proofs.Runs.{run-append, fields_from-snoc, run_look, is_down, moves, finds_older, finds_open, finds_newest, finds_zero, finds_old, finds_ahead, reaches}

looks_run : (given w m : ℕ) (loads : List Load) (fields : List ℕ) (x : ℕ) → Looks given w m loads fields x
    → run (ask_back given) fresh loads ≡ after (ask_back given) (scan_at w m false fields []) (Mark m x)
looks_run given w m loads fields x l = ap (run (ask_back given) fresh) l.is
    ∙ (run-append (ask_back given) fresh l.before (look m fields x)
    ∙ (ap (λ s. run (ask_back given) s (look m fields x)) (is_down given w m l.before l.down) ∙ run_look given w m fields x))

past_run : (given w : ℕ) (loads : List Load) (fields : List ℕ) → IsPast given w loads fields → w % 2 ≡ 0
    → run (ask_back given) fresh loads ≡ scan_at w (w / 2) true fields []
past_run given w loads fields p even = looks_run given w (w / 2) loads fields _ p.looks ∙ finds_newest given w (w / 2) fields p.looks.long p.below refl even

answer_of : Scan → Option Entry
answer_of s = s.answer

-- each call of the order decides its answer
pub decides : (given w : ℕ) (loads : List Load) (e : Entry) → Converts given w loads e → decided (ask_back given) loads ≡ Some e
decides given w loads e (moved ls fields m mark l other) = ap (λ (s : Scan). s.answer)
    (looks_run given w m ls fields mark l ∙ moves given w m fields l.long mark other)
decides given w loads e (open_windup ls fields p odd) = ap (λ (s : Scan). s.answer)
    (looks_run given w (w / 2) ls fields _ p.looks ∙ finds_open given w (w / 2) fields p.looks.long p.below refl (λ z. omega arith))
decides given w loads e (not_yet ls fields counter p even less) =
    ap (λ (s : Scan). s.answer) (run-append (ask_back given) fresh ls (Counter counter ∷ [])
    ∙ (ap (λ s. after (ask_back given) s (Counter counter)) (past_run given w ls fields p even) ∙ finds_ahead given w (w / 2) fields counter less))
decides given w loads e (crossed ls fields counter turn p even up other) =
    ap (λ (s : Scan). s.answer) (run-append (ask_back given) fresh ls (Counter counter ∷ Turn turn ∷ [])
    ∙ (ap (λ s. after (ask_back given) (after (ask_back given) s (Counter counter)) (Turn turn)) (past_run given w ls fields p even)
    ∙ (ap (λ s. after (ask_back given) s (Turn turn)) (reaches given w (w / 2) fields counter up)
    ∙ ap (λ b. ends (Some (at_turn b (ask_back given) (scan_at w (w / 2) true fields (counter ∷ [])) turn))
    (scan_at w (w / 2) true fields (counter ∷ []))) (ne_eqb turn w other))))
decides given w loads e (newest ls fields counter p even up) =
    ap (λ (s : Scan). s.answer) (run-append (ask_back given) fresh ls (Counter counter ∷ Turn w ∷ [])
    ∙ (ap (λ s. after (ask_back given) (after (ask_back given) s (Counter counter)) (Turn w)) (past_run given w ls fields p even)
    ∙ (ap (λ s. after (ask_back given) s (Turn w)) (reaches given w (w / 2) fields counter up)
    ∙ ap (λ b. ends (Some (at_turn b (ask_back given) (scan_at w (w / 2) true fields (counter ∷ [])) w))
    (scan_at w (w / 2) true fields (counter ∷ []))) (eq-eqb w w refl))))
decides given w loads e (older ls fields m l near less) = ap (λ (s : Scan). s.answer)
    (looks_run given w m ls fields _ l ∙ finds_older given w m fields l.long less (λ same. omega arith))
decides given w loads e (oldest ls fields l low) = ap (λ (s : Scan). s.answer) (looks_run given w 0 ls fields _ l ∙ finds_zero given w 0 fields l.long low refl)
decides given w loads e (too_old ls fields m l some last low) =
    ap (λ (s : Scan). s.answer) (looks_run given w m ls fields _ l ∙ finds_old given w m fields l.long low (λ z. omega arith) last)

-- where an undecided conversion is
data Stage (given w : ℕ) : List Load → Scan → Type 0 where
  looking : (m : ℕ) (before : List Load) (fields : List ℕ) → Down given w m before
      → Stage given w (before ++ fields_from m 0 fields) (scan_at w m false fields [])
  lined : (loads : List Load) (fields : List ℕ) → IsPast given w loads fields → w % 2 ≡ 0 → Stage given w loads (scan_at w (w / 2) true fields [])
  counted : (loads : List Load) (fields : List ℕ) (c : ℕ) → IsPast given w loads fields → w % 2 ≡ 0 → given ≤ c
      → Stage given w (loads ++ Counter c ∷ []) (scan_at w (w / 2) true fields (c ∷ []))

module _ (given w : ℕ) where
  abbrev GoesOn : List Load → Scan → Type 0
  GoesOn = Goes (ask_back given) past refl (Stage given w) (Converts given w)

  go_astray : (loads : List Load) (s : Scan) → s.begun ≡ true → s.good ≡ false → s.answer ≡ None → GoesOn loads s
  go_astray = astray (ask_back given) past refl (Stage given w) (Converts given w)

  is_over : (loads : List Load) (s : Scan) (e : Entry) → s.begun ≡ true → Converts given w loads e → GoesOn loads (ends (Some e) s)
  is_over loads s e begun law = over (ask_back given) past refl (Stage given w) (Converts given w) loads (ends (Some e) s) e refl refl refl law

  go_further : (loads : List Load) (s : Scan) → Stage given w loads s → GoesOn loads s
  go_further = further (ask_back given) past refl (Stage given w) (Converts given w)

  append_none : (l : List Load) → l ++ [] ≡ l
  append_none [] = refl
  append_none (y ∷ ys) = ap (λ k. y ∷ k) (append_none ys)

  down-near : (m : ℕ) (loads : List Load) → Down given w m loads → m ≤ w / 2
  down-near m loads opens = le_refl (w / 2)
  down-near m loads (goes m' before fields d long low more) = let h = down-near (suc m') before d in omega arith

  module _ (m : ℕ) (before : List Load) (fields : List ℕ) (d : Down given w m before) where
    abbrev s : Scan
    s = scan_at w m false fields []

    abbrev so_far : List Load
    so_far = before ++ fields_from m 0 fields

    next_field : (t f x : ℕ) (a b : Bool) → (t == m) ≡ a → (f == length fields) ≡ b → GoesOn (so_far ++ Field t f x ∷ []) (field_on s t f x)
    next_field t f x false b e g = go_astray _ (field_on s t f x) refl (λ i. e i && (f == length fields)) refl
    next_field t f x true false e g = go_astray _ (field_on s t f x) refl (λ i. e i && g i) refl
    next_field t f x true true e g = let tick : t ≡ m = eqb-true t m e in let place : f ≡ 0
        + length fields = (let p = eqb-true f (length fields) g in omega arith) in
        let list : so_far ++ Field t f x ∷ [] ≡ before ++ fields_from m 0 (fields ++ x ∷ []) = (λ i. so_far ++ Field (tick i) (place i) x ∷ [])
        ∙ (append_assoc before (fields_from m 0 fields) (Field m (0 + length fields) x ∷ []) ∙ ap (λ l. before ++ l) (fields_from-snoc m 0 fields x)) in
        let scan : field_on s t f x ≡ scan_at w m false (fields ++ x ∷ []) [] = λ i. record (scan_at w m false (fields ++ x ∷ []) []) { good = e i && g i } in
        subst (λ (z : List Load × Scan). GoesOn z.0 z.1) (λ i. (sym list i, sym scan i)) (go_further _ _ (looking m before (fields ++ x ∷ []) d))

    module _ (t x : ℕ) (tick : t ≡ m) (long : length fields ≡ 15) where
      looks : Looks given w m (so_far ++ Mark t x ∷ []) fields x
      looks = record {
        before = before;
        down = d;
        is = ap (λ n. so_far ++ Mark n x ∷ []) tick
            ∙ append_assoc before (fields_from m 0 fields) (Mark m x ∷ []);
        long = long;
      }

      module _ (mark : x ≡ full_mark m) where
        list_is : so_far ++ Mark t x ∷ [] ≡ before ++ look m fields (full_mark m)
        list_is = (λ i. so_far ++ Mark (tick i) (mark i) ∷ []) ∙ append_assoc before (fields_from m 0 fields) (Mark m (full_mark m) ∷ [])

        whole_look : Looks given w m (so_far ++ Mark t x ∷ []) fields (full_mark m)
        whole_look = record { before = before; down = d; is = list_is; long = long }

        at_top : (a : Bool) → is_even w ≡ a → m ≡ w / 2 → (unpack fields).count < given → GoesOn (so_far ++ Mark t x ∷ []) (finds_top a (ask_back given) s)
        at_top true even top less = let p : IsPast given w (so_far ++ Mark t x ∷ [])
            fields = record { looks = subst (λ n. Looks given w n (so_far ++ Mark t x ∷ []) fields (full_mark n)) top whole_look; below = less } in
            subst (λ n. GoesOn (so_far ++ Mark t x ∷ []) (scan_at w n true fields [])) (sym top) (go_further _ _ (lined _ fields p (eqb-true (w % 2) 0 even)))
        at_top false even top less = let p : IsPast given w (so_far ++ Mark t x ∷ [])
            fields = record { looks = subst (λ n. Looks given w n (so_far ++ Mark t x ∷ []) fields (full_mark n)) top whole_look; below = less } in
            let ne : w % 2 ≢ 0 = λ z. true≢false (sym (eq-eqb (w % 2) 0 z) ∙ even) in is_over _ s _ refl (open_windup _ fields p (omega arith))

        at_line : (a : Bool) → (m == w / 2) ≡ a → (unpack fields).count < given → GoesOn (so_far ++ Mark t x ∷ []) (finds_line a (ask_back given) s)
        at_line true same less = at_top (is_even w) refl (eqb-true m (w / 2) same) less
        at_line false same less = let near = down-near m before d in let ne : m ≢ w / 2 = λ z. true≢false (sym (eq-eqb m (w / 2) z) ∙ same) in
            is_over _ s _ refl (older _ fields m whole_look (omega arith) less)

        at_down : (a b : Bool) → (m == 0) ≡ a → (m + 9 == w / 2) ≡ b → given ≤ (unpack fields).count
            → GoesOn (so_far ++ Mark t x ∷ []) (goes_down a b (ask_back given) s)
        at_down true b z last low = let zero-is : m ≡ 0 = eqb-true m 0 z in
            is_over _ s _ refl (subst (λ n. Converts given w (so_far ++ Mark t x ∷ []) (read_back given n fields)) (sym zero-is)
            (oldest _ fields (subst (λ n. Looks given w n (so_far ++ Mark t x ∷ []) fields (full_mark n)) zero-is whole_look) low))
        at_down false true z last low = let ne : m ≢ 0 = λ e. true≢false (sym (eq-eqb m 0 e) ∙ z) in
            is_over _ s _ refl (too_old _ fields m whole_look (omega arith) (eqb-true (m + 9) (w / 2) last) low)
        at_down false false z last low = let ne : m ≢ 0 = λ e. true≢false (sym (eq-eqb m 0 e) ∙ z) in let ne' : m
            + 9 ≢ w / 2 = λ e. true≢false (sym (eq-eqb (m + 9) (w / 2) e) ∙ last) in
            let up : suc (m - 1) ≡ m = omega arith in
            let list : before ++ look (suc (m - 1)) fields (full_mark (suc (m - 1))) ≡ so_far ++ Mark t x
            ∷ [] = ap (λ n. before ++ look n fields (full_mark n)) up ∙ sym list_is in
            let next : Down given w (m - 1) (before ++ look (suc (m - 1)) fields (full_mark (suc (m - 1)))) = goes (m - 1) before fields
            (subst (λ n. Down given w n before) (sym up) d) long low (λ e. omega arith) in
            go_further _ _ (subst (λ l. Stage given w l (scan_at w (m - 1) false [] [])) (append_none (so_far ++ Mark t x ∷ []))
            (looking (m - 1) _ [] (subst (Down given w (m - 1)) list next)))

        at_count : (a : Bool) → nat_lt (unpack fields).count given ≡ a → GoesOn (so_far ++ Mark t x ∷ []) (looks_at a (ask_back given) s)
        at_count true less = at_line (m == w / 2) refl (ltb-true _ _ less)
        at_count false less = at_down (m == 0) (m + 9 == w / 2) refl refl (ltb-false _ _ less)

      at_mark : (a : Bool) → (x == full_mark m) ≡ a → GoesOn (so_far ++ Mark t x ∷ []) (finds_mark a (ask_back given) s x)
      at_mark true same = at_count (eqb-true x (full_mark m) same) (nat_lt (unpack fields).count given) refl
      at_mark false same = is_over _ s _ refl (moved _ fields m x looks (λ e. true≢false (sym (eq-eqb x (full_mark m) e) ∙ same)))

    next_mark : (t x : ℕ) (a b : Bool) → (length fields == 15) ≡ a → (t == m) ≡ b → GoesOn (so_far ++ Mark t x ∷ []) (after (ask_back given) s (Mark t x))
    next_mark t x false b e g = subst (λ c. GoesOn (so_far ++ Mark t x ∷ []) (walks c (ask_back given) s x)) (λ i. sym e i && true && (t == m))
        (go_astray _ (ends None s) refl refl refl)
    next_mark t x true false e g = subst (λ c. GoesOn (so_far ++ Mark t x ∷ []) (walks c (ask_back given) s x)) (λ i. sym e i && true && sym g i)
        (go_astray _ (ends None s) refl refl refl)
    next_mark t x true true e g = subst (λ c. GoesOn (so_far ++ Mark t x ∷ []) (walks c (ask_back given) s x)) (λ i. sym e i && true && sym g i)
        (at_mark t x (eqb-true t m g) (eqb-true (length fields) 15 e) (x == full_mark m) refl)

  module _ (loads : List Load) (fields : List ℕ) (p : IsPast given w loads fields) (even : w % 2 ≡ 0) where
    past_mark : (before : List Load) (cs : List ℕ) (t x : ℕ) (a : Bool) → (length fields == 15) ≡ a
        → GoesOn (before ++ Mark t x ∷ []) (after (ask_back given) (scan_at w (w / 2) true fields cs) (Mark t x))
    past_mark before cs t x a e = subst (λ c. GoesOn (before ++ Mark t x ∷ []) (walks c (ask_back given) (scan_at w (w / 2) true fields cs) x))
        (λ i. sym (false_and (length fields == 15)) i && (t == w / 2)) (go_astray _ (ends None (scan_at w (w / 2) true fields cs)) refl refl refl)

    next_counter : (c : ℕ) (a : Bool) → nat_lt c given ≡ a → GoesOn (loads ++ Counter c ∷ [])
        (counts_back a (ask_back given) (scan_at w (w / 2) true fields []) c)
    next_counter c true less = is_over _ (scan_at w (w / 2) true fields []) _ refl (not_yet loads fields c p even (ltb-true c given less))
    next_counter c false less = go_further _ _ (counted loads fields c p even (ltb-false c given less))

    next_turn : (c x : ℕ) (a : Bool) → given ≤ c → (x == w) ≡ a
        → GoesOn ((loads ++ Counter c ∷ []) ++ Turn x ∷ []) (ends (Some (at_turn a (ask_back given) (scan_at w (w / 2) true fields (c ∷ [])) x))
        (scan_at w (w / 2) true fields (c ∷ [])))
    next_turn c x true up same = is_over _ (scan_at w (w / 2) true fields (c ∷ [])) _ refl
        (subst (λ l. Converts given w l (read_back given (w / 2) fields))
        (ap (λ y. loads ++ Counter c ∷ Turn y ∷ []) (sym (eqb-true x w same)) ∙ sym (append_assoc loads (Counter c ∷ []) (Turn x ∷ [])))
        (newest loads fields c p even up))
    next_turn c x false up same = is_over _ (scan_at w (w / 2) true fields (c ∷ [])) _ refl
        (subst (λ l. Converts given w l (Again kind.Back w x)) (sym (append_assoc loads (Counter c ∷ []) (Turn x ∷ [])))
        (crossed loads fields c x p even up (λ e. true≢false (sym (eq-eqb x w e) ∙ same))))

  next : (loads : List Load) (s : Scan) → Stage given w loads s → (l : Load) → GoesOn (loads ++ l ∷ []) (after_by past (ask_back given) s l)
  unfolding after_by
  next loads s (looking m before fields d) (Turn x) = go_astray _ (ends None (scan_at w m false fields [])) refl refl refl
  next loads s (looking m before fields d) (Field t f x) = next_field m before fields d t f x (t == m) (f == length fields) refl refl
  next loads s (looking m before fields d) (Mark t x) = next_mark m before fields d t x (length fields == 15) (t == m) refl refl
  next loads s (looking m before fields d) (Counter x) = go_astray _ (ends None (scan_at w m false fields [])) refl refl refl
  next loads s (lined ls fields p even) (Turn x) = go_astray _ (ends None (scan_at w (w / 2) true fields [])) refl refl refl
  next loads s (lined ls fields p even) (Field t f x) = go_astray _ (field_on (scan_at w (w / 2) true fields []) t f x) refl refl refl
  next loads s (lined ls fields p even) (Mark t x) = past_mark ls fields p even ls [] t x (length fields == 15) refl
  next loads s (lined ls fields p even) (Counter x) = next_counter ls fields p even x (nat_lt x given) refl
  next loads s (counted ls fields c p even up) (Turn x) = next_turn ls fields p even c x (x == w) up refl
  next loads s (counted ls fields c p even up) (Field t f x) = go_astray _ (field_on (scan_at w (w / 2) true fields (c ∷ [])) t f x) refl refl refl
  next loads s (counted ls fields c p even up) (Mark t x) = past_mark ls fields p even (ls ++ Counter c ∷ []) (c ∷ []) t x (length fields == 15) refl
  next loads s (counted ls fields c p even up) (Counter x) = go_astray _ (ends None (scan_at w (w / 2) true fields (c ∷ []))) refl refl refl

  undecided : (loads : List Load) (s : Scan) → Stage given w loads s → (s.begun ≡ true) × (s.answer ≡ None)
  undecided loads s (looking m before fields d) = (refl, refl)
  undecided loads s (lined ls fields p even) = (refl, refl)
  undecided loads s (counted ls fields c p even up) = (refl, refl)

-- the answer of a conversion tells its loads
pub explains : (given w : ℕ) (ls : List Load) (e : Entry) → decided (ask_back given) (Turn w ∷ ls) ≡ Some e → Converts given w (Turn w ∷ ls) e
explains given w ls e is = goes_to_end (ask_back given) past refl (Stage given w) (Converts given w) (undecided given w) (next given w) (Turn w ∷ [])
    (opens_at w) ls e (looking (w / 2) (Turn w ∷ []) [] opens) is
