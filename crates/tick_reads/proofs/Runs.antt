-- A call goes on load by load.
use Rattle.std.proofs.Common.{◌≡◌, ◌≢◌, ℕ, suc, ◌+◌, ◌-◌, ◌/◌, ◌%◌, ◌<◌, ◌≤◌, ◌==◌, ◌&&◌, nat_lt, Bool, true, false, not, List, [], ◌∷◌, ◌++◌, length, refl, ap, sym, ◌∙◌, Some, eq-eqb, ne_eqb, arith, append_assoc, length-append}
use Rattle.clock_lines.specs.declared.readings.Kind.TheVariants as kind
use Rattle.clock_lines.specs.declared.readings.Entry.TheVariants.{Again, TooOld, Ahead}
use Rattle.hand_words.specs.Words.{unpack}
use Rattle.tick_reads.specs.declared.loads.Ask.{Ask}
use Rattle.tick_reads.specs.declared.loads.Load.{Load}
use Rattle.tick_reads.specs.declared.loads.Load.TheVariants.{Turn, Field, Mark, Counter}
use Rattle.clock_logs.specs.Legal.{full, quick, way_of}
use Rattle.tick_reads.specs.Ways.{needs_even}
use Rattle.tick_reads.specs.Looks.{full_mark, fields_from, look}
use Rattle.tick_reads.specs.Scans.{Scan, fresh, scan_at, is_even, read_by, ends, at_turn, at_mark, turn_ends, mark_ends, opens_at, opened, turn_again, goes_down, finds_top, finds_line, looks_at, finds_mark, walks, mark_by, counts_back, takes_counter, after, run}
use Rattle.tick_reads.specs.Converts.{Down, opens, goes, ask_back}

pub run-append : (ask : Ask) (s : Scan) (ls ms : List Load) → run ask s (ls ++ ms) ≡ run ask (run ask s ls) ms
run-append ask s [] ms = refl
run-append ask s (x ∷ xs) ms = run-append ask (after ask s x) xs ms

pub run-snoc : (ask : Ask) (s : Scan) (ls : List Load) (l : Load) → run ask s (ls ++ l ∷ []) ≡ after ask (run ask s ls) l
run-snoc ask s ls l = run-append ask s ls (l ∷ [])

lt-true : (a b : ℕ) → a < b → nat_lt a b ≡ true
lt-true a b h = grind arith

lt-false : (a b : ℕ) → b ≤ a → nat_lt a b ≡ false
lt-false a b h = grind arith

-- a field more
pub fields_on : (ask : Ask) (w m f x : ℕ) (fields counters : List ℕ) → f ≡ length fields
    → after ask (scan_at w m false fields counters) (Field m f x) ≡ scan_at w m false (fields ++ x ∷ []) counters
fields_on ask w m f x fields counters next = λ i. record (scan_at w m false (fields ++ x ∷ []) counters) {
  good = eq-eqb m m refl i
      && eq-eqb f (length fields) next i;
}

-- a mark, for each of its answers
module _ (given w m : ℕ) (fields : List ℕ) (long : length fields ≡ 15) where
  abbrev here : Scan
  here = scan_at w m false fields []

  whole : (true && (length fields == 15) && true && (m == m)) ≡ true
  whole = λ i. (true && eq-eqb (length fields) 15 long i && true && eq-eqb m m refl i)

  at_the_mark : (x : ℕ) → after (ask_back given) here (Mark m x) ≡ finds_mark (x == full_mark m) (ask_back given) here x
  at_the_mark x = ap (λ b. walks b (ask_back given) here x) whole

  pub moves : (x : ℕ) → x ≢ full_mark m → after (ask_back given) here (Mark m x) ≡ ends (Some (Again kind.Back (full_mark m) x)) here
  moves x other = at_the_mark x ∙ ap (λ b. finds_mark b (ask_back given) here x) (ne_eqb x (full_mark m) other)

  stands : after (ask_back given) here (Mark m (full_mark m)) ≡ looks_at (nat_lt (unpack fields).count given) (ask_back given) here
  stands = at_the_mark (full_mark m) ∙ ap (λ b. finds_mark b (ask_back given) here (full_mark m)) (eq-eqb (full_mark m) (full_mark m) refl)

  is_below : (unpack fields).count < given → after (ask_back given) here (Mark m (full_mark m)) ≡ finds_line (m == w / 2) (ask_back given) here
  is_below less = stands ∙ ap (λ b. looks_at b (ask_back given) here) (lt-true _ _ less)

  not_below : given ≤ (unpack fields).count → after (ask_back given) here (Mark m (full_mark m)) ≡ goes_down (m == 0) (m + 9 == w / 2) (ask_back given) here
  not_below low = stands ∙ ap (λ b. looks_at b (ask_back given) here) (lt-false _ _ low)

  pub finds_older : (unpack fields).count < given → m ≢ w / 2
      → after (ask_back given) here (Mark m (full_mark m)) ≡ ends (Some (read_by (ask_back given) here)) here
  finds_older less other = is_below less ∙ ap (λ b. finds_line b (ask_back given) here) (ne_eqb m (w / 2) other)

  pub finds_open : (unpack fields).count < given → m ≡ w / 2 → w % 2 ≢ 0
      → after (ask_back given) here (Mark m (full_mark m)) ≡ ends (Some (Again kind.Back w w)) here
  finds_open less same odd = is_below less ∙ (ap (λ b. finds_line b (ask_back given) here) (eq-eqb m (w / 2) same)
      ∙ ap (λ b. finds_top b (ask_back given) here) (ne_eqb (w % 2) 0 odd))

  pub finds_newest : (unpack fields).count < given → m ≡ w / 2 → w % 2 ≡ 0 → after (ask_back given) here (Mark m (full_mark m)) ≡ scan_at w m true fields []
  finds_newest less same even = is_below less ∙ (ap (λ b. finds_line b (ask_back given) here) (eq-eqb m (w / 2) same)
      ∙ ap (λ b. finds_top b (ask_back given) here) (eq-eqb (w % 2) 0 even))

  pub finds_zero : given ≤ (unpack fields).count → m ≡ 0 → after (ask_back given) here (Mark m (full_mark m)) ≡ ends (Some (read_by (ask_back given) here)) here
  finds_zero low z = not_below low ∙ ap (λ b. goes_down b (m + 9 == w / 2) (ask_back given) here) (eq-eqb m 0 z)

  pub finds_old : given ≤ (unpack fields).count → m ≢ 0 → m + 9 ≡ w / 2
      → after (ask_back given) here (Mark m (full_mark m)) ≡ ends (Some (TooOld given (unpack fields).count)) here
  finds_old low nz last = not_below low ∙ (ap (λ b. goes_down b (m + 9 == w / 2) (ask_back given) here) (ne_eqb m 0 nz)
      ∙ ap (λ b. goes_down false b (ask_back given) here) (eq-eqb (m + 9) (w / 2) last))

  pub steps_down : given ≤ (unpack fields).count → m ≢ 0 → m + 9 ≢ w / 2 → after (ask_back given) here (Mark m (full_mark m)) ≡ scan_at w (m - 1) false [] []
  steps_down low nz more = not_below low ∙ (ap (λ b. goes_down b (m + 9 == w / 2) (ask_back given) here) (ne_eqb m 0 nz)
      ∙ ap (λ b. goes_down false b (ask_back given) here) (ne_eqb (m + 9) (w / 2) more))

-- the counter and the turn word, for a count past the newest tick
module _ (given w m : ℕ) (fields : List ℕ) where
  pub finds_ahead : (c : ℕ) → c < given → after (ask_back given) (scan_at w m true fields []) (Counter c) ≡ ends (Some (Ahead given c))
      (scan_at w m true fields [])
  finds_ahead c less = ap (λ b. counts_back b (ask_back given) (scan_at w m true fields []) c) (lt-true c given less)

  pub reaches : (c : ℕ) → given ≤ c → after (ask_back given) (scan_at w m true fields []) (Counter c) ≡ scan_at w m true fields (c ∷ [])
  reaches c up = ap (λ b. counts_back b (ask_back given) (scan_at w m true fields []) c) (lt-false c given up)

  pub ends_past : (c x : ℕ) → after (ask_back given) (scan_at w m true fields (c ∷ [])) (Turn x) ≡ ends
      (Some (at_turn (x == w) (ask_back given) (scan_at w m true fields (c ∷ [])) x)) (scan_at w m true fields (c ∷ []))
  ends_past c x = refl

append_none : (xs : List ℕ) → xs ++ [] ≡ xs
append_none [] = refl
append_none (x ∷ xs) = ap (λ l. x ∷ l) (append_none xs)

-- a row of fields
pub fields_from-snoc : (m f : ℕ) (xs : List ℕ) (x : ℕ) → fields_from m f xs ++ Field m (f + length xs) x ∷ [] ≡ fields_from m f (xs ++ x ∷ [])
fields_from-snoc m f [] x = ap (λ n. Field m n x ∷ []) (let e : f + 0 ≡ f = omega arith in e)
fields_from-snoc m f (y ∷ xs) x = ap (λ l. Field m f y ∷ l)
    (ap (λ n. fields_from m (f + 1) xs ++ Field m n x ∷ []) (let e : f + length (y ∷ xs) ≡ f + 1 + length xs = omega arith in e)
    ∙ fields_from-snoc m (f + 1) xs x)

pub run_fields : (ask : Ask) (w m : ℕ) (fields xs : List ℕ) → run ask (scan_at w m false fields []) (fields_from m (length fields) xs) ≡ scan_at w m
    false (fields ++ xs) []
run_fields ask w m fields [] = ap (λ l. scan_at w m false l []) (sym (append_none fields))
run_fields ask w m fields (x ∷ xs) = let longer : length fields + 1 ≡ length (fields ++ x ∷ []) = omega (arith, length-append fields (x ∷ [])) in
    ap (λ s. run ask s (fields_from m (length fields + 1) xs)) (fields_on ask w m (length fields) x fields [] refl)
    ∙ (ap (λ f. run ask (scan_at w m false (fields ++ x ∷ []) []) (fields_from m f xs)) longer
    ∙ (run_fields ask w m (fields ++ x ∷ []) xs ∙ ap (λ l. scan_at w m false l []) (append_assoc fields (x ∷ []) xs)))

pub run_look : (given w m : ℕ) (fields : List ℕ) (x : ℕ) → run (ask_back given) (scan_at w m false [] []) (look m fields x) ≡ after (ask_back given)
    (scan_at w m false fields []) (Mark m x)
run_look given w m fields x = run-append (ask_back given) (scan_at w m false [] []) (fields_from m 0 fields) (Mark m x ∷ [])
    ∙ ap (λ s. after (ask_back given) s (Mark m x)) (run_fields (ask_back given) w m [] fields)

-- while the marks stand and the counts are not below, the call is at the next tick
pub is_down : (given w m : ℕ) (loads : List Load) → Down given w m loads → run (ask_back given) fresh loads ≡ scan_at w m false [] []
is_down given w m loads opens = refl
is_down given w m loads (goes m' before fields down long low more) = let nz : suc m' ≢ 0 = λ e. omega arith in
    let back : suc m' - 1 ≡ m' = omega arith in run-append (ask_back given) fresh before (look (suc m) fields (full_mark (suc m)))
    ∙ (ap (λ s. run (ask_back given) s (look (suc m) fields (full_mark (suc m)))) (is_down given w (suc m) before down)
    ∙ (run_look given w (suc m) fields (full_mark (suc m)) ∙ (steps_down given w (suc m) fields long low nz more ∙ ap (λ t. scan_at w t false [] []) back)))

-- a full read, and a fast one
module _ (ask : Ask) (w m : ℕ) (fields : List ℕ) (long : length fields ≡ 15) where
  pub whole_counts : way_of ask.kind ≡ full → (c : ℕ) → after ask (scan_at w m false fields []) (Counter c) ≡ scan_at w m false fields (c ∷ [])
  whole_counts way c = (λ i. takes_counter (way i) ask (scan_at w m false fields []) c)
      ∙ (λ i. record (scan_at w m false fields (c ∷ [])) { good = true && eq-eqb (length fields) 15 long i })

  pub whole_ends : way_of ask.kind ≡ full → (c x : ℕ) → after ask (scan_at w m false fields (c ∷ [])) (Turn x) ≡ ends
      (Some (at_turn (x == w) ask (scan_at w m false fields (c ∷ [])) x)) (scan_at w m false fields (c ∷ []))
  whole_ends way c x = (λ i. turn_again (way i) ask (scan_at w m false fields (c ∷ [])) x)
      ∙ (λ i. ends (turn_ends (true && eq-eqb (length fields) 15 long i && true) ask (scan_at w m false fields (c ∷ [])) x) (scan_at w m false fields (c ∷ [])))

  pub light_ends : way_of ask.kind ≡ quick → (x : ℕ) → after ask (scan_at w m false fields []) (Mark m x) ≡ ends
      (Some (at_mark (x == full_mark m) ask (scan_at w m false fields []) x)) (scan_at w m false fields [])
  light_ends way x = (λ i. mark_by (way i) ask (scan_at w m false fields []) m x)
      ∙ (λ i. ends (mark_ends (true && eq-eqb (length fields) 15 long i && eq-eqb m m refl i) ask (scan_at w m false fields []) x)
      (scan_at w m false fields []))

-- the first load of a call that is not decided by it
pub opens_light : (ask : Ask) (w : ℕ) → way_of ask.kind ≡ quick → after ask fresh (Turn w) ≡ scan_at w (w / 2) false [] []
opens_light ask w way = λ i. opened (needs_even (way i) && not (is_even w)) ask w

pub opens_even : (ask : Ask) (w : ℕ) → w % 2 ≡ 0 → after ask fresh (Turn w) ≡ scan_at w (w / 2) false [] []
opens_even ask w even = (λ i. opened (needs_even (way_of ask.kind) && not (eq-eqb (w % 2) 0 even i)) ask w)
    ∙ ap (λ b. opened b ask w) (and_false (needs_even (way_of ask.kind)))
  where
    and_false : (b : Bool) → (b && false) ≡ false
    and_false true = refl
    and_false false = refl

pub opens_odd : (ask : Ask) (w : ℕ) → way_of ask.kind ≡ full → w % 2 ≢ 0 → after ask fresh (Turn w) ≡ ends (Some (Again ask.kind w w)) (opens_at w)
opens_odd ask w way odd = λ i. opened (needs_even (way i) && not (ne_eqb (w % 2) 0 odd i)) ask w
