-- The command that words are, and the lines of the program.
use Rattle.std.proofs.Common.{◌≡◌, ◌≢◌, ◌↔◌, ◌==◌, ◌⊎◌, ◌^◌, ◌-◌, ℕ, List, [], ◌∷◌, Bool, true, false, inl, inr, Option, Some, None, codes, if◌then◌else◌, refl, ap, sym, ◌∙◌, subst, true≢false}
use Rattle.std.specs.Prelude.{Result, Ok, Err, IfOk, IsErrAnd, MatchResult, option_map, option_and_then}
use Rattle.std.specs.List.{IsDistinct}
use Rattle.std.specs.Option.{option_zip}
use Rattle.std.specs.Str.{bytes_eq, chars}
use Rattle.std.proofs.lemmas.Bool.{eqb-true}
use Rattle.std.proofs.lemmas.Slice.Eq.{bytes_eq-Decides}
use Rattle.stamp_text.specs.Digits.{is_number, number_in}
use Rattle.clock_words.specs.Rows.{Text, Item, has, is_given, is_value, items_in, items_from}
use Rattle.clock_words.specs.Parts.{AreOnce, AreParts, AreWritten, dashed, nothing, flag, apart, joined, placed}
use Rattle.clock_words.specs.Lines.{IsLine, stamps, rtt, estimate, ticks, replay, make, run, ideal_run, capture, bare_row, ticks_row, replay_row, make_row, run_row, back_name, crank_name, utc_name, lane_name, ideal_name, number_name, count_name, most_made, most_ran, within, number_within, ticks_told, timers_told, readers_told, reads_told, ticks_by, ticks_of, has_both, replay_by, replay_of, make_of, run_of, ideal_is_early, command_in}
use Rattle.clock_words.specs.declared.commands.Command.{Command}
use Rattle.clock_words.specs.declared.commands.Command.TheVariants as command
use Rattle.clock_words.specs.declared.commands.Report.{Report}
use Rattle.clock_words.specs.declared.commands.Report.TheVariants as report
use Rattle.clock_words.proofs.Bools.{or_false}
use Rattle.clock_words.proofs.Written.{written}

-- no words are parts of a row that has none
no_parts : (left words : List Text) (items : List Item) → AreParts bare_row left words items → left ≡ [] → words ≡ []
no_parts left words items (nothing l) e = refl
no_parts left words items (flag n l ws is h rest) e = absurd (true≢false (sym h))
no_parts left words items (apart n v l ws is h u rest) e = absurd (true≢false (sym h))
no_parts left words items (joined n v l ws is h rest) e = absurd (true≢false (sym h))
no_parts left words items (placed n v l ws is u rest) e = absurd (let q : n ∷ l ≡ [] = e in cc)

-- words are the values of the places, from the first on, where a row has nothing else
abbrev AreValues : List Text → List Text → List Item → Type 0
AreValues [] left items = items ≡ []
AreValues (w ∷ ws) [] items = ⊥
AreValues (w ∷ ws) (n ∷ ns) items = (rest : List Item) × (items ≡ (n, w) ∷ rest) × AreValues ws ns rest

are_values : (left words : List Text) (items : List Item) → AreParts make_row left words items → AreValues words left items
are_values left words items (nothing l) = refl
are_values left words items (flag n l ws is h rest) = absurd (true≢false (sym h))
are_values left words items (apart n v l ws is h u rest) = absurd (true≢false (sym h))
are_values left words items (joined n v l ws is h rest) = absurd (true≢false (sym h))
are_values left words items (placed n v l ws is u rest) = (is, refl, are_values l ws is rest)

-- the flag of `run` is `--ideal`
ideal_flag : (n : Text) → has run_row.flags n ≡ true → n ≡ ideal_name
ideal_flag n e = by_name (bytes_eq ideal_name n) refl
  where
    by_name : (b : Bool) → bytes_eq ideal_name n ≡ b → n ≡ ideal_name
    by_name true f = sym ((bytes_eq-Decides ideal_name n).0 f)
    by_name false f = absurd (true≢false (sym e ∙ rw f refl))

-- a word of `run` is a value for the next place
record IsPlaced (left : List Text) (word : Text) (words : List Text) (items : List Item) : Type 0 where
  place : Text
  more : List Text
  rest : List Item
  left_is : left ≡ place ∷ more
  items_are : items ≡ (place, word) ∷ rest
  parts : AreParts run_row more words rest

-- where it is not the flag
placed_word : (left all : List Text) (items : List Item) → AreParts run_row left all items → (w : Text) (words : List Text) → all ≡ w ∷ words
    → bytes_eq w (dashed ideal_name) ≡ false → IsPlaced left w words items
placed_word left all items (nothing l) w words e other = absurd (let q : [] ≡ w ∷ words = e in cc)
placed_word left all items (flag n l ws is h rest) w words e other =
    let same : dashed n ≡ w = (let q : dashed n ∷ ws ≡ w ∷ words = e in cc) in
    absurd (true≢false (sym ((bytes_eq-Decides w (dashed ideal_name)).1 (sym same ∙ ap dashed (ideal_flag n h))) ∙ other))
placed_word left all items (apart n v l ws is h u rest) w words e other = absurd (true≢false (sym h))
placed_word left all items (joined n v l ws is h rest) w words e other = absurd (true≢false (sym h))
placed_word left all items (placed n v l ws is u rest) w words e other =
    let same : v ≡ w = (let q : v ∷ ws ≡ w ∷ words = e in cc) in
    let others : ws ≡ words = (let q : v ∷ ws ≡ w ∷ words = e in cc) in
    record {
      place = n;
      more = l;
      rest = is;
      left_is = refl;
      items_are = ap (λ x. (n, x) ∷ is) same;
      parts = subst (λ ws. AreParts run_row l ws is) others rest;
    }

-- no words are no items
no_items : (left words : List Text) (items : List Item) → AreParts run_row left words items → words ≡ [] → items ≡ []
no_items left words items (nothing l) e = refl
no_items left words items (flag n l ws is h rest) e = absurd (let q : dashed n ∷ ws ≡ [] = e in cc)
no_items left words items (apart n v l ws is h u rest) e = absurd (true≢false (sym h))
no_items left words items (joined n v l ws is h rest) e = absurd (true≢false (sym h))
no_items left words items (placed n v l ws is u rest) e = absurd (let q : v ∷ ws ≡ [] = e in cc)

abbrev only_flag : List Item
only_flag = (ideal_name, codes "true") ∷ []

-- behind its places `run` has its flag, or nothing
few_words : (left words : List Text) (items : List Item) → AreParts run_row left words items → left ≡ [] → AreOnce items
    → ((words ≡ []) × (items ≡ [])) ⊎ ((words ≡ codes "--ideal" ∷ []) × (items ≡ only_flag))
unfolding IsDistinct
few_words left words items (nothing l) e once = inl (refl, refl)
few_words left words items (flag n l ws is h rest) e once =
    let same = ideal_flag n h in
    elim (few_words l ws is rest e once.1) [
      | inl none ↦ inr (
        ap (λ m. dashed m ∷ ws) same ∙ ap (λ ws. codes "--ideal" ∷ ws) none.0,
        ap (λ m. (m, codes "true") ∷ is) same
            ∙ ap (λ is. (ideal_name, codes "true") ∷ is) none.1,
      )
      | inr one ↦ absurd (
          let twice : AreOnce ((n, codes "true") ∷ only_flag) = subst (λ is. AreOnce ((n, codes "true") ∷ is)) one.1 once in
          true≢false (sym ((bytes_eq-Decides n ideal_name).1 same) ∙ twice.0.0))
    ]
few_words left words items (apart n v l ws is h u rest) e once = absurd (true≢false (sym h))
few_words left words items (joined n v l ws is h rest) e once = absurd (true≢false (sym h))
few_words left words items (placed n v l ws is u rest) e once = absurd (let q : n ∷ l ≡ [] = e in cc)

-- ---- from a command to a line

bare_line : (bare : Command) (name : Text) (words : List Text) (c : Command) → IsLine (name ∷ []) bare
    → option_map (λ items. bare) (items_in bare_row words) ≡ Some c → IsLine (name ∷ words) c
bare_line bare name words c line e = by_items (items_in bare_row words) refl
  where
    by_items : (x : Option (List Item)) → items_in bare_row words ≡ x → IsLine (name ∷ words) c
    by_items None f = absurd (let q : None ≡ Some c = sym (rw f refl) ∙ e in cc)
    by_items (Some items) f =
        let none : words ≡ [] = no_parts [] words items ((written bare_row refl words items).0 f).parts refl in
        let same : Some bare ≡ Some c = sym (rw f refl) ∙ e in
        subst (λ (ws : List Text). IsLine (name ∷ ws) c) (sym none) (subst (IsLine (name ∷ [])) (let q : bare ≡ c = cc in q) line)

ticks_line : (words : List Text) (c : Command) → option_and_then ticks_of (items_in ticks_row words) ≡ Some c → IsLine (codes "ticks" ∷ words) c
ticks_line words c e = by_items (items_in ticks_row words) refl
  where
    by_numbers : (items : List Item) → items_in ticks_row words ≡ Some items → (n : Option ℕ) → ticks_told items ≡ n
        → (timers : Option (Option ℕ)) → timers_told items ≡ timers → ticks_by n timers ≡ Some c → IsLine (codes "ticks" ∷ words) c
    by_numbers items f None k timers l h = absurd (let q : None ≡ Some c = h in cc)
    by_numbers items f (Some n) k None l h = absurd (let q : None ≡ Some c = h in cc)
    by_numbers items f (Some n) k (Some timers) l h = subst (IsLine (codes "ticks" ∷ words))
        (let q : command.Report (report.Ticks n timers) ≡ c = cc in q) (ticks words items n timers ((written ticks_row refl words items).0 f) k l)

    by_items : (x : Option (List Item)) → items_in ticks_row words ≡ x → IsLine (codes "ticks" ∷ words) c
    by_items None f = absurd (let q : None ≡ Some c = sym (rw f refl) ∙ e in cc)
    by_items (Some items) f = by_numbers items f _ refl _ refl (sym (rw f refl) ∙ e)

replay_line : (words : List Text) (c : Command) → option_and_then replay_of (items_in replay_row words) ≡ Some c → IsLine (codes "replay" ∷ words) c
replay_line words c e = by_items (items_in replay_row words) refl
  where
    by_numbers : (items : List Item) → items_in replay_row words ≡ Some items → (n : Option ℕ) → ticks_told items ≡ n
        → (readers : Option ℕ) → readers_told items ≡ readers
        → (reads : Option ℕ) → reads_told items ≡ reads → has_both items ≡ false → replay_by (is_given back_name items) (is_given crank_name items)
        (is_given utc_name items) (is_given lane_name items) n readers reads ≡ Some c → IsLine (codes "replay" ∷ words) c
    by_numbers items f None k readers l reads m b h = absurd (let q : None ≡ Some c = h in cc)
    by_numbers items f (Some n) k None l reads m b h = absurd (let q : None ≡ Some c = h in cc)
    by_numbers items f (Some n) k (Some readers) l None m b h = absurd (let q : None ≡ Some c = h in cc)
    by_numbers items f (Some n) k (Some readers) l (Some reads) m b h =
        subst (IsLine (codes "replay" ∷ words)) (let q : command.Report
        (report.Replay n readers reads (is_given back_name items) (is_given crank_name items) (is_given utc_name items) (is_given lane_name items))
        ≡ c = cc in q) (replay words items n readers reads ((written replay_row refl words items).0 f) k l m b)

    by_both : (items : List Item) → items_in replay_row words ≡ Some items → (b : Bool) → has_both items ≡ b → replay_of items ≡ Some c
        → IsLine (codes "replay" ∷ words) c
    by_both items f true b h = absurd (let q : None ≡ Some c = sym (rw b refl) ∙ h in cc)
    by_both items f false b h = by_numbers items f _ refl _ refl _ refl b (sym (rw b refl) ∙ h)

    by_items : (x : Option (List Item)) → items_in replay_row words ≡ x → IsLine (codes "replay" ∷ words) c
    by_items None f = absurd (let q : None ≡ Some c = sym (rw f refl) ∙ e in cc)
    by_items (Some items) f = by_both items f _ refl (sym (rw f refl) ∙ e)

-- what is made of two numbers
abbrev made_by : (ℕ → ℕ → Command) → Option ℕ → Option ℕ → Option Command
made_by of a b = option_map (λ p. of p.0 p.1) (option_zip a b)

two_numbers : (of : ℕ → ℕ → Command) (IsSo : Command → Type 0) (most : ℕ)
    (first second : Text) → ((n k : ℕ) → number_within 0 (2 ^ 32 - 1) first ≡ Some n → number_within 1 most second ≡ Some k → IsSo (of n k))
    → (c : Command) → made_by of (number_within 0 (2 ^ 32 - 1) first) (number_within 1 most second) ≡ Some c → IsSo c
two_numbers of IsSo most first second so c e = by_numbers (number_within 0 (2 ^ 32 - 1) first) refl (number_within 1 most second) refl e
  where
    by_numbers : (a : Option ℕ) → number_within 0 (2 ^ 32 - 1) first ≡ a → (b : Option ℕ) → number_within 1 most second ≡ b → made_by of a b ≡ Some c → IsSo c
    by_numbers None f b g h = absurd (let q : None ≡ Some c = h in cc)
    by_numbers (Some n) f None g h = absurd (let q : None ≡ Some c = h in cc)
    by_numbers (Some n) f (Some k) g h = subst IsSo (let q : of n k ≡ c = cc in q) (so n k f g)

no_pair : (of : ℕ → ℕ → Command) (a : Option ℕ) (c : Command) → made_by of a None ≡ Some c → ⊥
no_pair of None c e = cc
no_pair of (Some n) c e = cc

make_items : (words : List Text) (items : List Item) (c : Command) → AreValues words (number_name ∷ count_name ∷ []) items → make_of items ≡ Some c
    → IsLine (codes "make" ∷ words) c
make_items [] items c a e = absurd (let q : None ≡ Some c = sym (ap make_of a) ∙ e in cc)
make_items (v ∷ []) items c a e =
    let one : items ≡ (number_name, v) ∷ [] = a.1 ∙ ap (λ is. (number_name, v) ∷ is) a.2 in
    absurd (no_pair command.Make (number_within 0 (2 ^ 32 - 1) v) c (sym (ap make_of one) ∙ e))
make_items (v ∷ w ∷ []) items c a e =
    let two : items ≡ (number_name, v) ∷ (count_name, w) ∷ [] = a.1 ∙ ap (λ is. (number_name, v) ∷ is) (a.2.1 ∙ ap (λ is. (count_name, w) ∷ is) a.2.2) in
    two_numbers command.Make (IsLine (codes "make" ∷ v ∷ w ∷ [])) most_made v w (make v w) c (sym (ap make_of two) ∙ e)
make_items (v ∷ w ∷ x ∷ xs) items c a e = absurd (a.2.2)

make_line : (words : List Text) (c : Command) → option_and_then make_of (items_in make_row words) ≡ Some c → IsLine (codes "make" ∷ words) c
make_line words c e = by_items (items_in make_row words) refl
  where
    by_items : (x : Option (List Item)) → items_in make_row words ≡ x → IsLine (codes "make" ∷ words) c
    by_items None f = absurd (let q : None ≡ Some c = sym (rw f refl) ∙ e in cc)
    by_items (Some items) f = make_items words items c (are_values _ words items ((written make_row refl words items).0 f).parts) (sym (rw f refl) ∙ e)

-- the command of `run`, with its flag or without
abbrev ran : Bool → ℕ → ℕ → Command
ran ideal number count = command.Run number count ideal

run_items : (words : List Text) (items : List Item) (c : Command) → ideal_is_early words ≡ false
    → AreParts run_row (number_name ∷ count_name ∷ []) words items → AreOnce items → run_of items ≡ Some c → IsLine (codes "run" ∷ words) c
unfolding IsDistinct
run_items [] items c late parts once e = absurd (let q : None ≡ Some c = sym (ap run_of (no_items _ [] items parts refl)) ∙ e in cc)
run_items (v ∷ []) items c late parts once e =
    let first = placed_word _ _ items parts v [] refl (or_false _ false late).0 in
    let place : number_name ≡ first.place = (let q : number_name ∷ count_name ∷ [] ≡ first.place ∷ first.more = first.left_is in cc) in
    let one : items ≡ (number_name, v) ∷ [] = first.items_are ∙ ap (λ m. (m, v) ∷ first.rest) (sym place)
    ∙ ap (λ is. (number_name, v) ∷ is) (no_items _ [] first.rest first.parts refl) in
    absurd (no_pair (ran false) (number_within 0 (2 ^ 32 - 1) v) c (sym (ap run_of one) ∙ e))
run_items (v ∷ w ∷ ws) items c late parts once e =
    let others = or_false _ _ late in
    let first = placed_word _ _ items parts v (w ∷ ws) refl others.0 in
    let place : number_name ≡ first.place = (let q : number_name ∷ count_name ∷ [] ≡ first.place ∷ first.more = first.left_is in cc) in
    let left : count_name ∷ [] ≡ first.more = (let q : number_name ∷ count_name ∷ [] ≡ first.place ∷ first.more = first.left_is in cc) in
    let second = placed_word _ _ first.rest first.parts w ws refl (or_false _ false others.1).0 in
    let next : count_name ∷ [] ≡ second.place ∷ second.more = left ∙ second.left_is in
    let place_2 : count_name ≡ second.place = cc in
    let left_2 : second.more ≡ [] = cc in
    let two : items ≡ (number_name, v) ∷ (count_name, w) ∷ second.rest = first.items_are ∙ ap (λ m. (m, v) ∷ first.rest) (sym place)
    ∙ ap (λ is. (number_name, v) ∷ is) (second.items_are ∙ ap (λ m. (m, w) ∷ second.rest) (sym place_2)) in
    let once_2 : AreOnce ((number_name, v) ∷ (count_name, w) ∷ second.rest) = subst AreOnce two once in
    elim (few_words second.more ws second.rest second.parts left_2 once_2.1.1) [
      | inl none ↦
          let all : items ≡ (number_name, v) ∷ (count_name, w) ∷ [] = two ∙ ap (λ is. (number_name, v) ∷ (count_name, w) ∷ is) none.1 in
          subst (λ ws. IsLine (codes "run" ∷ v ∷ w ∷ ws) c) (sym none.0)
          (two_numbers (ran false) (IsLine (codes "run" ∷ v ∷ w ∷ [])) most_ran v w (run v w) c (sym (ap run_of all) ∙ e))
      | inr one ↦
          let all : items ≡ (number_name, v) ∷ (count_name, w) ∷ only_flag = two ∙ ap (λ is. (number_name, v) ∷ (count_name, w) ∷ is) one.1 in
          subst (λ ws. IsLine (codes "run" ∷ v ∷ w ∷ ws) c) (sym one.0)
          (two_numbers (ran true) (IsLine (codes "run" ∷ v ∷ w ∷ codes "--ideal" ∷ [])) most_ran v w (ideal_run v w) c (sym (ap run_of all) ∙ e))
    ]

run_line : (words : List Text) (c : Command) → (if ideal_is_early words then None else option_and_then run_of (items_in run_row words)) ≡ Some c
    → IsLine (codes "run" ∷ words) c
run_line words c e = by_flag (ideal_is_early words) refl
  where
    by_items : ideal_is_early words ≡ false → (x : Option (List Item)) → items_in run_row words ≡ x → option_and_then run_of x ≡ Some c
        → IsLine (codes "run" ∷ words) c
    by_items late None f h = absurd (let q : None ≡ Some c = h in cc)
    by_items late (Some items) f h = let w = (written run_row refl words items).0 f in run_items words items c late w.parts w.once h

    by_flag : (b : Bool) → ideal_is_early words ≡ b → IsLine (codes "run" ∷ words) c
    by_flag true f = absurd (let q : None ≡ Some c = sym (rw f refl) ∙ e in cc)
    by_flag false f = by_items f (items_in run_row words) refl (sym (rw f refl) ∙ e)

-- words that begin with a name, or with another one
named_line : (name m : Text) (words : List Text) (c : Command) → (a b : Option Command) → (a ≡ Some c → IsLine (m ∷ words) c)
    → (b ≡ Some c → IsLine (name ∷ words) c) → (if bytes_eq name m then a else b) ≡ Some c → IsLine (name ∷ words) c
named_line name m words c a b here other e = by_name (bytes_eq name m) refl
  where
    by_name : (x : Bool) → bytes_eq name m ≡ x → IsLine (name ∷ words) c
    by_name true f = subst (λ (n : Text). IsLine (n ∷ words) c) (sym ((bytes_eq-Decides name m).0 f)) (here (sym (rw f refl) ∙ e))
    by_name false f = other (sym (rw f refl) ∙ e)

to_line : (words : List Text) (c : Command) → command_in words ≡ Some c → IsLine words c
unfolding command_in
to_line [] c e = absurd (let q : None ≡ Some c = e in cc)
to_line (name ∷ words) c e =
    named_line name (codes "stamps") words c _ _ (bare_line (command.Report report.Stamps) (codes "stamps") words c stamps)
    (named_line name (codes "rtt") words c _ _ (bare_line (command.Report report.Rtt) (codes "rtt") words c rtt)
    (named_line name (codes "estimate") words c _ _ (bare_line (command.Report report.Estimate) (codes "estimate") words c estimate)
    (named_line name (codes "ticks") words c _ _ (ticks_line words c)
    (named_line name (codes "replay") words c _ _ (replay_line words c)
    (named_line name (codes "make") words c _ _ (make_line words c)
    (named_line name (codes "run") words c _ _ (run_line words c)
    (named_line name (codes "capture") words c _ _ (bare_line command.Capture (codes "capture") words c capture)
    (λ h. absurd (let q : None ≡ Some c = h in cc))))))))) e

-- ---- from a line to a command

is_some_within : (least most : ℕ) (x : Option ℕ) (n : ℕ) → within least most x ≡ Some n → x ≢ None
is_some_within least most None n e h = cc
is_some_within least most (Some m) n e h = cc

-- a number does not begin with `-`
number_plain : (text : Text) → number_in text ≢ None → (is_value text ≡ true) × (bytes_eq text (codes "--") ≡ false)
number_plain [] some = absurd (some refl)
number_plain (x ∷ xs) some = by_dash (x == 45) refl
  where
    no_dash : (ys : Text) → is_number 45 ys ≡ false
    no_dash [] = refl
    no_dash (y ∷ ys) = refl

    by_dash : (b : Bool) → (x == 45) ≡ b → (is_value (x ∷ xs) ≡ true) × (bytes_eq (x ∷ xs) (codes "--") ≡ false)
    by_dash true f =
        let none : is_number x xs ≡ false = ap (λ k. is_number k xs) (eqb-true x 45 f) ∙ no_dash xs in
        absurd (some (rw none refl))
    by_dash false f = (rw f refl, rw f refl)

place_plain : (least most : ℕ) (text : Text) (n : ℕ) → number_within least most text ≡ Some n → (is_value text ≡ true) × (bytes_eq text (codes "--") ≡ false)
place_plain least most text n e = number_plain text (is_some_within least most (number_in text) n e)

pair_written : (first second : Text) → (is_value first ≡ true) × (bytes_eq first (codes "--") ≡ false) → (is_value second ≡ true)
    × (bytes_eq second (codes "--") ≡ false)
    → AreWritten make_row (first ∷ second ∷ []) ((number_name, first) ∷ (count_name, second) ∷ [])
unfolding IsDistinct
pair_written first second a b = record {
  parts = placed number_name first _ _ _ a.0 (placed count_name second _ _ _ b.0 (nothing []));
  once = ((refl, tt), (tt, tt));
  no_dashes = rw (a.1, b.1) refl;
}

-- a value is not the flag
no_flag : (text : Text) → is_value text ≡ true → bytes_eq text (codes "--ideal") ≡ false
unfolding chars
no_flag text value = by_test (bytes_eq text (codes "--ideal")) refl
  where
    by_test : (b : Bool) → bytes_eq text (codes "--ideal") ≡ b → b ≡ false
    by_test true f = absurd (true≢false (sym value ∙ ap is_value ((bytes_eq-Decides text (codes "--ideal")).0 f)))
    by_test false f = refl

late_flag : (first second : Text) (rest : List Text) → is_value first ≡ true → is_value second ≡ true → ideal_is_early (first ∷ second ∷ rest) ≡ false
late_flag first second rest a b = rw (no_flag first a, no_flag second b) refl

run_written : (first second : Text) → (is_value first ≡ true) × (bytes_eq first (codes "--") ≡ false) → (is_value second ≡ true)
    × (bytes_eq second (codes "--") ≡ false)
    → AreWritten run_row (first ∷ second ∷ []) ((number_name, first) ∷ (count_name, second) ∷ [])
unfolding IsDistinct
run_written first second a b = record {
  parts = placed number_name first _ _ _ a.0 (placed count_name second _ _ _ b.0 (nothing []));
  once = ((refl, tt), (tt, tt));
  no_dashes = rw (a.1, b.1) refl;
}

ideal_written : (first second : Text) → (is_value first ≡ true) × (bytes_eq first (codes "--") ≡ false) → (is_value second ≡ true)
    × (bytes_eq second (codes "--") ≡ false)
    → AreWritten run_row (first ∷ second ∷ codes "--ideal" ∷ []) ((number_name, first) ∷ (count_name, second) ∷ only_flag)
unfolding IsDistinct
ideal_written first second a b = record {
  parts = placed number_name first _ _ _ a.0 (placed count_name second _ _ _ b.0 (flag ideal_name [] [] [] refl (nothing [])));
  once = ((refl, (refl, tt)), ((refl, tt), (tt, tt)));
  no_dashes = rw (a.1, b.1) refl;
}

-- words whose flag is late are the command of their items
by_late : (words : List Text) (items : List Item) (c : Command) → ideal_is_early words ≡ false → AreWritten run_row words items
    → run_of items ≡ Some c → (if ideal_is_early words then None else option_and_then run_of (items_in run_row words)) ≡ Some c
by_late words items c late w e = rw late (ap (option_and_then run_of) ((written run_row refl words items).1 w) ∙ e)

to_command : (words : List Text) (c : Command) → IsLine words c → command_in words ≡ Some c
unfolding command_in items_in items_from
to_command words c stamps = refl
to_command words c rtt = refl
to_command words c estimate = refl
to_command words c capture = refl
to_command words c (ticks rest items n timers w h k) = ap (option_and_then ticks_of) ((written ticks_row refl rest items).1 w) ∙ rw (h, k) refl
to_command words c (replay rest items n readers reads w k l m b) =
    ap (option_and_then replay_of) ((written replay_row refl rest items).1 w)
    ∙ rw (k, l, m, b) refl
to_command words c (make first second number count f g) =
    ap (option_and_then make_of) ((written make_row refl _ _).1 (pair_written first second (place_plain _ _ first number f) (place_plain _ _ second count g)))
    ∙ ap (λ a. made_by command.Make a (number_within 1 most_made second)) f ∙ ap (made_by command.Make (Some number)) g
to_command words c (run first second number count f g) =
    let a = place_plain _ _ first number f in
    let b = place_plain _ _ second count g in
    by_late (first ∷ second ∷ []) _ c (late_flag first second [] a.0 b.0) (run_written first second a b)
    (ap (λ a. made_by (ran false) a (number_within 1 most_ran second)) f ∙ ap (made_by (ran false) (Some number)) g)
to_command words c (ideal_run first second number count f g) =
    let a = place_plain _ _ first number f in
    let b = place_plain _ _ second count g in
    by_late (first ∷ second ∷ codes "--ideal" ∷ []) _ c (late_flag first second (codes "--ideal" ∷ []) a.0 b.0) (ideal_written first second a b)
    (ap (λ a. made_by (ran true) a (number_within 1 most_ran second)) f ∙ ap (made_by (ran true) (Some number)) g)

-- words are a command exactly where they are a line of it
pub lined : (words : List Text) (c : Command) → (command_in words ≡ Some c) ↔ IsLine words c
lined words c = (to_line words c, to_command words c)

-- what an answer says of a line, its error replaced
pub line_mapped : {E D : Type 0} (words : List Text) (P : E → D → Type 0) (r : Result (Option Command) E)
    (s : Result (Option Command) D) → MatchResult r (λ x. s ≡ Ok x) (λ e. IsErrAnd s (P e)) → IfOk r (λ found. found ≡ command_in words)
    → IfOk s (λ found. (c : Command) → (found ≡ Some c) ↔ IsLine words c)
line_mapped words P (Ok found) s same is = subst (λ t. IfOk t (λ found. (c : Command) → (found ≡ Some c) ↔ IsLine words c)) (sym same)
    (λ c. (λ h. to_line words c (sym is ∙ h), λ line. is ∙ to_command words c line))
line_mapped words P (Err e) (Err d) fails is = tt
line_mapped words P (Err e) (Ok found) fails is = absurd fails
