-- The first stamp of least round trip.
use Rattle.std.proofs.Common.{◌≡◌, ℕ, ◌+◌, ◌-◌, ◌<◌, ◌≤◌, ◌==◌, Bool, List, [], ◌∷◌, ◌++◌, length, map, fold, min, take, drop, find, get_or, slice_get, slice_range, slice_index_or, false, Some, None, refl, sym, ap, ◌∙◌, subst, arith}
use Rattle.std.specs.List.{All, position_or_len}
use Rattle.std.specs.Option.{option_or}
use Rattle.std.proofs.lemmas.Bool.Decides.{nat_tests}
use Rattle.std.proofs.lemmas.List.{length-map, map_push, get_or-map}
use Rattle.std.proofs.lemmas.List.Elements.{All-nil, All-cons, All-head, All-tail}
use Rattle.std.proofs.lemmas.List.Folds.{find_at, find-append}
use Rattle.std.proofs.lemmas.List.Sums.{fails_before_first, passes_at_first, position_or_len_is}
use Rattle.std.proofs.lemmas.Option.{slice_get_within, get_or_from_slice_get}
use Rattle.stamp_text.specs.Accepted.{trip}
use Rattle.stamp_text.specs.declared.lines.Stamp.{Stamp}
use Rattle.rtt_window.specs.Bases.{least_of}
use Rattle.rtt_window.specs.Pairs.{first_least, IsFirstLeast}
use Rattle.rtt_window.proofs.Leasts.{least_of-push, range_more}

-- a least number is at most each of its numbers
fold-min-le : (m : ℕ) (ns : List ℕ) → fold min m ns ≤ m
fold-min-le m [] = omega arith
fold-min-le m (n ∷ ns) = omega (arith, fold-min-le (min m n) ns)

fold-min-all : (m : ℕ) (all : List Stamp) → All (λ s. fold min m (map trip all) ≤ trip s) all
fold-min-all m [] = All-nil (λ s. m ≤ trip s)
fold-min-all m (s ∷ ss) = All-cons (λ other. fold min (min m (trip s)) (map trip ss) ≤ trip other) s ss
    (omega (arith, fold-min-le (min m (trip s)) (map trip ss))) (fold-min-all (min m (trip s)) ss)

least-all : (all : List Stamp) → All (λ s. least_of (map trip all) ≤ trip s) all
least-all [] = All-nil (λ s. 0 ≤ trip s)
least-all (s ∷ ss) = All-cons (λ other. fold min (trip s) (map trip ss) ≤ trip other) s ss (fold-min-le (trip s) (map trip ss)) (fold-min-all (trip s) ss)

-- where a stamp with this round trip is first, and that there is none before
record IsFirstAt (m : ℕ) (all : List Stamp) (s : Stamp) : Type 0 where
  place : ℕ
  there : slice_get all place ≡ Some s
  is : trip s ≡ m
  none : (k : ℕ) (d : Stamp) → k < place → (trip (slice_index_or all k d) == m) ≡ false

-- what is found is there
found : (m : ℕ) (all : List Stamp) (s : Stamp) → find (λ s. trip s == m) all ≡ Some s → IsFirstAt m all s
found m all s e =
    let place : ℕ = position_or_len (λ s. trip s == m) all in
    let there : slice_get all place ≡ Some s = sym (find_at (λ s. trip s == m) all) ∙ e in
    let passes = passes_at_first (λ s. trip s == m) all s (slice_get_within all place s there) in
    let here = get_or_from_slice_get all place s s there in
    record { place = place; there = there; is = grind (arith, nat_tests); none = fails_before_first (λ s. trip s == m) all }

-- what is found at the least round trip is the first of least
pub first_least-is : (all : List Stamp) (s : Stamp) → first_least all ≡ Some s → IsFirstLeast all s
unfolding first_least
first_least-is all s e =
    let at = found (least_of (map trip all)) all s e in
    let within = slice_get_within all at.place s at.there in
    record {
      place = at.place;
      there = at.there;
      least = λ k d here. omega (arith, at.is, least-all all k d here);
      first = λ k d before. grind (arith, nat_tests, least-all all k d (omega arith), at.none k d before);
    }

-- what is not above any of the numbers is not above the least of them
fold-min-ge : (b m : ℕ) (ns : List ℕ) → b ≤ m → All (λ n. b ≤ n) ns → b ≤ fold min m ns
fold-min-ge b m [] head tail = head
fold-min-ge b m (n ∷ ns) head tail =
    let second : b ≤ n = All-head (λ n. b ≤ n) n ns tail in
    fold-min-ge b (min m n) ns (omega arith) (All-tail (λ n. b ≤ n) n ns tail)

least-ge : (b : ℕ) (all : List Stamp) → 0 < length all → All (λ s. b ≤ trip s) all → b ≤ least_of (map trip all)
least-ge b [] some are = absurd (omega arith)
least-ge b (s ∷ ss) some are = fold-min-ge b (trip s) (map trip ss) (All-head (λ s. b ≤ trip s) s ss are) (λ k d here.
    subst (λ n. b ≤ n) (sym (get_or-map trip ss k s d (omega (arith, length-map ss trip))))
    (All-tail (λ s. b ≤ trip s) s ss are k s (omega (arith, length-map ss trip))))

-- the first of least has the least round trip
least-is : (all : List Stamp) (s : Stamp) → IsFirstLeast all s → least_of (map trip all) ≡ trip s
least-is all s is =
    let within = slice_get_within all is.place s is.there in
    let here : get_or all is.place s ≡ s = get_or_from_slice_get all is.place s s is.there in
    omega (arith, least-ge (trip s) all (omega arith) is.least, subst (λ t. least_of (map trip all) ≤ trip t) here (least-all all is.place s within))

-- and the first of least is found
pub first_least-found : (all : List Stamp) (s : Stamp) → IsFirstLeast all s → first_least all ≡ Some s
unfolding first_least
first_least-found all s is =
    let least = least-is all s is in
    let within = slice_get_within all is.place s is.there in
    let here : get_or all is.place s ≡ s = get_or_from_slice_get all is.place s s is.there in
    let p : Stamp → Bool = λ t. trip t == least_of (map trip all) in
    let first : position_or_len p all ≡ is.place =
    position_or_len_is p all is.place s (omega arith) (λ k before. let after = is.first k s before in grind (arith, nat_tests))
    (λ _. grind (arith, nat_tests)) in
    find_at p all ∙ ap (slice_get all) first ∙ is.there

-- its round trip is the least of all
pub least-by-first : (all : List Stamp) (s : Stamp) → first_least all ≡ Some s → trip s ≡ least_of (map trip all)
least-by-first all s e = sym (least-is all s (first_least-is all s e))

-- where all round trips are greater, none is found
none-of-greater : (m : ℕ) (all : List Stamp) → All (λ s. m < trip s) all → find (λ s. trip s == m) all ≡ None
none-of-greater m [] greater = refl
none-of-greater m (s ∷ ss) greater =
    let head = All-head (λ s. m < trip s) s ss greater in
    let tail = none-of-greater m ss (All-tail (λ s. m < trip s) s ss greater) in
    grind (arith, nat_tests)

-- the least round trip with one more stamp
least-push : (all : List Stamp) (b s : Stamp) → first_least all ≡ Some b → least_of (map trip (all ++ s ∷ [])) ≡ min (trip b) (trip s)
unfolding first_least
least-push all b s e =
    let at = found (least_of (map trip all)) all b e in
    ap least_of (map_push trip all s)
    ∙ least_of-push (map trip all) (trip s) (omega (arith, length-map all trip, slice_get_within all at.place b at.there))
    ∙ ap (λ m. min m (trip s)) (sym at.is)

-- one more stamp with a lesser round trip is the first of least
takes : (all : List Stamp) (b s : Stamp) → first_least all ≡ Some b → trip s < trip b → first_least (all ++ s ∷ []) ≡ Some s
unfolding first_least
takes all b s e less =
    let is = first_least-is all b e in
    let new : least_of (map trip (all ++ s ∷ [])) ≡ trip s = least-push all b s e ∙ omega arith in
    ap (λ m. find (λ s. trip s == m) (all ++ s ∷ [])) new
    ∙ find-append (λ other. trip other == trip s) all (s ∷ [])
    ∙ ap (λ o. option_or o (find (λ other. trip other == trip s) (s ∷ []))) (none-of-greater (trip s) all (λ k d here. omega (arith, is.least k d here)))
    ∙ grind (arith, nat_tests)

-- and one with another round trip is not
keeps : (all : List Stamp) (b s : Stamp) → first_least all ≡ Some b → trip b ≤ trip s → first_least (all ++ s ∷ []) ≡ Some b
unfolding first_least
keeps all b s e more =
    let m : ℕ = least_of (map trip all) in
    let at = found m all b e in
    let same : least_of (map trip (all ++ s ∷ [])) ≡ m = least-push all b s e ∙ omega (arith, at.is) in
    ap (λ m. find (λ s. trip s == m) (all ++ s ∷ [])) same
    ∙ find-append (λ s. trip s == m) all (s ∷ [])
    ∙ ap (λ o. option_or o (find (λ s. trip s == m) (s ∷ []))) e

-- a range with one more stamp
range-push : (xs : List Stamp) (from i : ℕ) (s : Stamp) → from ≤ i → slice_get xs i ≡ Some s → slice_range xs from (i + 1) ≡ slice_range xs from i ++ s ∷ []
range-push xs from i s before e =
    range_more xs from i s before (slice_get_within xs i s e) ∙ ap (λ x. slice_range xs from i ++ x ∷ []) (get_or_from_slice_get xs i s s e)

-- a range of one stamp
pub first_least-one : (xs : List Stamp) (from : ℕ) (s : Stamp) → slice_get xs from ≡ Some s → first_least (slice_range xs from (from + 1)) ≡ Some s
unfolding first_least
first_least-one xs from s e =
    let none : from - from ≡ 0 = omega arith in
    let one : slice_range xs from (from + 1) ≡ s ∷ [] = range-push xs from from s (omega arith) e ∙ ap (λ n. take n (drop from xs) ++ s ∷ []) none in
    ap first_least one ∙ grind (arith, nat_tests)

-- the same of a range
pub first_least-takes : (xs : List Stamp) (from i : ℕ) (b s : Stamp) → from ≤ i → slice_get xs i ≡ Some s
    → first_least (slice_range xs from i) ≡ Some b → trip s < trip b → first_least (slice_range xs from (i + 1)) ≡ Some s
first_least-takes xs from i b s before here e less = ap first_least (range-push xs from i s before here) ∙ takes (slice_range xs from i) b s e less

pub first_least-keeps : (xs : List Stamp) (from i : ℕ) (b s : Stamp) → from ≤ i → slice_get xs i ≡ Some s
    → first_least (slice_range xs from i) ≡ Some b → trip b ≤ trip s → first_least (slice_range xs from (i + 1)) ≡ Some b
first_least-keeps xs from i b s before here e more = ap first_least (range-push xs from i s before here) ∙ keeps (slice_range xs from i) b s e more

-- each stamp goes forward where all do
pub forward-at : (xs : List Stamp) (i : ℕ) (s : Stamp) → All (λ s. s.ta < s.tf) xs → slice_get xs i ≡ Some s → s.ta < s.tf
forward-at xs i s forward e = subst (λ (s : Stamp). s.ta < s.tf) (get_or_from_slice_get xs i s s e) (forward i s (slice_get_within xs i s e))
