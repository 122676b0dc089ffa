-- The pair of stamps among the last ones.
use Rattle.std.proofs.Common.{◌≡◌, ℕ, ◌+◌, ◌-◌, ◌<◌, ◌≤◌, nat_lt, true, false, Bool, cond, List, length, min, take, drop, slice_range, slice_get, get_or, Option, Some, None, refl, sym, ap, ap₂, ◌∙◌, subst, arith, length-take, length-drop}
use Rattle.std.specs.List.{All}
use Rattle.std.specs.Option.{option_zip}
use Rattle.std.proofs.lemmas.Bool.Decides.{nat_tests}
use Rattle.std.proofs.lemmas.List.{drop-drop, take_rest, get_or-take, get_or-drop}
use Rattle.std.proofs.lemmas.Option.{slice_get_within, slice_get-get_or, get_or_from_slice_get, some_pair_parts}
use Rattle.circular_buffer.specs.Buffer.{keep_last}
use Rattle.min_lists.specs.declared.which.Which.{Which}
use Rattle.min_lists.specs.Lists.{Span}
use Rattle.stamp_text.specs.Accepted.{IsInRange, IsPlausible, Follows, AreAccepted}
use Rattle.stamp_text.specs.declared.lines.Stamp.{Stamp}
use Rattle.rtt_window.specs.Pairs.{first_least, quarter, pair_among, pair_of, StandBefore, ArePair}
use Rattle.rtt_window.specs.Spans.{first_quarter, last_quarter, span_of}
use Rattle.rtt_window.specs.Windows.{Kept, stamps_in}
use Rattle.rtt_window.proofs.FirstLeasts.{first_least-is}

-- the last ones of the last ones are the last ones
keep_last-less : (m n : ℕ) (xs : List Stamp) → m ≤ n → keep_last m (keep_last n xs) ≡ keep_last m xs
keep_last-less m n xs less =
    let d : ℕ = length xs - n in
    drop-drop (length (drop d xs) - m) d xs ∙ ap (λ n. drop n xs) (omega (arith, length-drop d xs))

-- so what is kept has the pair of all
pub pair_of-kept : (reach : ℕ) (all : List Stamp) → reach ≤ 1024 → pair_of reach (keep_last 1024 all) ≡ pair_of reach all
pair_of-kept reach all less = ap pair_among (keep_last-less reach 1024 all less)

-- of fewer than two there is none
pub pair_of-none : (reach : ℕ) (xs : List Stamp) → length xs < 2 → pair_of reach xs ≡ None
unfolding pair_among
pair_of-none reach xs few = grind (arith, nat_tests, length-drop (length xs - reach) xs)

-- of two or more it is the first least of either quarter
among-some : (near : List Stamp) (j k : Stamp) → 2 ≤ length near → first_least (take (quarter (length near)) near) ≡ Some j
    → first_least (keep_last (quarter (length near)) near) ≡ Some k → pair_among near ≡ Some (j, k)
unfolding pair_among
among-some near j k many j_is k_is = grind (arith, nat_tests)

-- the same, by the places of the quarters among all
pub pair_of-some : (reach end near q : ℕ) (xs : List Stamp) (j k : Stamp) → end ≡ length xs → 2 ≤ end → 2 ≤ reach → near ≡ min end reach
    → q ≡ quarter near → first_least (slice_range xs (end - near) (end - near + q)) ≡ Some j → first_least (slice_range xs (end - q) end) ≡ Some k
    → pair_of reach xs ≡ Some (j, k)
pair_of-some reach end near q xs j k is_end many two is_near is_q from to =
    let d : ℕ = length xs - reach in
    let n : ℕ = length (drop d xs) in
    let here : n ≡ near = omega (arith, length-drop d xs) in
    let left : take (quarter n) (drop d xs) ≡ slice_range xs (end - near) (end - near + q) = ap₂ (λ q i. take q (drop i xs)) (omega arith) (omega arith) in
    let right : keep_last (quarter n) (drop d xs) ≡ slice_range xs (end - q) end =
    drop-drop (n - quarter n) d xs ∙ ap (λ i. drop i xs) (omega arith) ∙ sym (take_rest xs (end - q)) ∙ ap (slice_range xs (end - q)) (sym is_end) in
    among-some (drop d xs) j k (omega arith) (ap first_least left ∙ from) (ap first_least right ∙ to)

-- the same, by the windows of the quarters
pub pair_of-spans : (most : ℕ) (k : Kept) (old new : Which) (first last : Stamp) → 2 ≤ most → most ≤ 1024 → length k.stamps ≡ min 1024 k.count
    → 2 ≤ length k.stamps
    → span_of k.count k.start old ≡ first_quarter most k.count → span_of k.count k.start new ≡ last_quarter most k.count
    → first_least (stamps_in k old) ≡ Some first → first_least (stamps_in k new) ≡ Some last → pair_of most k.stamps ≡ Some (first, last)
pair_of-spans most k old new first last two most_of few some is_old is_new is_first is_last =
    let xs : List Stamp = k.stamps in
    let gone : ℕ = k.count - length xs in
    let d : ℕ = length xs - most in
    let n : ℕ = length (drop d xs) in
    let range : Span → List Stamp = λ w. slice_range xs (w.from - gone) (w.to - gone) in
    let left : stamps_in k old ≡ take (quarter n) (drop d xs) = ap range is_old
    ∙ ap₂ (λ q i. take q (drop i xs)) (omega (arith, length-drop d xs)) (omega (arith, length-drop d xs)) in
    let from : k.count - quarter (min most k.count) - gone ≡ d + (n - quarter n) = omega (arith, length-drop d xs) in
    let to : k.count - gone ≡ length xs = omega arith in
    let right : stamps_in k new ≡ keep_last (quarter n) (drop d xs) = ap range is_new ∙ ap₂ (slice_range xs) from to
    ∙ take_rest xs (d + (n - quarter n)) ∙ sym (drop-drop (n - quarter n) d xs) in
    among-some (drop d xs) first last (omega (arith, length-drop d xs)) (ap first_least (sym left) ∙ is_first) (ap first_least (sym right) ∙ is_last)

zip-some : (x y : Option Stamp) (j k : Stamp) → option_zip x y ≡ Some (j, k) → (x ≡ Some j) × (y ≡ Some k)
zip-some None y j k e = absurd (cc)
zip-some (Some a) None j k e = absurd (cc)
zip-some (Some a) (Some b) j k e =
    let same = some_pair_parts a j b k e in
    (ap (λ s. Some s) same.0, ap (λ s. Some s) same.1)

past-test : (b : Bool) (o : Option (Stamp × Stamp)) (p : Stamp × Stamp) → cond b None o ≡ Some p → (b ≡ false) × (o ≡ Some p)
past-test true o p e = absurd (cc)
past-test false o p e = (refl, e)

-- where there is a pair, there are two or more, and it is the first least of either quarter
record Parts (near : List Stamp) (j k : Stamp) : Type 0 where
  many : 2 ≤ length near
  j_is : first_least (take (quarter (length near)) near) ≡ Some j
  k_is : first_least (keep_last (quarter (length near)) near) ≡ Some k

among-parts : (near : List Stamp) (j k : Stamp) → pair_among near ≡ Some (j, k) → Parts near j k
unfolding pair_among
among-parts near j k e =
    let n : ℕ = length near in
    let two = past-test (nat_lt n 2) (option_zip (first_least (take (quarter n) near)) (first_least (keep_last (quarter n) near))) (j, k) e in
    let both = zip-some (first_least (take (quarter n) near)) (first_least (keep_last (quarter n) near)) j k two.1 in
    record { many = grind (arith, nat_tests, two.0); j_is = both.0; k_is = both.1 }

-- what stands at a place of the first ones, and of the last ones, stands among all
at-take : (n : ℕ) (xs : List Stamp) (place : ℕ) (s : Stamp) → slice_get (take n xs) place ≡ Some s → slice_get xs place ≡ Some s
at-take n xs place s e =
    let within = slice_get_within (take n xs) place s e in
    slice_get-get_or xs place s (omega (arith, length-take n xs))
    ∙ ap (λ s. Some s) (sym (get_or-take n xs place s (omega (arith, length-take n xs))) ∙ get_or_from_slice_get (take n xs) place s s e)

at-drop : (n : ℕ) (xs : List Stamp) (place : ℕ) (s : Stamp) → slice_get (drop n xs) place ≡ Some s → slice_get xs (n + place) ≡ Some s
at-drop n xs place s e =
    let within = slice_get_within (drop n xs) place s e in
    slice_get-get_or xs (n + place) s (omega (arith, length-drop n xs))
    ∙ ap (λ s. Some s) (sym (get_or-drop n xs place s) ∙ get_or_from_slice_get (drop n xs) place s s e)

-- the first of a pair stands before the second
among-places : (near : List Stamp) (j k : Stamp) → pair_among near ≡ Some (j, k) → StandBefore near j k
among-places near j k e =
    let n : ℕ = length near in
    let q : ℕ = quarter n in
    let found = among-parts near j k e in
    let at_j = first_least-is (take q near) j found.j_is in
    let at_k = first_least-is (keep_last q near) k found.k_is in
    let in_j = slice_get_within (take q near) at_j.place j at_j.there in
    record {
      first = at_j.place;
      second = n - q + at_k.place;
      order = omega (arith, length-take q near, found.many);
      at_first = at-take q near at_j.place j at_j.there;
      at_second = at-drop (n - q) near at_k.place k at_k.there;
    }

-- also among all
pub pair_of-places : (reach : ℕ) (all : List Stamp) (j k : Stamp) → pair_of reach all ≡ Some (j, k) → StandBefore all j k
pair_of-places reach all j k e =
    let d : ℕ = length all - reach in
    let at = among-places (keep_last reach all) j k e in
    record {
      first = d + at.first;
      second = d + at.second;
      order = omega (arith, at.order);
      at_first = at-drop d all at.first j at.at_first;
      at_second = at-drop d all at.second k at.at_second;
    }

-- so what holds of all stamps holds of both
pub pair_of-both : (P : Stamp → Type 0) (reach : ℕ) (all : List Stamp) (j k : Stamp) → All P all → pair_of reach all ≡ Some (j, k) → P j × P k
pair_of-both P reach all j k are e =
    let at = pair_of-places reach all j k e in
    let holds : (place : ℕ) (s : Stamp) → slice_get all place ≡ Some s
    → P s = λ place s there. subst P (get_or_from_slice_get all place s s there) (are place s (slice_get_within all place s there)) in
    (holds at.first j at.at_first, holds at.second k at.at_second)

-- a pair of accepted stamps is two accepted stamps
pub pair_of-accepted : (freq reach : ℕ) (all : List Stamp) (j k : Stamp) → AreAccepted freq all → pair_of reach all ≡ Some (j, k) → ArePair freq j k
pair_of-accepted freq reach all j k are e =
    let at = pair_of-places reach all j k e in
    let timed = pair_of-both IsInRange reach all j k are.timed e in
    let sound = pair_of-both (IsPlausible freq) reach all j k are.sound e in
    let is_j : get_or all at.first j ≡ j = get_or_from_slice_get all at.first j j at.at_first in
    let is_k : get_or all at.second j ≡ k = get_or_from_slice_get all at.second k j at.at_second in
    record {
      timed_j = timed.0;
      timed_k = timed.1;
      sound_j = sound.0;
      sound_k = sound.1;
      follow = subst (λ k. Follows j k) is_k (subst (λ j'. Follows j' (get_or all at.second j)) is_j
          (are.follow at.first at.second j at.order (slice_get_within all at.second k at.at_second)));
    }
