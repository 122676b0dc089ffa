-- The stamps of a made file, one after the other.
use Rattle.std.proofs.Common.{◌≡◌, ℕ, zero, suc, ◌+◌, ◌-◌, ◌≤◌, List, [], ◌∷◌, ◌++◌, length, map, Some, Ok, sym, ap, ◌∙◌, subst, arith}
use Rattle.std.specs.List.{All, range_with_len}
use Rattle.std.proofs.lemmas.Int.{ints}
use Rattle.std.proofs.lemmas.List.{length_push, length-map, map_push, get_or_push}
use Rattle.std.proofs.lemmas.List.Elements.{All-map}
use Rattle.std.proofs.lemmas.Option.{slice_get-get_or}
use Rattle.stamp_text.specs.Accepted.{IsInRange, AreAccepted, accept_of, last_of}
use Rattle.stamp_text.specs.declared.lines.Stamp.{Stamp}
use Rattle.stamp_text.proofs.AcceptedLaws.{accepted-none, accepted-push}
use Rattle.world_times.specs.Worlds.{LiesIn}
use Rattle.stamp_maker.specs.Worlds.{frequency, made_world}
use Rattle.stamp_maker.specs.MadeStamps.{made, made_first, made_list, made_stamps, IsWithin, stamp_of_made}
use Rattle.stamp_maker.specs.declared.made.Made.{Made}
use Rattle.stamp_maker.proofs.Accepting.{made-first, made-later}
use Rattle.stamp_maker.proofs.Lists.{made_first-more, made_list-len}
use Rattle.stamp_maker.proofs.Lying.{made-lies}
use Rattle.stamp_maker.proofs.Rounding.{made-within}

timed-made : (m : Made) → IsWithin m → IsInRange (stamp_of_made m)
timed-made m is = record {
  ta = is.ta;
  tf = is.tf;
  tb = record { low = omega (arith, ints); high = omega (arith, ints, is.tb.0) };
  te = record { low = omega (arith, ints); high = omega (arith, ints, is.te.0) };
}

last-push : (xs : List Stamp) (s : Stamp) → last_of (xs ++ s ∷ []) ≡ Some s
last-push xs s =
    let all : List Stamp = xs ++ s ∷ [] in
    let n : ℕ = length all - 1 in
    slice_get-get_or all n s (omega (arith, length_push xs s)) ∙ ap (λ x. Some x) (get_or_push xs s s n (omega (arith, length_push xs s)))

-- the first made stamps
abbrev pub first_stamps : ℕ → ℕ → ℕ → List Stamp
first_stamps number count n = map stamp_of_made (made_first number count n)

pub stamps-more : (number count n : ℕ) → first_stamps number count (n + 1) ≡ first_stamps number count n ++ stamp_of_made (made number count n) ∷ []
stamps-more number count n = ap (map stamp_of_made) (made_first-more number count n) ∙ map_push stamp_of_made (made_first number count n) (made number count n)

-- each is accepted behind those before it
pub next-accepted : (number count n : ℕ) → accept_of (last_of (first_stamps number count n)) (stamp_of_made (made number count n)) frequency ≡ Ok tt
next-accepted number count zero = made-first number count
next-accepted number count (suc n) =
    let one : suc n ≡ n + 1 = omega arith in
    let last : last_of (first_stamps number count (suc n)) ≡ Some (stamp_of_made (made number count n)) =
    ap (λ k. last_of (first_stamps number count k)) one ∙ ap last_of (stamps-more number count n)
    ∙ last-push (first_stamps number count n) (stamp_of_made (made number count n)) in
    ap (λ o. accept_of o (stamp_of_made (made number count (suc n))) frequency) last
    ∙ ap (λ k. accept_of (Some (stamp_of_made (made number count n))) (stamp_of_made (made number count k)) frequency) one
    ∙ made-later number count n

first-accepted : (number count n : ℕ) → n ≤ count → count ≤ 16384 → AreAccepted frequency (first_stamps number count n)
first-accepted number count zero few most = accepted-none frequency
first-accepted number count (suc n) few most =
    let one : n + 1 ≡ suc n = omega arith in
    let before = first-accepted number count n (omega arith) most in
    let s : Stamp = stamp_of_made (made number count n) in
    let pushed = accepted-push frequency (first_stamps number count n) s before
    (timed-made (made number count n) (made-within number count n (omega arith) most)) (next-accepted number count n) in
    subst (λ k. AreAccepted frequency (first_stamps number count k)) one (subst (AreAccepted frequency) (sym (stamps-more number count n)) pushed)

-- each was accepted behind the one before it
pub made-accepted : (number count : ℕ) → count ≤ 16384 → AreAccepted frequency (made_stamps number count)
made-accepted number count most = first-accepted number count count (omega arith) most

-- and each lies in the made world
pub made-lie : (number count : ℕ) → All (LiesIn made_world) (made_stamps number count)
made-lie number count = All-map (LiesIn made_world) stamp_of_made (made_list number count)
    (All-map (λ m. LiesIn made_world (stamp_of_made m)) (made number count) (range_with_len 0 count) (λ k d here. made-lies number count _))

pub made_stamps-len : (number count : ℕ) → length (made_stamps number count) ≡ count
made_stamps-len number count = length-map (made_list number count) stamp_of_made ∙ made_list-len number count
