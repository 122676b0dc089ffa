-- What follows where a stamp is accepted.
use Rattle.std.proofs.Common.{◌≡◌, inl, inr, ℕ, ◌+◌, ◌-◌, ◌<◌, Bool, true, false, List, [], ◌∷◌, ◌++◌, length, get_or, drop, Option, Some, Result, Ok, Err, All, refl, sym, ap, ◌∙◌, subst, arith, length-drop}
use Rattle.std.specs.List.{AllByRecursion}
use Rattle.std.proofs.Math.Nat.{eq-or-lt_of_le}
use Rattle.std.proofs.lemmas.Bool.Decides.{nat_tests}
use Rattle.std.proofs.lemmas.Int.{ints}
use Rattle.std.proofs.lemmas.List.{get_or-drop}
use Rattle.std.proofs.lemmas.List.Elements.{All-nil, All-push, All-drop, All-head, All-tail, filter_map-append}
use Rattle.std.proofs.lemmas.List.Quantifiers.{all_pairs_push}
use Rattle.std.proofs.lemmas.List.Sums.{fold-append}
use Rattle.std.proofs.lemmas.Option.{slice_get-get_or}
use Rattle.stamp_text.specs.Accepted.{first_that_holds, tests_of, accept_of, IsInRange, IsPlausible, Follows, last_of, accepted_with, accepted_all, stamp_of_line, stamps_among, accepted_of_lines, AreAccepted}
use Rattle.stamp_text.specs.declared.accepts.Refused.{Refused}
use Rattle.stamp_text.specs.declared.lines.Line.{Line}
use Rattle.stamp_text.specs.declared.lines.Stamp.{Stamp}

-- where no test refuses, none holds
pub none-holds : (tests : List (Bool × Refused)) → first_that_holds tests ≡ Ok tt → AllByRecursion (λ test. test.0 ≡ false) tests
none-holds [] e = tt
none-holds ((true, why) ∷ tests) e = absurd (cc)
none-holds ((false, why) ∷ tests) e = (refl, none-holds tests e)

pub sound-by : (freq : ℕ) (prev : Option Stamp) (s : Stamp) → accept_of prev s freq ≡ Ok tt → IsPlausible freq s
unfolding accept_of
sound-by freq prev s e =
    let none = none-holds (tests_of prev s freq) e in
    let counters = none.0 in
    let times = none.1.0 in
    let short = none.1.1.1.1.0 in
    record { counters = grind (arith, nat_tests); times = omega (arith, ints); short = grind (arith, nat_tests) }

pub follows-by : (freq : ℕ) (p s : Stamp) → accept_of (Some p) s freq ≡ Ok tt → Follows p s
unfolding accept_of
follows-by freq p s e =
    let none = none-holds (tests_of (Some p) s freq) e in
    let counters = none.1.1.0 in
    let times = none.1.1.1.0 in
    record { counters = grind (arith, nat_tests); times = omega (arith, ints) }

-- an accepted stamp comes behind all that its forerunner comes behind
follows-on : (freq : ℕ) (a b c : Stamp) → Follows a b → IsPlausible freq b → Follows b c → Follows a c
follows-on freq a b c first sound second = record {
  counters = omega (arith, first.counters, sound.counters, second.counters);
  times = omega (arith, ints, first.times, sound.times, second.times);
}

follows-all : (freq : ℕ) (xs : List Stamp) (s : Stamp) → AreAccepted freq xs → accept_of (last_of xs) s freq ≡ Ok tt
    → (k : ℕ) (d : Stamp) → k < length xs → Follows (get_or xs k d) s
follows-all freq xs s are e k d here =
    let n : ℕ = length xs - 1 in
    let p : Stamp = get_or xs n d in
    let behind : Follows p s = follows-by freq p s (ap (λ o. accept_of o s freq) (sym (slice_get-get_or xs n d (omega arith))) ∙ e) in
    elim (eq-or-lt_of_le {n = k} {m = n} (omega arith)) as (λ _. Follows (get_or xs k d) s) [
      | inl same ↦ subst (λ i. Follows (get_or xs i d) s) (sym same) behind
      | inr below ↦ follows-on freq (get_or xs k d) p s (are.follow k n d below (omega arith)) (are.sound n d (omega arith)) behind
    ]

-- one more stamp that is accepted
pub accepted-push : (freq : ℕ) (xs : List Stamp) (s : Stamp) → AreAccepted freq xs → IsInRange s → accept_of (last_of xs) s freq ≡ Ok tt
    → AreAccepted freq (xs ++ s ∷ [])
accepted-push freq xs s are timed e = record {
  timed = All-push IsInRange xs s are.timed timed;
  sound = All-push (IsPlausible freq) xs s are.sound (sound-by freq (last_of xs) s e);
  follow = all_pairs_push Follows xs s are.follow (follows-all freq xs s are e);
}

-- the stamps behind the first n
pub accepted-drop : (freq n : ℕ) (xs : List Stamp) → AreAccepted freq xs → AreAccepted freq (drop n xs)
accepted-drop freq n xs are = record {
  timed = All-drop IsInRange n xs are.timed;
  sound = All-drop (IsPlausible freq) n xs are.sound;
  follow = λ i j d before here. rw (get_or-drop n xs i d, get_or-drop n xs j d) (are.follow (n + i) (n + j) d (omega arith) (omega (arith, length-drop n xs)));
}

-- no stamps
pub accepted-none : (freq : ℕ) → AreAccepted freq []
accepted-none freq = record { timed = All-nil IsInRange; sound = All-nil (IsPlausible freq); follow = λ i j d before here. absurd (omega arith) }

-- the accepted stamps behind accepted ones
pub accepted-all : (freq : ℕ) (before stamps : List Stamp) → AreAccepted freq before → All IsInRange stamps → AreAccepted freq (accepted_all freq before stamps)
accepted-all freq before [] are timed = are
accepted-all freq before (s ∷ ss) are timed =
    let later : All IsInRange ss = All-tail IsInRange s ss timed in
    let split : (r : Result (Unit {0}) Refused) → accept_of (last_of before) s freq ≡ r → AreAccepted freq (accepted_all freq (accepted_with before s r) ss) =
    elim [
      | Ok o ↦ λ e. accepted-all freq (before ++ s ∷ []) ss (accepted-push freq before s are (All-head IsInRange s ss timed) e) later
      | Err why ↦ λ e. accepted-all freq before ss are later
    ] in
    split (accept_of (last_of before) s freq) refl

-- the accepted stamps with one more line
pub accepted-line : (freq : ℕ) (lines : List Line) (line : Line) → accepted_of_lines freq (lines ++ line ∷ []) ≡ accepted_all freq
    (accepted_of_lines freq lines) (stamps_among (line ∷ []))
accepted-line freq lines line =
    ap (accepted_all freq []) (filter_map-append stamp_of_line lines (line ∷ []))
    ∙ fold-append (λ all s. accepted_with all s (accept_of (last_of all) s freq)) [] (stamps_among lines) (stamps_among (line ∷ []))
