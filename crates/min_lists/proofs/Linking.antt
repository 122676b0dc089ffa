-- A list with one more index at its end.
use Rattle.std.proofs.Common.{◌≡◌, ℕ, ◌+◌, ◌<◌, ◌≤◌, ◌≢◌, arith, subst, sym, ap, ◌∙◌, inl, inr}
use Rattle.std.proofs.lemmas.Bool.{cases_eq, cases_lt}
use Rattle.std.proofs.lemmas.Grind.{common_steps}
use Rattle.min_lists.specs.Lists.{IsFirstMinimum}
use Rattle.min_lists.specs.Links.{IsBefore, IsLinked}

-- the first of least round trip stays so where one comes that is no less than some b of them
stays_least : (trip : ℕ → ℕ) (start to i b : ℕ) → IsFirstMinimum trip start to i → start ≤ b → b < to → trip b ≤ trip to → IsFirstMinimum trip start (to + 1) i
stays_least trip start to i b f l h le = record {
  low = f.low;
  high = omega (arith, f.high);
  least = λ j m n. elim (cases_eq j to) [
    | inl e ↦ subst (λ q. trip i ≤ trip q) (sym e) (omega (arith, f.least b l h))
    | inr ne ↦ let other : j ≢ to = ne in f.least j m (omega arith)
  ];
  first = f.first;
}

-- behind an index b of the list that isn't above it, where all after b are
pub linked_behind : (trip before after before' after' : ℕ → ℕ) (from to head b : ℕ) → IsLinked trip before after from to head → from ≤ b
    → IsBefore trip from to (b + 1)
    → before' to ≡ b + 1 → ((i : ℕ) → from ≤ i → i < to → before' i ≡ before i)
    → after' b ≡ to → ((i : ℕ) → from ≤ i → i < to → i ≢ b → after' i ≡ after i)
    → IsLinked trip before' after' from (to + 1) head
linked_behind trip before after before' after' from to head b old l last before_to befores after_b afters =
    let below : b < to = omega (arith, last.within) in
    let le : trip b ≤ trip to = last.not_above b l (omega arith) in
    record {
      ends = omega (arith, old.ends);
      least = λ _. stays_least trip from to head b (old.least (omega arith)) l below le;
      befores = λ i m h. grind (arith, common_steps);
      afters = λ i m h low. elim (cases_eq i b) [
        | inl e ↦
            let is : after' i ≡ to = ap after' e ∙ after_b in
            grind (arith, common_steps)
        | inr ne ↦
            let other : i ≢ b = ne in
            let first : i < b = elim (cases_lt i b) [
              | inl f ↦ f
              | inr f ↦ absurd (omega (arith, last.above i m (omega arith) (omega arith), low to (omega arith) (omega arith)))
            ] in
            let was = old.afters i m (omega arith) (λ j n k. low j n (omega arith)) in
            subst (IsFirstMinimum trip (i + 1) (to + 1)) (sym (afters i m (omega arith) other))
            (stays_least trip (i + 1) to (after i) b was (omega arith) below le)
      ];
    }
