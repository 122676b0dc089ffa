-- Accepted stamps alone are accepted items.
use Rattle.std.proofs.Common.{◌≡◌, inl, inr, ℕ, ◌-◌, ◌<◌, ◌≤◌, true, pos, List, [], ◌∷◌, length, map, get_or, fold, Some, All, refl, sym, ap, ◌∙◌, subst, arith}
use Rattle.std.specs.List.{AllPairs}
use Rattle.std.proofs.Math.Nat.{eq-or-lt_of_le}
use Rattle.std.proofs.lemmas.Bool.Decides.{nat_tests}
use Rattle.std.proofs.lemmas.List.{length-map, get_or-map}
use Rattle.std.proofs.lemmas.List.Elements.{All-map}
use Rattle.std.proofs.lemmas.Option.{slice_get-get_or}
use Rattle.stamp_text.specs.Accepted.{IsItemInRange, AreAccepted, last_of}
use Rattle.stamp_text.specs.Past.{Seen, nothing_seen, seen_with, seen_of, is_reached, stamps_of, counts_of, AreAcceptedItems}
use Rattle.stamp_text.specs.declared.lines.Item.TheVariants as item
use Rattle.stamp_text.specs.declared.lines.Stamp.{Stamp}
use Rattle.stamp_text.proofs.PastLaws.{seen-stamp}

blank : Stamp
blank = record { ta = 0; tb = record { sec = pos 0; frac = 0 }; te = record { sec = pos 0; frac = 0 }; tf = 0; stratum = 0; leap = 0 }

pub stamps-back : (ss : List Stamp) → stamps_of (map item.Stamp ss) ≡ ss
stamps-back [] = refl
stamps-back (s ∷ ss) = ap (λ (xs : List Stamp). s ∷ xs) (stamps-back ss)

counts-back : (ss : List Stamp) → counts_of (map item.Stamp ss) ≡ map (λ s. s.tf) ss
counts-back [] = refl
counts-back (s ∷ ss) = ap (λ (ns : List ℕ). s.tf ∷ ns) (counts-back ss)

no-leaps : (seen : Seen) (ss : List Stamp) → (fold seen_with seen (map item.Stamp ss)).leaps ≡ seen.leaps
no-leaps seen [] = refl
no-leaps seen (s ∷ ss) = no-leaps (seen_with seen (item.Stamp s)) ss

count-at : (ss : List Stamp) (k d : ℕ) → k < length ss → get_or (map (λ s. s.tf) ss) k d ≡ (get_or ss k blank).tf
count-at ss k d within = get_or-map (λ s. s.tf) ss k blank d within

tf-rises : (freq : ℕ) (ss : List Stamp) (i j : ℕ) → AreAccepted freq ss → i < j → j < length ss → (get_or ss i blank).tf < (get_or ss j blank).tf
tf-rises freq ss i j are order within =
    let follows = (are.follow i j blank order within).counters in
    let sound = (are.sound j blank within).counters in
    omega arith

rises : (freq : ℕ) (ss : List Stamp) → AreAccepted freq ss → AllPairs (λ a b. a < b) (map (λ s. s.tf) ss)
rises freq ss are i j d order within =
    let many = length-map ss (λ s. s.tf) in
    let first = count-at ss i d (omega arith) in
    let second = count-at ss j d (omega arith) in
    let less = tf-rises freq ss i j are order (omega arith) in
    omega arith

reached-by : (seen : Seen) (s : Stamp) (c : ℕ) → seen.stamp ≡ Some s → c ≤ s.tf → is_reached seen c ≡ true
reached-by seen s c is below = rw is (grind (arith, nat_tests))

reach : (freq : ℕ) (ss : List Stamp) → AreAccepted freq ss → All (λ c. is_reached (seen_of (map item.Stamp ss)) c ≡ true) (map (λ s. s.tf) ss)
reach freq ss are k d within =
    let many = length-map ss (λ s. s.tf) in
    let n : ℕ = length ss - 1 in
    let last : Stamp = get_or ss n blank in
    let is : (seen_of (map item.Stamp ss)).stamp ≡ Some last = seen-stamp (map item.Stamp ss) ∙ ap last_of (stamps-back ss)
    ∙ slice_get-get_or ss n blank (omega arith) in
    let here : get_or (map (λ s. s.tf) ss) k d ≡ (get_or ss k blank).tf = count-at ss k d (omega arith) in
    let below : (get_or ss k blank).tf ≤ last.tf = elim (eq-or-lt_of_le {n = k} {m = n} (omega arith)) as (λ _. (get_or ss k blank).tf ≤ last.tf) [
      | inl same ↦ (let e = ap (λ i. (get_or ss i blank).tf) same in omega arith)
      | inr less ↦ (let e = tf-rises freq ss k n are less (omega arith) in omega arith)
    ] in
    reached-by (seen_of (map item.Stamp ss)) last (get_or (map (λ s. s.tf) ss) k d) is (omega (arith, here, below))

pub stamps-are-items : (freq : ℕ) (ss : List Stamp) → AreAccepted freq ss → AreAcceptedItems freq (map item.Stamp ss)
stamps-are-items freq ss are = record {
  timed = All-map IsItemInRange item.Stamp ss are.timed;
  stamps = subst (AreAccepted freq) (sym (stamps-back ss)) are;
  rising = subst (AllPairs (λ a b. a < b)) (sym (counts-back ss)) (rises freq ss are);
  reached = subst (λ (cs : List ℕ). All (λ c. is_reached (seen_of (map item.Stamp ss)) c ≡ true) cs) (sym (counts-back ss)) (reach freq ss are);
  few = omega (arith, no-leaps nothing_seen ss);
}
