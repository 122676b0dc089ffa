-- Two words for the element of a list at a place.
use Rattle.std.proofs.Common.{◌≡◌, ℕ, zero, suc, List, [], ◌∷◌, slice_get, Some, sym, ap}
use mathlib.Core.Option.{some, some-injective, some-ne-none}
use lib.ListN.{get_elem?}

pub Some_same : {A : Type 0} (a b : A) → Some a ≡ Some b → a ≡ b
Some_same a b e = cc

module _ {A : Type 0} where
  pub to_some : (l : List A) (i : ℕ) (a : A) → slice_get l i ≡ Some a → get_elem? l i ≡ some a
  to_some [] i a e = cc
  to_some (x ∷ xs) zero a e = ap some (Some_same x a e)
  to_some (x ∷ xs) (suc i) a e = to_some xs i a e

  pub to_Some : (l : List A) (i : ℕ) (a : A) → get_elem? l i ≡ some a → slice_get l i ≡ Some a
  to_Some [] i a e = absurd (some-ne-none a (sym e))
  to_Some (x ∷ xs) zero a e = ap Some (some-injective x a e)
  to_Some (x ∷ xs) (suc i) a e = to_Some xs i a e
