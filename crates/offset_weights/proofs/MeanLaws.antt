-- What follows of sums of weighted terms.
use Rattle.std.proofs.Common.{◌≡◌, ℕ, ◌+◌, ◌*◌, ◌/◌, ◌-◌, ◌^◌, ◌<◌, ◌≤◌, List, [], ◌∷◌, ◌++◌, Some, None, pos, nat_lt, sum_by, cond, zero-mul, ◌∙◌, arith}
use Rattle.std.specs.Int.{div_ceil}
use Rattle.std.proofs.lemmas.Nat.{div_below}
use Rattle.std.proofs.lemmas.Bool.{ne_eqb, eq-eqb}
use Rattle.std.proofs.lemmas.List.Sums.{sum_by_push}
use Rattle.offset_weights.specs.Means.{Term, Kept, StandsFor, weights_of, times_of, spreads_of, mean_of}

pub mean_of_none : (terms : List Term) → weights_of terms ≡ 0 → mean_of terms ≡ None
unfolding mean_of
mean_of_none terms h = rw (eq-eqb _ _ h)

pub mean_of_some : (terms : List Term) → 0 < weights_of terms
    → mean_of terms ≡ Some (pos (times_of terms / (2 * weights_of terms)), div_ceil (spreads_of terms) (2 * weights_of terms) + 1)
unfolding mean_of
mean_of_some terms h = rw (ne_eqb (weights_of terms) 0 (λ e. omega arith))

-- a mean of times below 2^97, as each time that is twice below 2^98
pub mean_below : (sum weight : ℕ) → 0 < weight → sum ≤ weight * (2 ^ 98 - 1) → sum / (2 * weight) < 2 ^ 97
mean_below sum weight h most = div_below sum (2 * weight) (2 ^ 97) (omega arith) (omega arith)

same_sum : (f : Term → ℕ) (terms : List Term) (t : Term) → f t ≡ 0 → sum_by f terms ≡ sum_by f (terms ++ t ∷ [])
same_sum f terms t none = omega (arith, sum_by_push f terms t)

-- a term of weight 0 changes no sum
pub stands_weightless : (k : Kept) (terms : List Term) (t : Term) → t.weight ≡ 0 → StandsFor k terms → StandsFor k (terms ++ t ∷ [])
stands_weightless k terms t h at = record {
  adds = at.adds ∙ same_sum (λ u. cond (nat_lt 0 u.weight) 1 0) terms t (rw h);
  weights = at.weights ∙ same_sum (λ u. u.weight) terms t h;
  times = at.times ∙ same_sum (λ u. u.weight * u.twice_time) terms t (rw (h, zero-mul));
  spreads = at.spreads ∙ same_sum (λ u. u.weight * u.twice_spread) terms t (rw (h, zero-mul));
}
