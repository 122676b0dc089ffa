-- Means of weighted times.
use Rattle.std.specs.Prelude.{◌≡◌, ℕ, ℤ, pos, ◌+◌, ◌*◌, ◌/◌, ◌-◌, ◌^◌, ◌≤◌, List, Option, None, Some, option_map, nat_lt, count_by, sum_by, if◌then◌else◌, ◌==◌}
use Rattle.std.specs.Int.{div_ceil}
use Rattle.ff_grain.specs.Grains.{number_of}
use Rattle.ff_grain.specs.declared.bintime.Bintime.{Bintime}

-- a weight, and twice a time and twice its spread in grains
pub record Term : Type 0 where
  pub weight : ℕ
  pub twice_time : ℕ
  pub twice_spread : ℕ

abbrev pub weights_of : List Term → ℕ
weights_of terms = sum_by (λ t. t.weight) terms

abbrev pub times_of : List Term → ℕ
times_of terms = sum_by (λ t. t.weight * t.twice_time) terms

abbrev pub spreads_of : List Term → ℕ
spreads_of terms = sum_by (λ t. t.weight * t.twice_spread) terms

-- the mean time, rounded down, and the mean spread, rounded up and one more; none without weight
unfoldable pub mean_of : List Term → Option (ℤ × ℕ)
mean_of terms = if weights_of terms == 0 then None else Some
    (pos (times_of terms / (2 * weights_of terms)), div_ceil (spreads_of terms) (2 * weights_of terms) + 1)

-- a time and its spread, as numbers of grains
abbrev pub numbers_of : Option (Bintime × ℕ) → Option (ℤ × ℕ)
numbers_of answer = option_map (λ a. (number_of a.0, a.1)) answer

-- how many terms were added, and the sums of their weights, weighted times and weighted spreads
pub record Kept : Type 0 where
  pub added : ℕ
  pub weight : ℕ
  pub time : ℕ
  pub spread : ℕ

-- sums that keep this may be those of these terms. Those of weight 0 need not have been added
pub record StandsFor (k : Kept) (terms : List Term) : Type 0 where
  pub adds : k.added ≡ count_by (λ t. nat_lt 0 t.weight) terms
  pub weights : k.weight ≡ weights_of terms
  pub times : k.time ≡ times_of terms
  pub spreads : k.spread ≡ spreads_of terms

-- the sums of at most 32 terms of a weight of at most 65536, with times and spreads below 2^98
pub record IsBounded (added weight time spread : ℕ) : Type 0 where
  pub few : added ≤ 32
  pub weights : weight ≤ added * 65536
  pub times : time ≤ weight * (2 ^ 98 - 1)
  pub spreads : spread ≤ weight * (2 ^ 98 - 1)
