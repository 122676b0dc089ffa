-- The order of the periods that are believed, and their bounds.
use Rattle.std.proofs.Common.{ℕ, ◌<◌, ◌≤◌, ◌^◌, ◌/◌, arith}
use Rattle.std.proofs.Math.Nat.{div-le_of_le-mul}
use Rattle.std.proofs.lemmas.Nat.{le-div}
use Rattle.ff_grain.specs.Periods.{nominal_period, lowest_period, highest_period}

pub lowest-below : (freq : ℕ) → lowest_period freq ≤ nominal_period freq
unfolding lowest_period
lowest-below freq = omega arith

pub highest-above : (freq : ℕ) → nominal_period freq ≤ highest_period freq
unfolding highest_period
highest-above freq = omega arith

pub lowest-positive : (freq : ℕ) → 1000000 ≤ freq → freq ≤ 16000000000 → 0 < lowest_period freq
unfolding lowest_period nominal_period
lowest-positive freq low high = let some : 1 ≤ 2 ^ 63 / freq = le-div 1 _ freq (omega arith) (omega arith) in omega arith

pub highest-bounded : (freq : ℕ) → 1000000 ≤ freq → highest_period freq < 2 ^ 45
unfolding highest_period nominal_period
highest-bounded freq low = let most : 2 ^ 63 / freq ≤ 9223372036855 = div-le_of_le-mul freq (omega arith) in omega arith
