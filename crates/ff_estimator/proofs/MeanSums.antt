-- The bounds of the terms of a mean, where they have a weight.
use Rattle.std.proofs.Common.{ℕ, ◌+◌, ◌*◌, ◌/◌, ◌-◌, ◌^◌, ◌<◌, ◌≤◌, arith}
use Rattle.std.proofs.Math.Nat.{div-mul-le_self, mul-le-mul_left, mul-le-mul_right}
use Rattle.stamp_text.specs.Accepted.{IsPlausible, trip}
use Rattle.ff_grain.specs.Periods.{highest_period, nominal_period}
use Rattle.stamp_text.specs.declared.lines.Stamp.{Stamp}
use Rattle.rate_pair.specs.Rates.{IsRate, rate_error}
use Rattle.rate_pair.specs.declared.rates.Rate.{Rate}
use Rattle.offset_weights.specs.Weights.{weight_of}
use Rattle.offset_weights.proofs.WeightLaws.{weight_of_recent}
use Rattle.ff_estimator.specs.Terms.{counts_since}

-- the counts since both readings are at most twice those since the reply, and the round trip
pub counts_since_le : (now : ℕ) (s : Stamp) → counts_since now s ≤ 2 * (now - s.tf) + trip s
counts_since_le now s = omega arith

-- the counts of a second take at most two seconds, even at the highest period
pub highest_of_second : (freq : ℕ) → highest_period freq * freq ≤ 2 ^ 65
unfolding highest_period nominal_period
highest_of_second freq =
    let n : ℕ = 9223372036854775808 / freq in
    let twice : (n * 2 + n * 2 / 2000) * freq ≤ (4 * n) * freq = mul-le-mul_right freq (omega arith) in
    omega (arith, div-mul-le_self 9223372036854775808 freq)

-- the counts of so many seconds, at a believed period
grains_le : (freq period seconds counts : ℕ) → period ≤ highest_period freq → counts ≤ seconds * freq → period * counts ≤ seconds * 2 ^ 65
grains_le freq period seconds counts believed short =
    let longer : period * counts ≤ period * (seconds * freq) = mul-le-mul_left period short in
    let higher : period * (seconds * freq) ≤ highest_period freq * (seconds * freq) = mul-le-mul_right (seconds * freq) believed in
    let each : seconds * (highest_period freq * freq) ≤ seconds * 2 ^ 65 = mul-le-mul_left seconds (highest_of_second freq) in
    omega arith

-- a stamp with a weight is recent
since_le : (freq base now : ℕ) (s : Stamp) → 1000000 ≤ freq → IsPlausible freq s → 0 < weight_of (trip s - base) (now - s.tf) freq
    → counts_since now s ≤ 3201 * freq
since_le freq base now s low sound some = omega (arith, counts_since_le now s, weight_of_recent (trip s - base) (now - s.tf) freq low some)

-- what the counts since then take, of a stamp with a weight
pub since_below : (freq base now : ℕ) (rate : Rate) (s : Stamp) → IsPlausible freq s → IsRate freq rate → 1000000 ≤ freq
    → 0 < weight_of (trip s - base) (now - s.tf) freq → rate.period * counts_since now s < 2 ^ 97
since_below freq base now rate s sound order low some =
    omega (arith, grains_le freq rate.period 3201 (counts_since now s) (omega arith) (since_le freq base now s low sound some))

-- twice the spread, of a stamp with a weight
pub spread_below : (freq base now : ℕ) (rate : Rate) (s : Stamp) → IsPlausible freq s → IsRate freq rate → 1000000 ≤ freq
    → 0 < weight_of (trip s - base) (now - s.tf) freq → trip s * rate.high + rate_error rate * counts_since now s < 2 ^ 98
spread_below freq base now rate s sound order low some =
    let round : rate.high * trip s ≤ 1 * 2 ^ 65 = grains_le freq rate.high 1 (trip s) (omega arith) (omega arith) in
    let drift = grains_le freq (rate_error rate) 3201 (counts_since now s) (omega arith) (since_le freq base now s low sound some) in
    omega arith
