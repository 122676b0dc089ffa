-- A rate and its bounds are in their order.
use Rattle.std.proofs.Common.{◌≡◌, refl, ℕ, ◌+◌, ◌-◌, ◌/◌, ◌*◌, ◌<◌, ◌≤◌, arith}
use Rattle.std.specs.Int.{div_ceil}
use Rattle.std.proofs.lemmas.Int.{ints}
use Rattle.std.proofs.lemmas.Nat.{le-div}
use Rattle.std.proofs.Math.Nat.{mul-le-mul_left, div-mul-le_self}
use Rattle.stamp_text.specs.Accepted.{IsInRange, IsPlausible, Follows}
use Rattle.ff_grain.specs.Grains.{grains_of}
use Rattle.ff_grain.specs.Periods.{lowest_period, highest_period}
use Rattle.stamp_text.specs.declared.lines.Stamp.{Stamp}
use Rattle.ff_grain.proofs.PeriodLaws.{lowest-below, highest-above}
use Rattle.rate_pair.specs.Rates.{IsRate, nominal_rate, nearest_period, rate_of}
use Rattle.rate_pair.specs.Intervals.{IsBetween}
use Rattle.rate_pair.specs.declared.rates.Interval.{Interval}

-- a greater divisor does not give more
div-le-div : (n d e : ℕ) → 0 < d → d ≤ e → n / e ≤ n / d
div-le-div n d e some more = le-div (n / e) n d some (let fewer : n / e * d ≤ n / e * e = mul-le-mul_left (n / e) more in omega (arith, div-mul-le_self n e))

-- the nearest periods of a floor, of one by more counts and of a ceiling by fewer are in their order
pub nearest_is_rate : (freq grains counts trips : ℕ) → trips < counts → IsRate freq (record {
  period = nearest_period freq (grains / counts);
  low = nearest_period freq (grains / (counts + trips));
  high = nearest_period freq (div_ceil grains (counts - trips));
})
nearest_is_rate freq grains counts trips few =
    let nominal : lowest_period freq ≤ highest_period freq = omega (arith, lowest-below freq, highest-above freq) in
    let below : grains / (counts + trips) ≤ grains / counts = div-le-div grains counts (counts + trips) (omega arith) (omega arith) in
    let above : grains / counts ≤ grains / (counts - trips) = div-le-div grains (counts - trips) counts (omega arith) (omega arith) in
    record { lowest = omega arith; low = omega arith; high = omega arith; highest = omega arith }

-- accepted stamps do not overlap, so the counts between them are more than both round trips
pub pair_is_rate : (j k : Stamp) (freq : ℕ) → IsPlausible freq j → IsPlausible freq k → Follows j k → IsRate freq (rate_of j k freq)
unfolding rate_of
pair_is_rate j k freq first second order = nearest_is_rate freq _ _ _ (omega arith)

-- what lies between two stamps tells their rate
pub rate_by_interval : (i : Interval) (j k : Stamp) (freq : ℕ) → IsBetween i j k → record {
  period = nearest_period freq (i.grains / i.counts);
  low = nearest_period freq (i.grains / (i.counts + i.trips));
  high = nearest_period freq (div_ceil i.grains (i.counts - i.trips));
} ≡ rate_of j k freq
unfolding rate_of
rate_by_interval i j k freq is = rw (is.grains, is.counts, is.trips) refl

-- the server's times of accepted stamps go on
pub forward_rises : (j k : Stamp) (freq : ℕ) → IsInRange j → IsInRange k → IsPlausible freq j → Follows j k → grains_of j.tb ≤ grains_of k.tb
forward_rises j k freq first second this order = omega (arith, ints, first.tb.low, second.tb.low, this.times, order.times)

pub backward_rises : (j k : Stamp) (freq : ℕ) → IsInRange j → IsInRange k → IsPlausible freq k → Follows j k → grains_of j.te ≤ grains_of k.te
backward_rises j k freq first second this order = omega (arith, ints, first.te.low, second.te.low, this.times, order.times)

pub nominal_is_rate : (freq : ℕ) → IsRate freq (nominal_rate freq)
nominal_is_rate freq = record { lowest = omega arith; low = lowest-below freq; high = highest-above freq; highest = omega arith }
