-- How wrong a period that is believed may be.
use Rattle.std.proofs.Common.{ℕ, ◌*◌, ◌/◌, ◌<◌, ◌≤◌, ◌^◌, arith}
use Rattle.std.proofs.Math.Nat.{div-le_of_le-mul}
use Rattle.ff_grain.specs.Periods.{lowest_period, highest_period}
use Rattle.ff_grain.proofs.PeriodLaws.{lowest-positive}
use Rattle.rate_pair.specs.Rates.{IsRate, rate_error}
use Rattle.rate_pair.specs.declared.rates.Rate.{Rate}
use Rattle.ff_estimator.specs.Estimates.{rate_parts}

pub period-positive : (freq : ℕ) (r : Rate) → 1000000 ≤ freq → freq ≤ 16000000000 → IsRate freq r → 0 < r.period
period-positive freq r low high is = omega (arith, is.lowest, is.low, lowest-positive freq low high)

-- not by a five-hundredth, so its error fits in 32 bits
pub rate_parts-fit : (freq : ℕ) (r : Rate) → 1000000 ≤ freq → freq ≤ 16000000000 → IsRate freq r → rate_parts r < 2 ^ 32
unfolding lowest_period highest_period
rate_parts-fit freq r low high is =
    let some = period-positive freq r low high is in
    let most : 1000000000000 * rate_error r / r.period ≤ 2000000000 = div-le_of_le-mul r.period (omega (arith, is.lowest, is.low, is.high, is.highest)) in
    omega arith
