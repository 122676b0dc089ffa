-- How far the numbers of hands go that stand in a journal.
use Rattle.std.specs.Prelude.{◌+◌, ◌*◌, ◌<◌, ◌≤◌, pos, ◌+ℤ◌, ◌≤ℤ◌, ◌<ℤ◌, ◌^◌}
use Rattle.ff_grain.specs.Grains.{number_of}
use Rattle.ff_hands.specs.declared.estimates.Estimate.{Estimate}
use Rattle.ff_hands.specs.declared.hands.Hands.{Hands}

-- an estimate of a sane order
pub record IsSane (e : Estimate) : Type 0 where
  pub update : e.update_ffcount < 2 ^ 62
  pub period : e.period < 2 ^ 45
  pub low : pos 0 ≤ℤ number_of e.update_time
  pub high : number_of e.update_time <ℤ pos (2 ^ 109)

-- the slope is within a two-hundredth of the period. The clocks are not negative, and grow by at most
-- 2^46 grains a count; so does the uptime, while the boot time itself may be any number between
pub record IsBounded (h : Hands) : Type 0 where
  pub count : h.count < 2 ^ 62
  pub update : h.est.update_ffcount ≤ h.count
  pub period : h.est.period < 2 ^ 45
  pub slope_low : 199 * h.est.period ≤ 200 * h.period_lerp
  pub slope_high : 200 * h.period_lerp ≤ 201 * h.est.period
  pub time_low : pos 0 ≤ℤ number_of h.time
  pub time_high : number_of h.time ≤ℤ pos (2 ^ 109 + 2 ^ 46 * h.count)
  pub lerp_low : pos 0 ≤ℤ number_of h.lerp
  pub lerp_high : number_of h.lerp ≤ℤ pos (2 ^ 109 + 2 ^ 46 * h.count)
  pub uptime_low : number_of h.boot ≤ℤ number_of h.lerp
  pub uptime_high : number_of h.lerp ≤ℤ (number_of h.boot +ℤ pos (2 ^ 46 * h.count))
