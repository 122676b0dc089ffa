-- A world in which a counter runs at one rate, and what lies in it.
use Rattle.std.specs.Prelude.{ℕ, ℤ, pos, ◌*◌, ◌^◌, ◌<◌, ◌≤◌, ◌+ℤ◌, ◌-ℤ◌, ◌≤ℤ◌, ◌<ℤ◌, unsigned_abs}
use Rattle.ff_grain.specs.Grains.{number_of}
use Rattle.ff_grain.specs.Periods.{lowest_period, highest_period}
use Rattle.stamp_text.specs.declared.lines.Stamp.{Stamp}
use Rattle.world_times.specs.declared.world.World.{World}

-- its period is one that is believed of the frequency, and it starts at a time from 0 to below 2^32 s
pub record IsFit (freq : ℕ) (w : World) : Type 0 where
  pub lowest : lowest_period freq ≤ w.period
  pub highest : w.period ≤ highest_period freq
  pub start : pos 0 ≤ℤ w.start
  pub early : w.start <ℤ pos (2 ^ 96)

-- the same of any frequency
pub record IsWorld (w : World) : Type 0 where
  pub period : w.period < 2 ^ 45
  pub start : pos 0 ≤ℤ w.start
  pub early : w.start <ℤ pos (2 ^ 96)

-- the true time at a count, in grains
abbrev pub truth : World → ℕ → ℤ
truth w count = w.start +ℤ pos (w.period * count)

-- the request did not reach the server before it left, nor did the reply come before it was sent
pub record LiesIn (w : World) (s : Stamp) : Type 0 where
  pub request : truth w s.ta ≤ℤ number_of s.tb
  pub reply : number_of s.te ≤ℤ truth w s.tf

-- by how much a time is off at a count, in grains
abbrev pub distance : World → ℤ → ℕ → ℕ
distance w time count = unsigned_abs (time -ℤ truth w count)
