-- By how much round trips may differ.
use Rattle.std.specs.Prelude.{ℕ, ◌*◌, ◌/◌, max}

-- the counts of 60 microseconds at a nominal frequency, and at least 1
abbrev pub trip_scale : ℕ → ℕ
trip_scale freq = max 1 (60 * freq / 1000000)
