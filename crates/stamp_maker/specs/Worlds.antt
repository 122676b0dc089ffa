-- The made world: a counter, and the true time at each of its counts.
use Rattle.std.specs.Prelude.{ℕ, pos, ◌+◌, ◌*◌}
use Rattle.ff_grain.specs.Grains.{second, of_grains}
use Rattle.ff_grain.specs.declared.bintime.Bintime.{Bintime}
use Rattle.world_times.specs.declared.world.World.{World}

-- the nominal frequency of the counter, in Hz
abbrev pub frequency : ℕ
frequency = 2400000000

-- its true period, in grains per count
abbrev pub period : ℕ
period = 7686343364

-- the true time at count 0, which is 1700000000 s, in grains
abbrev pub start : ℕ
start = 1700000000 * second

-- the true time at a count
abbrev pub true_time : ℕ → Bintime
true_time count = of_grains (pos (start + period * count))

-- the world of these
abbrev pub made_world : World
made_world = record { period = period; start = pos start }
