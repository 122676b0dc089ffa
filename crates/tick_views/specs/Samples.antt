-- A small world.
use Rattle.std.specs.Prelude.{ℕ, ◌+◌, ◌*◌}
use Rattle.ff_hands.specs.Samples.{ticks}
use Rattle.tick_views.specs.Worlds.{World}

-- thirteen ticks, no windup stands open, and the counter is at 145
abbrev pub small : World
small = record { journal = ticks; turn = 24; marks = λ m. 2 * m + 2; counter = 145; bound = 145; made = 1 }
