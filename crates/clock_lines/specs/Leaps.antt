-- How far the clock Utc lies behind the absolute one.
use Rattle.std.specs.Prelude.{ℕ, ℤ, ◌-ℤ◌}
use Rattle.ff_grain.specs.Grains.{number_of}
use Rattle.ff_hands.specs.declared.hands.Hands.{Hands}
use Rattle.clock_lines.specs.Values.{value_of}
use Rattle.clock_lines.specs.declared.readings.Kind.TheVariants as kind

-- by so many grains Utc lies behind the absolute clock, by the same hands
abbrev pub behind : Hands → ℕ → ℤ
behind h count = number_of (value_of h kind.Abs count) -ℤ number_of (value_of h kind.Utc count)
