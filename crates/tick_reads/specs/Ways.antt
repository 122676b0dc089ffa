-- How each kind of clock is read from a tick.
use Rattle.std.specs.Prelude.{ℕ, Bool, true, false}
use Rattle.ff_hands.specs.declared.hands.Hands.{Hands}
use Rattle.clock_lines.specs.declared.readings.Kind.{Kind}
use Rattle.clock_lines.specs.declared.readings.Kind.TheVariants as kind
use Rattle.clock_lines.specs.declared.readings.Reading.{Reading}
use Rattle.clock_lines.specs.Readings.{reading_at}
use Rattle.clock_logs.specs.Legal.{Way, full, quick, past}
use Rattle.tick_reads.specs.declared.loads.Ask.{Ask}

-- a full read is over at once where a windup stands open
abbrev pub needs_even : Way → Bool
needs_even full = true
needs_even quick = false
needs_even past = false

-- the count that is read at, where the counter stood at c
abbrev pub count_by : Kind → ℕ → Hands → ℕ → ℕ
count_by kind.Abs given h c = c
count_by kind.Mono given h c = c
count_by kind.Uptime given h c = c
count_by kind.Fast given h c = h.count
count_by kind.Diff given h c = given
count_by kind.Back given h c = given
count_by kind.Utc given h c = c

-- the reading of a tick by its hands, where the counter stood at c
abbrev pub reading : Ask → ℕ → Hands → ℕ → Reading
reading ask tick h c = reading_at h tick ask.kind (count_by ask.kind ask.given h c)
