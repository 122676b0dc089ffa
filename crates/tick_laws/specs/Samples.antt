-- What is kept of a reader, over a small journal.
use Rattle.std.specs.Prelude.{ℕ, List, [], ◌∷◌}
use Rattle.clock_lines.specs.declared.readings.Kind.TheVariants as kind
use Rattle.clock_logs.specs.declared.noted.Kept.{Kept}
use Rattle.clock_logs.specs.declared.noted.Noted.{Noted}
use Rattle.clock_logs.specs.Samples.{read, since}

abbrev pub kept : ℕ → List ℕ → List Noted → Kept
kept seen counters entries = record { number = 0; seen = seen; counters = counters; entries = entries }

-- a reading of the absolute clock at the count 45, by its opening value
abbrev pub at_45 : ℕ → Noted
at_45 opening = since (read kind.Abs 2 45 100 154424509500 73787105146) opening
