-- Entries and logs over a small journal, by which laws tell what is legal and what is not.
use Rattle.std.specs.Prelude.{ℕ, List, [], ◌∷◌}
use Rattle.ff_hands.specs.Samples.{time}
use Rattle.clock_lines.specs.declared.readings.Kind.{Kind}
use Rattle.clock_lines.specs.declared.readings.Kind.TheVariants as kind
use Rattle.clock_lines.specs.declared.readings.Entry.{Entry}
use Rattle.clock_lines.specs.declared.readings.Entry.TheVariants as entry
use Rattle.clock_logs.specs.declared.noted.Noted.{Noted}

-- a reading of a kind, by a tick at a count: the seconds and the grains above them, and the bound
abbrev pub read : Kind → ℕ → ℕ → ℕ → ℕ → ℕ → Entry
read k tick count sec frac bound = entry.Read (record { kind = k; tick = tick; count = count; time = time sec frac; bound = bound })

-- an entry by its opening value
abbrev pub since : Entry → ℕ → Noted
since e opening = record { entry = e; opening = opening }

-- a legal log, with an entry of every kind
abbrev pub every : List Entry
every =
    read kind.Abs 2 45 100 154424509500 73787105146
    ∷ read kind.Mono 2 46 100 154618822680 73787113735
    ∷ read kind.Uptime 2 47 0 158913789980 73787122325
    ∷ read kind.Utc 2 48 62 167309411400 73787130915
    ∷ read kind.Fast 2 40 100 132949673000 73787062196
    ∷ read kind.Diff 2 1000 0 4294967300000 8589935
    ∷ read kind.Back 1 40 100 128849018880 92233849220
    ∷ entry.Again kind.Abs 4 6
    ∷ entry.Again kind.Fast 4 24
    ∷ entry.Again kind.Back 6 26
    ∷ entry.TooOld 45 50
    ∷ entry.Ahead 60 48
    ∷ []

-- six attempts in turn, each with its entry
abbrev pub six : List Entry
six =
    read kind.Abs 2 45 100 154424509500 73787105146
    ∷ entry.Again kind.Mono 4 6
    ∷ read kind.Uptime 2 45 0 150323855380 73787105146
    ∷ read kind.Fast 2 40 100 132949673000 73787062196
    ∷ read kind.Diff 2 1000 0 4294967300000 8589935
    ∷ read kind.Back 2 45 100 150323855380 73787105146
    ∷ []

-- entries that are current, with opening values that rise
abbrev pub rising : List Noted
rising =
    since (read kind.Abs 2 45 100 154424509500 73787105146) 4
    ∷ since (entry.Again kind.Fast 6 26) 4
    ∷ since (read kind.Back 1 40 100 128849018880 92233849220) 5
    ∷ since (entry.Ahead 60 48) 6
    ∷ []

-- what two readers read of the uninterrupted clock, the second by a later tick
abbrev pub earlier : List Entry
earlier = read kind.Mono 2 45 100 150323855380 73787105146 ∷ []

abbrev pub later : List Entry
later = read kind.Mono 3 55 100 193273528380 73787191045 ∷ []
