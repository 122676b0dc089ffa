-- Stamps and what was seen of some, by which laws tell what is accepted and what is not.
use Rattle.std.specs.Prelude.{ℕ, pos, Some}
use Rattle.ff_grain.specs.declared.bintime.Bintime.{Bintime}
use Rattle.stamp_text.specs.declared.lines.Stamp.{Stamp}
use Rattle.stamp_text.specs.Past.{Seen, nothing_seen}

-- a whole second
abbrev pub at : ℕ → Bintime
at sec = record { sec = pos sec; frac = 0 }

-- an exchange at second 100 of a server that says that a second will be put in, between two counts
abbrev pub exchange : ℕ → ℕ → Stamp
exchange ta tf = record { ta = ta; tb = at 100; te = at 100; tf = tf; stratum = 1; leap = 1 }

-- the same with another stratum and another word on leap seconds
abbrev pub said : ℕ → ℕ → Stamp
said stratum leap = record (exchange 7 10) { stratum = stratum; leap = leap }

-- an exchange was accepted whose reply came at a count
abbrev pub exchanged : ℕ → Seen
exchanged tf = record nothing_seen { stamp = Some (exchange 7 tf) }
