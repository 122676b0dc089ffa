-- What one accepted stamp says of the time at a later count.
use Rattle.std.specs.Prelude.{ℕ, ◌+◌, ◌-◌, ◌*◌}
use Rattle.ff_grain.specs.Grains.{grains_of}
use Rattle.stamp_text.specs.Accepted.{trip}
use Rattle.stamp_text.specs.declared.lines.Stamp.{Stamp}
use Rattle.rate_pair.specs.Rates.{rate_error}
use Rattle.rate_pair.specs.declared.rates.Rate.{Rate}
use Rattle.offset_weights.specs.Means.{Term}
use Rattle.offset_weights.specs.Weights.{weight_of}

-- the counts from both of a stamp's readings of the counter to a later count
abbrev pub counts_since : ℕ → Stamp → ℕ
counts_since now s = (now - s.ta) + (now - s.tf)

-- what a stamp says of the time at a count: it weighs by its excess over the base and by its age.
-- Twice the time is both of the server's times, each with what the counts since then take; twice the
-- spread is the round trip at the highest period, and what the period may be wrong over these counts
abbrev pub term_of : ℕ → ℕ → Rate → ℕ → Stamp → Term
term_of freq base rate now s = record {
  weight = weight_of (trip s - base) (now - s.tf) freq;
  twice_time = grains_of s.tb + grains_of s.te + rate.period * counts_since now s;
  twice_spread = trip s * rate.high + rate_error rate * counts_since now s;
}
