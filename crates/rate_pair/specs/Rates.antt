-- How fast a counter runs, in grains per count.
use Rattle.std.specs.Prelude.{ℕ, ◌+◌, ◌-◌, ◌/◌, ◌≤◌, min, max}
use Rattle.std.specs.Int.{div_ceil}
use Rattle.ff_grain.specs.Grains.{grains_of}
use Rattle.stamp_text.specs.Accepted.{trip}
use Rattle.ff_grain.specs.Periods.{nominal_period, lowest_period, highest_period}
use Rattle.stamp_text.specs.declared.lines.Stamp.{Stamp}
use Rattle.rate_pair.specs.declared.rates.Rate.{Rate}

-- a period and its bounds in their order, all among the periods that are believed
pub record IsRate (freq : ℕ) (r : Rate) : Type 0 where
  pub lowest : lowest_period freq ≤ r.low
  pub low : r.low ≤ r.period
  pub high : r.period ≤ r.high
  pub highest : r.high ≤ highest_period freq

-- by how much the period of a rate may be wrong, in grains per count
abbrev pub rate_error : Rate → ℕ
rate_error rate = max (rate.high - rate.period) (rate.period - rate.low)

-- the rate where only the frequency is known
abbrev pub nominal_rate : ℕ → Rate
nominal_rate freq = record {
  period = nominal_period freq;
  low = lowest_period freq;
  high = highest_period freq;
}

-- the grains from one stamp to a later one, by both of the server's times together
abbrev pub grains_between : Stamp → Stamp → ℕ
grains_between j k = (grains_of k.tb - grains_of j.tb) + (grains_of k.te - grains_of j.te)

-- the counts from one stamp to a later one, by both of the counter's readings together
abbrev pub counts_between : Stamp → Stamp → ℕ
counts_between j k = (k.ta - j.ta) + (k.tf - j.tf)

-- the believed period that is nearest to a number
abbrev pub nearest_period : ℕ → ℕ → ℕ
nearest_period freq x = max (lowest_period freq) (min (highest_period freq) x)

-- both round trips together
abbrev pub trips_of : Stamp → Stamp → ℕ
trips_of j k = trip j + trip k

-- the rate by two accepted stamps, j before k. The server's times may lie anywhere in their round
-- trips, so the counts may be too few or too many by both trips together
unfoldable pub rate_of : Stamp → Stamp → ℕ → Rate
rate_of j k freq = record {
  period = nearest_period freq (grains_between j k / counts_between j k);
  low = nearest_period freq (grains_between j k / (counts_between j k + trips_of j k));
  high = nearest_period freq (div_ceil (grains_between j k) (counts_between j k - trips_of j k));
}
