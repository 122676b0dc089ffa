-- What lies between two stamps.
use Rattle.std.specs.Prelude.{◌≡◌}
use Rattle.stamp_text.specs.declared.lines.Stamp.{Stamp}
use Rattle.rate_pair.specs.Rates.{grains_between, counts_between, trips_of}
use Rattle.rate_pair.specs.declared.rates.Interval.{Interval}

-- it lies between these two, j before k
pub record IsBetween (i : Interval) (j k : Stamp) : Type 0 where
  pub grains : i.grains ≡ grains_between j k
  pub counts : i.counts ≡ counts_between j k
  pub trips : i.trips ≡ trips_of j k
