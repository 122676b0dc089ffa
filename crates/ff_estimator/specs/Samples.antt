-- Rates and times that were taken, by which laws work out numbers.
use Rattle.std.specs.Prelude.{ℕ, ◌+◌, ◌-◌, pos, false}
use Rattle.rate_pair.specs.declared.rates.Rate.{Rate}
use Rattle.ff_estimator.specs.declared.choices.Taken.{Taken}

-- a period that may be wrong by one grain
abbrev pub rate_of_period : ℕ → Rate
rate_of_period period = record { period = period; low = period - 1; high = period + 1 }

-- a mean at time 0
abbrev pub taken_with : ℕ → Taken
taken_with spread = record { time = pos 0; spread = spread; predicted = false; run = 0 }
