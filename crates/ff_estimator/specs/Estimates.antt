-- The estimate at each accepted stamp, over the whole list of them.
use Rattle.std.specs.Prelude.{ℕ, pos, ◌*◌, min, nat_lt, Bool, List, Result, Ok, Err}
use Rattle.std.specs.Int.{div_ceil}
use Rattle.ff_grain.specs.Grains.{of_grains}
use Rattle.stamp_text.specs.declared.accepts.Refused.{Refused}
use Rattle.stamp_text.specs.declared.lines.Stamp.{Stamp}
use Rattle.rtt_window.specs.Bases.{base_at}
use Rattle.rate_pair.specs.declared.rates.Rate.{Rate}
use Rattle.ff_hands.specs.declared.estimates.Estimate.{Estimate}
use Rattle.rate_pair.specs.Rates.{rate_error}
use Rattle.ff_estimator.specs.Rates.{global_rate, is_local}
use Rattle.ff_estimator.specs.Means.{count_at}
use Rattle.ff_estimator.specs.Choices.{taken_at}
use Rattle.ff_estimator.specs.declared.choices.Taken.{Taken}
use Rattle.ff_estimator.specs.declared.fulls.Full.{Full}
use Rattle.ff_estimator.specs.declared.fulls.Fed.{Fed}
use Rattle.ff_estimator.specs.declared.fulls.Fed.TheVariants as fed

-- a spread in nanoseconds, rounded up
abbrev pub nanos_of : ℕ → ℕ
nanos_of spread = div_ceil (spread * 1000000000) 18446744073709551616

-- the error of a rate's period in parts in 10^12, rounded up
abbrev pub rate_parts : Rate → ℕ
rate_parts rate = div_ceil (1000000000000 * rate_error rate) rate.period

-- the estimate at stamp i, by what was taken there
abbrev pub estimate_of : ℕ → ℕ → Rate → Taken → Estimate
estimate_of i count rate t = record {
  update_time = of_grains t.time;
  update_ffcount = count;
  leapsec_next = 0;
  period = rate.period;
  errb_abs = min 4294967295 (nanos_of t.spread);
  errb_rate = rate_parts rate;
  status = record { unsync = nat_lt 4294967295 (nanos_of t.spread); warmup = nat_lt i 16 };
  leapsec_total = pos 0;
  leapsec = pos 0;
}

-- all that is said at stamp i, by its parts
abbrev pub full_of : ℕ → ℕ → Rate → Bool → Bool → Taken → Full
full_of i count rate shifted local t = record {
  est = estimate_of i count rate t;
  spread = t.spread;
  rate = rate;
  shifted = shifted;
  local = local;
  predicted = t.predicted;
}

-- all that is said at stamp i
unfoldable pub full_at : ℕ → List Stamp → ℕ → Full
full_at freq all i = full_of i (count_at all i) (global_rate freq all i) (base_at freq all i).shifted (is_local freq all i) (taken_at freq all i)

-- what is said to one more stamp behind accepted ones
abbrev pub fed_by : Result (Unit {0}) Refused → Full → Fed
fed_by (Ok o) full = fed.Estimate full
fed_by (Err why) full = fed.Refused why
