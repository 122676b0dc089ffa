-- What worked lines tell of.
use Rattle.std.specs.Prelude.{ℕ, pos, negsuc, true, false}
use Rattle.ff_grain.specs.declared.bintime.Bintime.{Bintime}
use Rattle.stamp_text.specs.declared.lines.Stamp.{Stamp}
use Rattle.ff_hands.specs.declared.estimates.Estimate.{Estimate}
use Rattle.ff_hands.specs.declared.hands.Hands.{Hands}
use Rattle.ff_hands.specs.declared.hands.How.TheVariants as how
use Rattle.ff_estimator.specs.declared.fulls.Full.{Full}
use Rattle.clock_lines.specs.declared.readings.Kind.TheVariants as kind
use Rattle.clock_lines.specs.declared.readings.Reading.{Reading}

abbrev pub time : ℕ → ℕ → Bintime
time sec frac = record { sec = pos sec; frac = frac }

abbrev pub stamp : Stamp
stamp = record { ta = 1; tb = time 5 0; te = time 6 9223372036854775808; tf = 9; stratum = 15; leap = 2 }

abbrev pub estimate : Estimate
estimate = record {
  update_time = time 5 1;
  update_ffcount = 9;
  leapsec_next = 7;
  period = 1000;
  errb_abs = 10;
  errb_rate = 11;
  status = record { unsync = true; warmup = true };
  leapsec_total = negsuc 0;
  leapsec = pos 1;
}

abbrev pub full : Full
full = record { est = estimate; spread = 12; rate = record { period = 1000; low = 999; high = 1001 }; shifted = true; local = true; predicted = false }

abbrev pub hands : Hands
hands = record {
  count = 20;
  time = time 21 0;
  lerp = time 22 0;
  period_lerp = 23;
  boot = time 24 0;
  kstatus = record { unsync = false; warmup = false };
  how = how.Take;
  est = estimate;
}

abbrev pub reading : Reading
reading = record { kind = kind.Mono; tick = 4; count = 30; time = time 31 0; bound = 32 }
