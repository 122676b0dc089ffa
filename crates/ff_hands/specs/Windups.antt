-- The hands of a clock, from one tick to the next.
use Rattle.std.specs.Prelude.{ℕ, ℤ, pos, ◌+◌, ◌-◌, ◌*◌, ◌/◌, ◌+ℤ◌, ◌-ℤ◌, int_lt, unsigned_abs, min, Bool, true, false, not, ◌&&◌, ◌||◌, nat_lt, if◌then◌else◌, ◌^◌}
use Rattle.ff_grain.specs.Grains.{number_of, of_grains}
use Rattle.ff_grain.specs.declared.bintime.Bintime.{Bintime}
use Rattle.ff_grain.specs.Periods.{nominal_period}
use Rattle.ff_hands.specs.declared.estimates.Estimate.{Estimate}
use Rattle.ff_hands.specs.declared.estimates.Marks.{Marks}
use Rattle.ff_hands.specs.declared.hands.Hands.{Hands}
use Rattle.ff_hands.specs.declared.hands.How.TheVariants as how
use Rattle.ff_hands.specs.declared.hands.Order.{Order}
use Rattle.ff_hands.specs.declared.hands.Order.TheVariants as order

-- the mark of a clock that was never set
abbrev pub unsynced : Marks
unsynced = record { unsync = true; warmup = false }

-- the estimate that sets a clock to a time at a count: the nominal period, and no bounds
abbrev pub reset_estimate : Bintime → ℕ → ℕ → Estimate
reset_estimate at count freq = record {
  update_time = at;
  update_ffcount = count;
  leapsec_next = 0;
  period = nominal_period freq;
  errb_abs = 0;
  errb_rate = 0;
  status = unsynced;
  leapsec_total = pos 0;
  leapsec = pos 0;
}

abbrev pub start_time : Bintime
start_time = record { sec = pos 0; frac = 0 }

-- the hands before the first windup: all is 0
abbrev pub cold : Hands
cold = record {
  count = 0;
  time = start_time;
  lerp = start_time;
  period_lerp = 0;
  boot = start_time;
  kstatus = unsynced;
  how = how.Cold;
  est = record {
    update_time = start_time;
    update_ffcount = 0;
    leapsec_next = 0;
    period = 0;
    errb_abs = 0;
    errb_rate = 0;
    status = unsynced;
    leapsec_total = pos 0;
    leapsec = pos 0;
  };
}

-- a time after so many counts of a period
abbrev pub after : Bintime → ℕ → ℕ → ℤ
after t counts period = number_of t +ℤ pos (counts * period)

-- what the absolute and the uninterrupted clock come to at a count
abbrev pub moved_time : Hands → ℕ → ℤ
moved_time h count = after h.time (count - h.count) h.est.period

abbrev pub moved_lerp : Hands → ℕ → ℤ
moved_lerp h count = after h.lerp (count - h.count) h.period_lerp

-- the estimate is more than 2048 whole seconds old
abbrev pub is_old : Hands → ℕ → Bool
is_old h count = nat_lt 2048 ((count - h.est.update_ffcount) * h.est.period / 2 ^ 64)

-- the clocks go on
abbrev pub plain : Hands → ℕ → Hands
plain h count = record {
  count = count;
  time = of_grains (moved_time h count);
  lerp = of_grains (moved_lerp h count);
  period_lerp = h.period_lerp;
  boot = h.boot;
  kstatus = record { unsync = h.kstatus.unsync || is_old h count; warmup = h.kstatus.warmup };
  how = how.Plain;
  est = h.est;
}

-- the time of an estimate at a count
abbrev pub time_of : Estimate → ℕ → ℤ
time_of e count = after e.update_time (count - e.update_ffcount) e.period

-- the uninterrupted clock makes up for a gap by its slope, over as many counts as lie between the
-- estimates, but by at most 5 ms in a second
abbrev pub correction : ℕ → ℕ → ℕ → ℕ
correction gap counts period = min gap (counts * period / 2 ^ 64 * 5000000 * 18446744073) / counts

abbrev pub corrected : Bool → ℕ → ℕ → ℕ → ℕ
corrected forward gap counts period = if forward then period + correction gap counts period else period - correction gap counts period

-- while the clock was not synchronised, the first estimates of a daemon that warms up move it at once
abbrev pub jumps : Hands → Estimate → Bool
jumps h e = h.kstatus.unsync && e.status.warmup && not e.status.unsync

-- the uninterrupted clock jumps to the new time, and the boot time with it, so that the uptime stays
abbrev pub take_jump : Hands → ℕ → Estimate → Hands
take_jump h count e = record {
  count = count;
  time = of_grains (time_of e count);
  lerp = of_grains (time_of e count);
  period_lerp = e.period;
  boot = of_grains (number_of h.boot +ℤ (time_of e count -ℤ moved_lerp h count));
  kstatus = e.status;
  how = how.Jump;
  est = e;
}

-- the uninterrupted clock goes on, at a slope that brings it to the new time
abbrev pub take_on : Hands → ℕ → Estimate → Hands
take_on h count e = record {
  count = count;
  time = of_grains (time_of e count);
  lerp = of_grains (moved_lerp h count);
  period_lerp = corrected (int_lt (moved_lerp h count) (time_of e count)) (unsigned_abs (time_of e count -ℤ moved_lerp h count))
      (e.update_ffcount - h.est.update_ffcount) e.period;
  boot = h.boot;
  kstatus = e.status;
  how = how.Take;
  est = e;
}

abbrev pub take : Hands → ℕ → Estimate → Hands
take h count e = if jumps h e then take_jump h count e else take_on h count e

-- all clocks begin anew with the estimate
abbrev pub reset : ℕ → Estimate → Hands
reset count e = record {
  count = count;
  time = of_grains (time_of e count);
  lerp = of_grains (time_of e count);
  period_lerp = e.period;
  boot = e.update_time;
  kstatus = e.status;
  how = how.Reset;
  est = e;
}

unfoldable pub wind_of : Hands → ℕ → Order → Hands
wind_of h count order.Plain = plain h count
wind_of h count (order.Take e) = take h count e
wind_of h count (order.Reset e) = reset count e
