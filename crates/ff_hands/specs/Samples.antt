-- Three small journals with numbers, by which laws tell what is legal and what is not.
use Rattle.std.specs.Prelude.{ℕ, ◌+◌, ◌-◌, ◌*◌, pos, negsuc, Bool, true, false, List, [], ◌∷◌}
use Rattle.ff_grain.specs.declared.bintime.Bintime.{Bintime}
use Rattle.ff_hands.specs.Windups.{cold}
use Rattle.ff_hands.specs.declared.estimates.Estimate.{Estimate}
use Rattle.ff_hands.specs.declared.estimates.Marks.{Marks}
use Rattle.ff_hands.specs.declared.hands.Hands.{Hands}
use Rattle.ff_hands.specs.declared.hands.How.{How}
use Rattle.ff_hands.specs.declared.hands.How.TheVariants as how

abbrev pub time : ℕ → ℕ → Bintime
time s f = record { sec = pos s; frac = f }

abbrev pub marks : Bool → Bool → Marks
marks unsync warmup = record { unsync = unsync; warmup = warmup }

-- a clock that is set to 100 s at the count 10, goes by 2^32 grains a count, and is off by up to 5 ns
-- and 10^6 parts of 10^12
abbrev pub first_estimate : Estimate
first_estimate = record {
  update_time = time 100 0;
  update_ffcount = 10;
  leapsec_next = 0;
  period = 4294967296;
  errb_abs = 5;
  errb_rate = 1000000;
  status = marks false false;
  leapsec_total = pos 0;
  leapsec = pos 0;
}

abbrev pub set : Hands
set = record {
  count = 12;
  time = time 100 8589934592;
  lerp = time 100 8589934592;
  period_lerp = 4294967296;
  boot = time 100 0;
  kstatus = first_estimate.status;
  how = how.Reset;
  est = first_estimate;
}

-- an estimate 20 counts later, by which the clock goes by 4 grains more a count. There were 37 leap
-- seconds, and one more is due at the count 45
abbrev pub second_estimate : Estimate
second_estimate = record {
  update_time = time 100 90000000000;
  update_ffcount = 30;
  leapsec_next = 45;
  period = 4294967300;
  errb_abs = 4;
  errb_rate = 2000000;
  status = marks false false;
  leapsec_total = pos 37;
  leapsec = pos 1;
}

abbrev pub taken : Hands
taken = record {
  count = 40;
  time = time 100 132949673000;
  lerp = time 100 128849018880;
  period_lerp = 4294967300;
  boot = time 100 0;
  kstatus = second_estimate.status;
  how = how.Take;
  est = second_estimate;
}

-- what the clock shows later, while it goes on
abbrev pub on : ℕ → Hands
on n = record {
  count = n;
  time = time 100 (132949673000 + (n - 40) * 4294967300);
  lerp = time 100 (128849018880 + (n - 40) * 4294967300);
  period_lerp = 4294967300;
  boot = time 100 0;
  kstatus = second_estimate.status;
  how = how.Plain;
  est = second_estimate;
}

-- a journal of thirteen ticks, with a reset, a take and plain ones
abbrev pub ticks : List Hands
ticks = cold ∷ set ∷ taken ∷ on 50 ∷ on 60 ∷ on 70 ∷ on 80 ∷ on 90 ∷ on 100 ∷ on 110 ∷ on 120 ∷ on 130 ∷ on 140 ∷ []

-- a clock that is set to 100 s at the count 10 before any server was heard
abbrev pub guessed_estimate : Estimate
guessed_estimate = record {
  update_time = time 100 0;
  update_ffcount = 10;
  leapsec_next = 0;
  period = 4294967296;
  errb_abs = 0;
  errb_rate = 0;
  status = marks true false;
  leapsec_total = pos 0;
  leapsec = pos 0;
}

abbrev pub guessed : Hands
guessed = record {
  count = 12;
  time = time 100 8589934592;
  lerp = time 100 8589934592;
  period_lerp = 4294967296;
  boot = time 100 0;
  kstatus = guessed_estimate.status;
  how = how.Reset;
  est = guessed_estimate;
}

-- the first estimate of a daemon that warms up: it is 101 s at the count 20, so the clock jumps, and the boot
-- time with it
abbrev pub warm_estimate : Estimate
warm_estimate = record {
  update_time = time 101 0;
  update_ffcount = 20;
  leapsec_next = 0;
  period = 4294967300;
  errb_abs = 7;
  errb_rate = 3000000;
  status = marks false true;
  leapsec_total = pos 0;
  leapsec = pos 0;
}

abbrev pub jumped : Hands
jumped = record {
  count = 30;
  time = time 101 42949673000;
  lerp = time 101 42949673000;
  period_lerp = 4294967300;
  boot = time 100 18446744030759878696;
  kstatus = warm_estimate.status;
  how = how.Jump;
  est = warm_estimate;
}

abbrev pub jumped_on : Hands
jumped_on = record {
  count = 40;
  time = time 101 85899346000;
  lerp = time 101 85899346000;
  period_lerp = 4294967300;
  boot = time 100 18446744030759878696;
  kstatus = warm_estimate.status;
  how = how.Plain;
  est = warm_estimate;
}

-- a journal of four ticks, with a jump
abbrev pub warm_ticks : List Hands
warm_ticks = cold ∷ guessed ∷ jumped ∷ jumped_on ∷ []

-- A clock with a period of 2^44 grains, so that a second has 1048576 counts. It is set to 100 s while it is not
-- synchronised, and stays so
abbrev pub warming : Bintime → ℕ → Estimate
warming at count = record {
  update_time = at;
  update_ffcount = count;
  leapsec_next = 0;
  period = 17592186044416;
  errb_abs = 0;
  errb_rate = 0;
  status = marks false true;
  leapsec_total = pos 0;
  leapsec = pos 0;
}

abbrev pub unsynced_estimate : Estimate
unsynced_estimate = record (warming (time 100 0) 0) { status = marks true false }

abbrev pub begun : Hands
begun = record {
  count = 0;
  time = time 100 0;
  lerp = time 100 0;
  period_lerp = 17592186044416;
  boot = time 100 0;
  kstatus = marks true false;
  how = how.Reset;
  est = unsynced_estimate;
}

abbrev pub begun_on : Hands
begun_on = record begun { count = 1048576; time = time 101 0; lerp = time 101 0; how = how.Plain }

-- two seconds ahead it jumps
abbrev pub warmed : Hands
warmed = record {
  count = 2097152;
  time = time 104 0;
  lerp = time 104 0;
  period_lerp = 17592186044416;
  boot = time 102 0;
  kstatus = marks false true;
  how = how.Jump;
  est = warming (time 103 0) 1048576;
}

-- two seconds ahead again, it is steered: by 5 ms in each of the two seconds between the estimates, over the
-- counts between them
abbrev pub steered : Hands
steered = record {
  count = 3670016;
  time = time 107 9223372036854775808;
  lerp = time 105 9223372036854775808;
  period_lerp = 17680146974634;
  boot = time 102 0;
  kstatus = marks false true;
  how = how.Take;
  est = warming (time 107 0) 3145728;
}

-- the absolute clock goes by the period, and the uninterrupted one by its slope
abbrev pub steered_on : Hands
steered_on = record steered { count = 4718592; time = time 108 9223372036854775808; lerp = time 106 9315605757219045376; how = how.Plain }

-- the estimate is 2049 s old, though the tick before is not
abbrev pub aged : Hands
aged = record steered { count = 2151677952; time = time 2156 0; lerp = time 2164 4473335429110693888; kstatus = marks true true; how = how.Plain }

-- the last time that an estimate may have, with a leap second less that is due
abbrev pub last_estimate : Estimate
last_estimate = record (warming (time 35184372088831 18446744073709551615) 2152726528) { leapsec = negsuc 0 }

abbrev pub jumped_far : Hands
jumped_far = record {
  count = 2152726528;
  time = last_estimate.update_time;
  lerp = last_estimate.update_time;
  period_lerp = 17592186044416;
  boot = time 35184372086768 13881174924234588159;
  kstatus = marks false true;
  how = how.Jump;
  est = last_estimate;
}

-- a journal of eight ticks, with a take that steers the clock between two jumps
abbrev pub steered_ticks : List Hands
steered_ticks = cold ∷ begun ∷ begun_on ∷ warmed ∷ steered ∷ steered_on ∷ aged ∷ jumped_far ∷ []

-- hands that tell another way, count, time, boot time or estimate than theirs
abbrev pub by_way : How → Hands → Hands
by_way w h = record h { how = w }

abbrev pub at_count : ℕ → Hands → Hands
at_count n h = record h { count = n }

abbrev pub a_grain_on : Hands → Hands
a_grain_on h = record h { time = time 100 (h.time.frac + 1) }

abbrev pub booted_at : Bintime → Hands → Hands
booted_at t h = record h { boot = t }

abbrev pub by_estimate : Estimate → Hands → Hands
by_estimate e h = record h { est = e }
