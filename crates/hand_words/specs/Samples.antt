-- Hands whose numbers all differ, by which the places of their words are told.
use Rattle.std.specs.Prelude.{ℤ, pos, Bool, false}
use Rattle.ff_hands.specs.Samples.{marks, time}
use Rattle.ff_hands.specs.declared.hands.Hands.{Hands}
use Rattle.ff_hands.specs.declared.hands.How.{How}
use Rattle.ff_hands.specs.declared.hands.How.TheVariants as how

-- the marks of the clock and those of its estimate, how the hands came about, the leap second that is due,
-- and the leap seconds so far. The other numbers are 1 to 15 in the order of the words
abbrev pub numbered : Bool → Bool → Bool → Bool → How → ℤ → ℤ → Hands
numbered unsync warmup est_unsync est_warmup how leap total = record {
  count = 1;
  time = time 2 3;
  lerp = time 4 5;
  period_lerp = 6;
  boot = time 7 8;
  kstatus = marks unsync warmup;
  how = how;
  est = record {
    update_time = time 9 10;
    update_ffcount = 11;
    leapsec_next = 12;
    period = 13;
    errb_abs = 14;
    errb_rate = 15;
    status = marks est_unsync est_warmup;
    leapsec_total = total;
    leapsec = leap;
  };
}

abbrev pub numbered_plainly : Hands
numbered_plainly = numbered false false false false how.Cold (pos 0) (pos 0)
