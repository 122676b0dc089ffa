use Rattle.std.proofs.Common.{◌≡◌, List, drop}
use Rattle.callouts.specs.Firings.{fired_at, firing_list}
use Rattle.callouts.specs.declared.timers.Entry.{Entry}
use Rattle.radclock_run.specs.Reports.{timed_lines}
use Rattle.radclock_run.proofs.Listing.{Listing}
use Rattle.radclock_run.proofs.ticks.push_timed.Given as goal

abbrev pub invariant-loop-n : goal.invariant-loop-n
invariant-loop-n g l = record {
  rest : (ess : List (List Entry)) → l.fired ≡ firing_list 0 ess → l.rest ≡ firing_list l.n (drop l.n ess);
  listing : (ess : List (List Entry)) → l.fired ≡ firing_list 0 ess
      → Listing g.K.Sink.written g.K.Sink.faults g.K.Sink.push_gives (timed_lines (fired_at ess)) l.ticks l.n l.fn.sink l.sink;
}
