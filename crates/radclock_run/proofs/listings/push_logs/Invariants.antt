use Rattle.radclock_run.proofs.Listing.{Listing}
use Rattle.radclock_run.proofs.Replaying.{lines_of_logs}
use Rattle.radclock_run.proofs.listings.push_logs.Given as goal

abbrev pub invariant-loop-i : goal.invariant-loop-i
invariant-loop-i g l = record { listing : Listing g.K.Sink.written g.K.Sink.faults g.K.Sink.push_gives lines_of_logs l.logs l.i l.fn.sink l.sink }
