use Rattle.radclock_run.specs.Reports.{tick_lines}
use Rattle.radclock_run.proofs.Listing.{Listing}
use Rattle.radclock_run.proofs.listings.push_journal.Given as goal

abbrev pub invariant-loop-n : goal.invariant-loop-n
invariant-loop-n g l = record { listing : Listing g.K.Sink.written g.K.Sink.faults g.K.Sink.push_gives tick_lines l.ticks l.n l.fn.sink l.sink }
