use Rattle.radclock_run.specs.Reports.{entry_lines}
use Rattle.radclock_run.proofs.Listing.{Listing}
use Rattle.radclock_run.proofs.listings.push_log.Given as goal

abbrev pub invariant-loop-k : goal.invariant-loop-k
invariant-loop-k g l = record { listing : Listing g.K.Sink.written g.K.Sink.faults g.K.Sink.push_gives (entry_lines l.reader) l.entries l.k l.fn.sink l.sink }
