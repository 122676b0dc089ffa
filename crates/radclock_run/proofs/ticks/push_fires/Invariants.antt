use Rattle.radclock_run.specs.Reports.{fire_lines}
use Rattle.radclock_run.proofs.Listing.{Listing}
use Rattle.radclock_run.proofs.ticks.push_fires.Given as goal

abbrev pub invariant-loop-f : goal.invariant-loop-f
invariant-loop-f g l = record { listing : Listing g.K.Sink.written g.K.Sink.faults g.K.Sink.push_gives (λ n. fire_lines) l.fired l.f-index l.fn.sink l.sink }
