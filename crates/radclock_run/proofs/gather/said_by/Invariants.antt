use Rattle.std.proofs.Common.{◌≤◌}
use Rattle.radclock_run.proofs.Fulls.{Gathers}
use Rattle.radclock_run.proofs.gather.said_by.Given as goal

abbrev pub invariant-loop-x : goal.invariant-loop-x
invariant-loop-x g l = record {
  few : l.refused ≤ l.x-index;
  gathers : Gathers l.daemon l.events.items l.file.head.freq l.x-items l.x-index l.refused;
}
