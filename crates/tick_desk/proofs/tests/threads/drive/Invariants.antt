use Rattle.std.proofs.Common.{◌≡◌}
use Rattle.tick_desk.proofs.tests.threads.drive.Given as goal

abbrev pub invariant-loop-k : goal.invariant-loop-k
invariant-loop-k l = l.pen.table ≡ l.initial.pen.table
