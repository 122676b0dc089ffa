use Rattle.std.proofs.Common.{◌≡◌}
use Rattle.tick_desk.proofs.tests.threads.turn.Given as goal

abbrev pub invariant-loop-k : goal.invariant-loop-k
invariant-loop-k l = l.crank.table ≡ l.initial.crank.table
