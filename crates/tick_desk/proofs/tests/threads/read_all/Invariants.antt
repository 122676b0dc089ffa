use Rattle.std.proofs.Common.{◌≡◌}
use Rattle.tick_desk.proofs.tests.threads.read_all.Given as goal

abbrev pub invariant-loop-k : goal.invariant-loop-k
invariant-loop-k l = l.reader.pass.table ≡ l.initial.reader.pass.table
