use Rattle.std.proofs.Common.{◌≤◌}
use Rattle.callouts.proofs.tests.add_rounds.Given as goal

abbrev pub invariant-loop-i : goal.invariant-loop-i
invariant-loop-i l = l.wheel.added ≤ l.i
