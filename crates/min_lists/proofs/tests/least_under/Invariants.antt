use Rattle.std.proofs.Common.{◌≡◌}
use Rattle.min_lists.proofs.tests.least_under.Given as goal

abbrev pub invariant-loop-i : goal.invariant-loop-i
invariant-loop-i g l = l.trial.count ≡ l.i
