use Rattle.std.proofs.Common.{◌+◌, ◌≤◌}
use Rattle.timer_cost.proofs.holds.Given as goal

abbrev pub invariant-loop-i : goal.invariant-loop-i
invariant-loop-i l = l.wheel.added ≤ l.fn.wheel.added + l.i
