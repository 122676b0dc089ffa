use Rattle.std.proofs.Common.{◌≤◌}
use Rattle.ideal_world.specs.Deviations.{IsFoundBefore}
use Rattle.ideal_world.proofs.deviations.farthest.Given as goal

abbrev pub invariant-loop-n : goal.invariant-loop-n
invariant-loop-n l = (2 ≤ l.n) × IsFoundBefore l.fn.world l.fn.ticks l.n l.found
