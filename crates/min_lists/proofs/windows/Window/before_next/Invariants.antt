use Rattle.std.proofs.Common.{ℕ, ◌+◌, ◌<◌, ◌≤◌}
use Rattle.min_lists.specs.Lists.{lows}
use Rattle.min_lists.specs.Links.{trips_between}
use Rattle.min_lists.specs.Nodes.{trip_at}
use Rattle.min_lists.proofs.windows.Window.before_next.Given as goal

abbrev pub invariant-loop-before : goal.invariant-loop-before
invariant-loop-before g l = record {
  within : l.before ≤ l.self.to;
  above : (j : ℕ) → l.self.from ≤ j → l.before ≤ j → j < l.self.to → trip_at l.nodes l.self.to < trip_at l.nodes j;
  forward : l.fn.steps ≤ l.steps;
  cost : l.steps + lows (trips_between l.nodes l.self.from l.before) ≤ l.fn.steps + lows (trips_between l.nodes l.self.from l.self.to);
}

abbrev pub decreases-loop-before : goal.decreases-loop-before
decreases-loop-before g l = l.before
