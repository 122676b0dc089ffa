use Rattle.std.proofs.Common.{ℕ, ◌-◌, ◌≤◌}
use Rattle.min_lists.specs.Lists.{IsFirstMinimum}
use Rattle.min_lists.specs.Nodes.{trip_at}
use Rattle.min_lists.proofs.windows.Window.cut.Given as goal

abbrev pub invariant-loop-head : goal.invariant-loop-head
invariant-loop-head l = record {
  least : (start : ℕ) × (l.self.from ≤ start) × (start ≤ l.from) × IsFirstMinimum (trip_at l.nodes) start l.self.to l.head;
}

abbrev pub decreases-loop-head : goal.decreases-loop-head
decreases-loop-head l = l.self.to - l.head
