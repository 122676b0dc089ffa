use Rattle.std.proofs.Common.{◌≡◌, ◌++◌, map, length}
use Rattle.callouts.specs.Queues.{queue}
use Rattle.callouts.specs.Firings.{uptime_of, due_by, waiting, firing_of}
use Rattle.callouts.proofs.firings.fire_at.Given as goal

abbrev pub invariant-loop-f : goal.invariant-loop-f
invariant-loop-f l = record {
  fired : l.fired.items ++ map (firing_of l.tick) (due_by (uptime_of l.h) (queue l.wheel)) ≡ l.fn.fired.items
      ++ map (firing_of l.tick) (due_by (uptime_of l.h) (queue l.fn.wheel));
  left : waiting (uptime_of l.h) (queue l.wheel) ≡ waiting (uptime_of l.h) (queue l.fn.wheel);
}

abbrev pub decreases-loop-f : goal.decreases-loop-f
decreases-loop-f l = length (queue l.wheel)
