use Rattle.std.proofs.Common.{◌≡◌, ◌⊎◌, ◌+◌, ◌*◌, ◌<◌, ◌≤◌, length}
use Rattle.callouts.specs.Nodes.{held_at}
use Rattle.callouts.specs.Heaps.{AreMelding}
use Rattle.callouts.proofs.Passing.{left_to_pass}
use Rattle.callouts.proofs.heaps.pass.Given as goal

abbrev pub invariant-loop-next : goal.invariant-loop-next
invariant-loop-next l = record {
  long : length l.turned ≡ length l.fn.turned;
  node : l.node < length l.nodes;
  side : l.side < 2;
  next : l.next ≡ held_at l.nodes (2 * l.node + l.side);
  melding : AreMelding l.nodes (2 * l.node + l.side) l.loose;
  at : (2 * l.node + l.side ≡ 2 * l.fn.node + l.fn.side) ⊎ (512 ≤ 2 * l.node + l.side);
}

abbrev pub decreases-loop-next : goal.decreases-loop-next
decreases-loop-next l = left_to_pass l.nodes l.next l.loose
