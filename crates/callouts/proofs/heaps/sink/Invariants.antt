use Rattle.std.proofs.Common.{◌≡◌, ◌≢◌, ◌⊎◌, ◌+◌, ◌-◌, ◌*◌, ◌^◌, ◌<◌, ◌≤◌, length}
use Rattle.callouts.specs.Nodes.{key_at}
use Rattle.callouts.specs.Heaps.{AreMelding, Keeps}
use Rattle.callouts.proofs.heaps.sink.Given as goal

abbrev pub invariant-loop-node : goal.invariant-loop-node
invariant-loop-node l = record {
  long : length l.turned ≡ length l.fn.turned;
  node : l.node < length l.nodes;
  side : l.side < 2;
  some : l.loose ≢ 0;
  melding : AreMelding l.nodes (2 * l.node + l.side) l.loose;
  keeps : Keeps l.fn.nodes l.nodes (2 * l.fn.node + l.fn.side);
  at : (2 * l.node + l.side ≡ 2 * l.fn.node + l.fn.side) ⊎ (512 ≤ 2 * l.node + l.side);
}

abbrev pub decreases-loop-node : goal.decreases-loop-node
decreases-loop-node l = 2 ^ 192 - key_at l.nodes l.loose
