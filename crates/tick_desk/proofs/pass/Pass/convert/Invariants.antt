use Rattle.std.proofs.Common.{◌≡◌, ◌+◌, ◌-◌, ◌%◌, ◌≤◌, ◌<◌}
use Rattle.tick_laws.specs.Goes.{GoesDown}
use Rattle.tick_desk.proofs.pass.Pass.convert.Given as goal

abbrev pub invariant-loop-down : goal.invariant-loop-down
invariant-loop-down l = record {
  table : l.self.table ≡ l.initial.self.table;
  near : l.down ≤ l.newest;
  few : l.down < 10;
  slot : l.slot ≡ (l.newest - l.down + 1) % 10;
  down : GoesDown l.initial.self.view l.self.view l.count l.first (l.newest - l.down);
}
