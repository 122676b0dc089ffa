use Rattle.std.proofs.Common.{◌≡◌, length}
use Rattle.replay_run.proofs.Opening.{Giving}
use Rattle.replay_run.proofs.log.give.Given as goal

abbrev pub invariant-loop-i : goal.invariant-loop-i
invariant-loop-i l = record {
  giving : Giving l.fn.logs.items l.logs.items l.fn.passes.items l.passes.items l.i;
  many : length l.logs.items ≡ length l.fn.logs.items;
}
