use Rattle.std.proofs.Common.{arith}
use Rattle.replay_run.proofs.Feeding.{counts-on}
use Rattle.replay_run.proofs.feeds.count_events.Goals as goal

pub loop-x-preserved : goal.loop-x-preserved
loop-x-preserved c = record {
  value = counts-on c.args.items.now c.loop-x.x-index _ _ _ c.loop-x-test.true c.loop-x.invariant.value c.events_at-events.ensures.value;
  most = omega (arith, c.loop-x.invariant.most, c.events_at-events.ensures.most);
}
