use Rattle.std.proofs.Common.{arith}
use Rattle.replay_run.proofs.Taking.{taking-next, next-has}
use Rattle.replay_run.proofs.players.take_all.Goals as goal

pub take_in-requires : goal.take_in-requires
take_in-requires c = next-has c.args.logs.now _ _ _ c.loop-log.log-index _ (omega arith) c.loop-log.invariant.taking c.requires

pub loop-log-preserved : goal.loop-log-preserved
loop-log-preserved c = record {
  taking = taking-next c.args.logs.now _ _ _ _ c.loop-log.log-index _ _ (omega arith) c.loop-log.auto.logs
      c.loop-log.invariant.taking c.take_in.ensures;
}
