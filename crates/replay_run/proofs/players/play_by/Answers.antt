use Rattle.std.proofs.Common.{arith}
use Rattle.replay_run.proofs.Leaving.{rested, played}
use Rattle.replay_run.proofs.players.play_by.Goals as goal

pub returns : goal.returns
returns g c =
    let plan = c.args.plan.now in
    let back = rested plan.steps.items plan.options.crank _ _ _ _ _ _ c.requires.still c.lend_for-crank.ensures c.together.ensures.crank
    c.together.ensures.pen c.take_back.ensures in
    played plan.freq plan.options plan.steps.items c.args.logs.now c.together.new.logs c.take_all.new.logs _ _ _ c.requires.logs.numbered
    c.together.auto.logs (omega (arith, c.take_all.auto.logs, c.together.auto.logs)) c.together.ensures.logs back c.take_all.ensures
