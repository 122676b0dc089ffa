use Rattle.std.proofs.Common.{ap}
use Rattle.replay_run.proofs.Opening.{opened}
use Rattle.replay_run.proofs.log.ReadLog.all.Goals as goal

pub returns-clause-opened : goal.returns-clause-opened
returns-clause-opened c = opened c.args.plan.now.options.readers c.args.plan.now.options.reads _ _ _ _ c.in_ok-logs.ensures c.give.ensures
    (ap (λ v. v.items) c.replace-passes.ensures.value) c.requires
