use Rattle.std.proofs.Common.{rules}
use Rattle.replay_run.proofs.Steps.{steps_between-more}
use Rattle.replay_run.proofs.plan.push_between.Goals as goal

pub loop-part-preserved : goal.loop-part-preserved
loop-part-preserved c = steps_between-more _ _ _ _ _ _ _ _ c.loop-part.invariant c.in_ok-push.ensures.items (search rules)
