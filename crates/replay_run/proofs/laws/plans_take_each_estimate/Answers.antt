use Rattle.replay_run.proofs.Targets.{plan-takes}
use Rattle.replay_run.proofs.laws.plans_take_each_estimate.Goals as goal

pub returns : goal.returns
returns c = plan-takes
