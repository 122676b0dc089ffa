use Rattle.replay_run.proofs.Targets.{plan-moves}
use Rattle.replay_run.proofs.laws.plans_go_by_each_event.Goals as goal

pub returns : goal.returns
returns c = plan-moves
