use Rattle.replay_run.proofs.Playing.{step-fits, update-wound}
use Rattle.replay_run.proofs.laws.steps_wind.Goals as goal

pub returns-clause-fits : goal.returns-clause-fits
returns-clause-fits c = step-fits

pub returns-clause-next : goal.returns-clause-next
returns-clause-next c h count s = update-wound h count s.order
