use Rattle.replay_run.proofs.Steps.{steps_len}
use Rattle.replay_run.proofs.laws.steps_are_counted.Goals as goal

pub returns : goal.returns
returns c = steps_len
