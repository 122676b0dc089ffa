use Rattle.replay_run.proofs.Targets.{to-greatest, targets-rise, greatest-last}
use Rattle.replay_run.proofs.laws.targets_never_fall.Goals as goal

pub returns-clause-rise : goal.returns-clause-rise
returns-clause-rise c before update steps plan = targets-rise steps before update plan

pub returns-clause-most : goal.returns-clause-most
returns-clause-most c = to-greatest

pub returns-clause-last : goal.returns-clause-last
returns-clause-last c before update steps s plan at = greatest-last steps before update s plan at
