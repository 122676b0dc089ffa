use Rattle.ff_estimator.proofs.WholeRuns.{steps-of-new}
use Rattle.ff_estimator.proofs.laws.a_stamp_takes_twelve_steps.Goals as goal

pub returns : goal.returns
returns c = steps-of-new
