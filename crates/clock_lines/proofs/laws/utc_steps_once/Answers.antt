use Rattle.clock_lines.proofs.Stepping.{steps-at, steps-nowhere}
use Rattle.clock_lines.proofs.laws.utc_steps_once.Goals as goal

pub returns-clause-at : goal.returns-clause-at
returns-clause-at c = steps-at

pub returns-clause-nowhere : goal.returns-clause-nowhere
returns-clause-nowhere c = steps-nowhere
