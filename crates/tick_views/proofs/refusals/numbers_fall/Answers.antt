use Rattle.std.proofs.Common.{refl, arith}
use Rattle.tick_views.proofs.refusals.numbers_fall.Goals as goal

pub returns-clause-fall : goal.returns-clause-fall
returns-clause-fall c is = (let from = is.1.0 0 3 refl in omega arith)

pub returns-clause-above : goal.returns-clause-above
returns-clause-above c is = (let most = is 1 6 refl in omega arith)
