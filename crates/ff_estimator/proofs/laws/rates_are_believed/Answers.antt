use Rattle.ff_estimator.proofs.Folds.{fold-rates}
use Rattle.ff_estimator.proofs.Sane.{rate-over, rate-in_use}
use Rattle.ff_estimator.proofs.laws.rates_are_believed.Goals as goal

pub returns-clause-said : goal.returns-clause-said
returns-clause-said c = fold-rates

pub returns-clause-over : goal.returns-clause-over
returns-clause-over c = rate-over

pub returns-clause-in_use : goal.returns-clause-in_use
returns-clause-in_use c = rate-in_use
