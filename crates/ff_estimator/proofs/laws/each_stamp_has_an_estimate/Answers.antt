use Rattle.ff_estimator.proofs.Folds.{fold-at, fold-counts}
use Rattle.ff_estimator.proofs.laws.each_stamp_has_an_estimate.Goals as goal

pub returns-clause-at : goal.returns-clause-at
returns-clause-at c = fold-at

pub returns-clause-counts : goal.returns-clause-counts
returns-clause-counts c = fold-counts
