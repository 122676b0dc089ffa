use Rattle.ff_estimator.proofs.Folds.{fold_of-push}
use Rattle.ff_estimator.proofs.laws.folds_grow.Goals as goal

pub returns : goal.returns
returns c = fold_of-push
