use Rattle.ff_estimator.proofs.FirstMeans.{mean_at-first, taken_at-first}
use Rattle.ff_estimator.proofs.choices.first_has_mean.Goals as goal

pub returns-clause-mean : goal.returns-clause-mean
returns-clause-mean c = mean_at-first

pub returns-clause-predicted : goal.returns-clause-predicted
returns-clause-predicted c freq s more = (taken_at-first freq s more).0

pub returns-clause-run : goal.returns-clause-run
returns-clause-run c freq s more = (taken_at-first freq s more).1
