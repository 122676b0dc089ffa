use Rattle.ff_estimator.proofs.Events.{fold-told, counts-are}
use Rattle.ff_estimator.proofs.laws.events_tell_the_fold.Goals as goal

pub returns-clause-fold : goal.returns-clause-fold
returns-clause-fold c = fold-told

pub returns-clause-counts : goal.returns-clause-counts
returns-clause-counts c = counts-are
