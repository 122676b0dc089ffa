use Rattle.ff_estimator.proofs.Events.{events-push}
use Rattle.ff_estimator.proofs.laws.events_grow.Goals as goal

pub returns : goal.returns
returns c = events-push
