use Rattle.ff_estimator.proofs.Events.{in-turn}
use Rattle.ff_estimator.proofs.laws.events_come_in_turn.Goals as goal

pub returns : goal.returns
returns c = in-turn
