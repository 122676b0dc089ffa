use Rattle.ff_hands.proofs.Winding.{order_of-wound, count-wound}
use Rattle.ff_hands.proofs.laws.windups_are_told.Goals as goal

pub returns-clause-order : goal.returns-clause-order
returns-clause-order c = order_of-wound

pub returns-clause-count : goal.returns-clause-count
returns-clause-count c = count-wound
