use Rattle.callouts.proofs.Changing.{of_more, of_less, of_fired}
use Rattle.callouts.proofs.laws.timers_stay_at_their_places.Goals as goal

pub returns-clause-add : goal.returns-clause-add
returns-clause-add c = of_more

pub returns-clause-cancel : goal.returns-clause-cancel
returns-clause-cancel c = of_less

pub returns-clause-fire : goal.returns-clause-fire
returns-clause-fire c = of_fired
