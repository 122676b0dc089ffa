use Rattle.ff_estimator.proofs.Events.{of-none, of-estimate, of-refused, of-set, of-leap}
use Rattle.ff_estimator.proofs.laws.events_are_of_one_daemon.Goals as goal

pub returns-clause-none : goal.returns-clause-none
returns-clause-none c = of-none

pub returns-clause-estimate : goal.returns-clause-estimate
returns-clause-estimate c = of-estimate

pub returns-clause-refused : goal.returns-clause-refused
returns-clause-refused c = of-refused

pub returns-clause-set : goal.returns-clause-set
returns-clause-set c = of-set

pub returns-clause-leap : goal.returns-clause-leap
returns-clause-leap c = of-leap
