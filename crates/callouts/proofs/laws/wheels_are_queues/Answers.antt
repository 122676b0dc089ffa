use Rattle.callouts.proofs.Walking.{queue_new, queue_adds, queue_loses, queue_fires, queue_waits}
use Rattle.callouts.proofs.laws.wheels_are_queues.Goals as goal

pub returns-clause-new : goal.returns-clause-new
returns-clause-new c = queue_new

pub returns-clause-add : goal.returns-clause-add
returns-clause-add c = queue_adds

pub returns-clause-cancel : goal.returns-clause-cancel
returns-clause-cancel c = queue_loses

pub returns-clause-fire : goal.returns-clause-fire
returns-clause-fire c = queue_fires

pub returns-clause-none : goal.returns-clause-none
returns-clause-none c = queue_waits
