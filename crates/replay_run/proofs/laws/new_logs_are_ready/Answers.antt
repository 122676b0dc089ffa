use Rattle.replay_run.proofs.Opening.{new-many, new-ready}
use Rattle.replay_run.proofs.laws.new_logs_are_ready.Goals as goal

pub returns-clause-many : goal.returns-clause-many
returns-clause-many c = new-many

pub returns-clause-ready : goal.returns-clause-ready
returns-clause-ready c = new-ready
