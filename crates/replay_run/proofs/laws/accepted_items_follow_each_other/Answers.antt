use Rattle.replay_run.proofs.Feeding.{accepted-behind}
use Rattle.replay_run.proofs.laws.accepted_items_follow_each_other.Goals as goal

pub returns : goal.returns
returns c = accepted-behind
