use Rattle.offset_weights.proofs.WeightLaws.{weight_of_young, weight_of_recent}
use Rattle.offset_weights.proofs.laws.old_exchanges_do_not_count.Goals as goal

pub returns : goal.returns
returns c = record { scale = weight_of_young; seconds = weight_of_recent }
