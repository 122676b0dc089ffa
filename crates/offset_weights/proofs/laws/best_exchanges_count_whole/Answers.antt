use Rattle.offset_weights.proofs.WeightLaws.{weight_of_own}
use Rattle.offset_weights.proofs.laws.best_exchanges_count_whole.Goals as goal

pub returns : goal.returns
returns c = weight_of_own
