use Rattle.ideal_world.proofs.Deviating.{deviations-bounded}
use Rattle.ideal_world.proofs.laws.deviations_are_bounded.Goals as goal

pub returns : goal.returns
returns c = deviations-bounded
