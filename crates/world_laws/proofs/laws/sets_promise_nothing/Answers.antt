use Rattle.world_laws.proofs.SetsHold.{sets-marked, takes-marked, takes-true}
use Rattle.world_laws.proofs.laws.sets_promise_nothing.Goals as goal

pub returns : goal.returns
returns c = record { set = sets-marked; take = takes-marked; again = takes-true }
