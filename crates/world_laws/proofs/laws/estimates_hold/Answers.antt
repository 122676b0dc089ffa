use Rattle.world_laws.proofs.BoundsHold.{estimates-true}
use Rattle.world_laws.proofs.EstimatesHold.{spread-holds}
use Rattle.world_laws.proofs.laws.estimates_hold.Goals as goal

pub returns-clause-spread : goal.returns-clause-spread
returns-clause-spread c freq w all i fit are lie here = spread-holds freq w all fit are lie i here

pub returns-clause-estimate : goal.returns-clause-estimate
returns-clause-estimate c = estimates-true
