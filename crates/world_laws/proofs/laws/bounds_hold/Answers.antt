use Rattle.world_laws.proofs.BoundsHold.{ticks-true}
use Rattle.world_laws.proofs.PlansGoBy.{plan-goes, readings-true, plays-true}
use Rattle.world_laws.proofs.laws.bounds_hold.Goals as goal

pub returns-clause-plan : goal.returns-clause-plan
returns-clause-plan c = plan-goes

pub returns-clause-bound : goal.returns-clause-bound
returns-clause-bound c = ticks-true

pub returns-clause-reading : goal.returns-clause-reading
returns-clause-reading c = readings-true

pub returns-clause-play : goal.returns-clause-play
returns-clause-play c = plays-true
