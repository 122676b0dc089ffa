use Rattle.ideal_world.proofs.MadeTruth.{made-estimates, made-ticks}
use Rattle.ideal_world.proofs.laws.made_stamps_hold.Goals as goal

pub returns-clause-estimates : goal.returns-clause-estimates
returns-clause-estimates c = made-estimates

pub returns-clause-ticks : goal.returns-clause-ticks
returns-clause-ticks c = made-ticks
