use Rattle.stamp_maker.proofs.Lying.{made-fits, made-lies}
use Rattle.stamp_maker.proofs.MadeLists.{made-lie}
use Rattle.stamp_maker.proofs.laws.stamps_lie_in_the_made_world.Goals as goal

pub returns-clause-fits : goal.returns-clause-fits
returns-clause-fits c = made-fits

pub returns-clause-each : goal.returns-clause-each
returns-clause-each c = made-lies

pub returns-clause-all : goal.returns-clause-all
returns-clause-all c = made-lie
