use Rattle.tick_reads.proofs.Tells.{decides_read, explains_loads}
use Rattle.tick_reads.proofs.laws.loads_decide.Goals as goal

pub returns-clause-decided : goal.returns-clause-decided
returns-clause-decided c = decides_read

pub returns-clause-told : goal.returns-clause-told
returns-clause-told c = explains_loads
