use Rattle.tick_reads.proofs.Tells.{again_moved}
use Rattle.tick_reads.proofs.laws.full_reads_moved.Goals as goal

pub returns : goal.returns
returns c = again_moved
