use Rattle.tick_reads.proofs.Tells.{read_stood, kinds_stood}
use Rattle.tick_reads.proofs.laws.full_reads_stood.Goals as goal

pub returns-clause-stood : goal.returns-clause-stood
returns-clause-stood c = read_stood

pub returns-clause-kinds : goal.returns-clause-kinds
returns-clause-kinds c = kinds_stood
