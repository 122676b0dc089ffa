use Rattle.tick_table.proofs.Lists.{to_some}
use Rattle.tick_laws.proofs.Legal.{kept_legal}
use Rattle.tick_laws.proofs.laws.kept_logs_are_legal.Goals as goal

pub returns : goal.returns
returns c = λ p i k legal closed at. kept_legal p i k legal closed (to_some p.kept i k at)
