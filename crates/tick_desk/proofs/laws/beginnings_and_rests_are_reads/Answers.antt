use Rattle.tick_desk.proofs.Adding.{read_adds}
use Rattle.tick_desk.proofs.laws.beginnings_and_rests_are_reads.Goals as goal

pub returns : goal.returns
returns c = λ old begun done kind first e. read_adds old begun done kind first e
