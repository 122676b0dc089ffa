use Rattle.ff_hands.proofs.Ticks.{journal-rises}
use Rattle.ff_hands.proofs.laws.journals_rise.Goals as goal

pub returns : goal.returns
returns c = journal-rises
