use Rattle.ff_hands.proofs.Sounding.{journal-push}
use Rattle.ff_hands.proofs.laws.journals_grow.Goals as goal

pub returns : goal.returns
returns c = journal-push
