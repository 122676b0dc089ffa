use Rattle.tick_laws.proofs.Asked.{answers-ask}
use Rattle.tick_laws.proofs.laws.calls_are_answered_as_asked.Goals as goal

pub returns : goal.returns
returns c = answers-ask
