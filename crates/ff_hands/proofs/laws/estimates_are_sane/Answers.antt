use Rattle.ff_hands.proofs.Ticks.{sound-sane, sound-leap, sound-next}
use Rattle.ff_hands.proofs.laws.estimates_are_sane.Goals as goal

pub returns-clause-sane : goal.returns-clause-sane
returns-clause-sane c = sound-sane

pub returns-clause-leap : goal.returns-clause-leap
returns-clause-leap c = sound-leap

pub returns-clause-next : goal.returns-clause-next
returns-clause-next c = sound-next
