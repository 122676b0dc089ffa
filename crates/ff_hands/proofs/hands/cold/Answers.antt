use Rattle.ff_hands.proofs.Sounding.{cold-sound}
use Rattle.ff_hands.proofs.hands.cold.Goals as goal

pub returns-clause-sound : goal.returns-clause-sound
returns-clause-sound c = cold-sound
