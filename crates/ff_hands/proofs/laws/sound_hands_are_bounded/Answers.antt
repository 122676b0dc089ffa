use Rattle.ff_hands.proofs.Sounding.{sound-bounded}
use Rattle.ff_hands.proofs.laws.sound_hands_are_bounded.Goals as goal

pub returns : goal.returns
returns c = sound-bounded
