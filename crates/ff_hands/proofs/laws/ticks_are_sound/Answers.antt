use Rattle.ff_hands.proofs.Ticks.{tick-sound}
use Rattle.ff_hands.proofs.laws.ticks_are_sound.Goals as goal

pub returns : goal.returns
returns c = tick-sound
