use Rattle.ff_hands.proofs.Sounding.{sound-bounded}
use Rattle.tick_desk.proofs.reads.quick_count.Goals as goal

pub returns-in-Fast-clause-most : goal.returns-in-Fast-clause-most
returns-in-Fast-clause-most c = (sound-bounded _ c.requires.sound).count
