use Rattle.ff_hands.proofs.Sounding.{wound-follows}
use Rattle.ff_hands.proofs.laws.windups_follow.Goals as goal

pub returns : goal.returns
returns c = wound-follows
