use Rattle.tick_laws.proofs.Agreeing.{agree}
use Rattle.tick_laws.proofs.laws.conversions_agree.Goals as goal

pub returns : goal.returns
returns c = agree
