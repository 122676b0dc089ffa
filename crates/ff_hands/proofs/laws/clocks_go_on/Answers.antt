use Rattle.ff_hands.proofs.Ticks.{follows-line, follows-uptime}
use Rattle.ff_hands.proofs.laws.clocks_go_on.Goals as goal

pub returns-clause-line : goal.returns-clause-line
returns-clause-line c = follows-line

pub returns-clause-uptime : goal.returns-clause-uptime
returns-clause-uptime c = follows-uptime
