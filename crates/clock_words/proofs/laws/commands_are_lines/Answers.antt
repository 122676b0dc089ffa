use Rattle.clock_words.proofs.Lined.{lined}
use Rattle.clock_words.proofs.laws.commands_are_lines.Goals as goal

pub returns : goal.returns
returns c words command = lined words command
