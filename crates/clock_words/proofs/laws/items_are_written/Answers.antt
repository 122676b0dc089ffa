use Rattle.clock_words.proofs.Written.{written}
use Rattle.clock_words.proofs.laws.items_are_written.Goals as goal

pub returns : goal.returns
returns c row clear words items = written row clear words items
