use Rattle.std.proofs.Common.{rules}
use Rattle.min_lists.specs.Lists.{lows, credit_in, credit}
use Rattle.min_lists.proofs.lists.Lists.new.Goals as goal

pub returns-clause-credit : goal.returns-clause-credit
unfolding lows credit_in credit
returns-clause-credit c = search rules
