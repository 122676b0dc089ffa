use Rattle.std.proofs.Common.{IsTrue}
use Rattle.rtt_window.proofs.Pairing.{pair_of-places, pair_of-both}
use Rattle.rtt_window.proofs.laws.pairs_are_of_the_list.Goals as goal

pub returns-clause-places : goal.returns-clause-places
returns-clause-places c = pair_of-places

pub returns-clause-both : goal.returns-clause-both
returns-clause-both c test = pair_of-both (λ s. IsTrue (test s))
