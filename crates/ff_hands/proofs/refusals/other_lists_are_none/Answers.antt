use Rattle.std.proofs.Common.{refl, arith}
use Rattle.ff_hands.specs.Windups.{wind_of}
use Rattle.ff_hands.proofs.refusals.other_lists_are_none.Goals as goal

pub returns-clause-one_left_out : goal.returns-clause-one_left_out
unfolding wind_of
returns-clause-one_left_out c is = (let next = is.next 0 _ _ refl refl in grind arith)

pub returns-clause-back : goal.returns-clause-back
unfolding wind_of
returns-clause-back c is = (let next = is.next 3 _ _ refl refl in grind arith)

pub returns-clause-last : goal.returns-clause-last
unfolding wind_of
returns-clause-last c is = (let next = is.next 2 _ _ refl refl in grind arith)
