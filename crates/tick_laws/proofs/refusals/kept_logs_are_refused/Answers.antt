use Rattle.std.proofs.Common.{refl, arith}
use Rattle.tick_laws.proofs.refusals.kept_logs_are_refused.Goals as goal

pub returns-clause-seen : goal.returns-clause-seen
returns-clause-seen c is = (let seen = is.seen in omega arith)

pub returns-clause-entry : goal.returns-clause-entry
returns-clause-entry c is = (let legal = is.legal.each 0 _ refl in grind arith)

pub returns-clause-opening : goal.returns-clause-opening
returns-clause-opening c is = (let current = is.since.each 0 _ refl in omega arith)

pub returns-clause-counter : goal.returns-clause-counter
returns-clause-counter c is = (let most = is.counters refl 1 61 refl in omega arith)

pub returns-clause-count : goal.returns-clause-count
returns-clause-count c is = (let most = is.within refl 0 _ _ refl refl in omega arith)
