use Rattle.std.proofs.Common.{inr, refl, arith}
use Rattle.clock_logs.proofs.refusals.entries_are_current.Goals as goal

pub returns-clause-past_mark : goal.returns-clause-past_mark
returns-clause-past_mark c = inr (2, (omega arith, omega arith), refl)

pub returns-clause-too_old : goal.returns-clause-too_old
returns-clause-too_old c = record { tick = 3; tenth = refl; hands = _; at = refl; oldest_is = refl }
