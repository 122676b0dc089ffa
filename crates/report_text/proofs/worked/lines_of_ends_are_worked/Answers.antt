use Rattle.std.proofs.Common.{refl}
use Rattle.std.specs.Fmt.{digits}
use Rattle.report_text.specs.Text.{head_text, options_part, flags_part, summary_text, ideal_text, end_text, fault_text}
use Rattle.report_text.proofs.worked.lines_of_ends_are_worked.Goals as goal

pub returns-clause-lane : goal.returns-clause-lane
unfolding head_text options_part flags_part digits
returns-clause-lane c = refl

pub returns-clause-flags : goal.returns-clause-flags
unfolding head_text options_part flags_part digits
returns-clause-flags c = refl

pub returns-clause-timers : goal.returns-clause-timers
unfolding head_text digits
returns-clause-timers c = refl

pub returns-clause-timed : goal.returns-clause-timed
unfolding head_text digits
returns-clause-timed c = refl

pub returns-clause-summary : goal.returns-clause-summary
unfolding summary_text digits
returns-clause-summary c = refl

pub returns-clause-ideal : goal.returns-clause-ideal
unfolding ideal_text digits
returns-clause-ideal c = refl

pub returns-clause-short : goal.returns-clause-short
unfolding end_text digits
returns-clause-short c = refl

pub returns-clause-whole : goal.returns-clause-whole
unfolding end_text digits
returns-clause-whole c = refl

pub returns-clause-fired : goal.returns-clause-fired
unfolding end_text digits
returns-clause-fired c = refl

pub returns-clause-input : goal.returns-clause-input
unfolding fault_text digits
returns-clause-input c = refl

pub returns-clause-large : goal.returns-clause-large
unfolding fault_text
returns-clause-large c = refl

pub returns-clause-read : goal.returns-clause-read
unfolding fault_text digits
returns-clause-read c = refl

pub returns-clause-cut : goal.returns-clause-cut
unfolding fault_text digits
returns-clause-cut c = refl

pub returns-clause-head : goal.returns-clause-head
unfolding fault_text digits
returns-clause-head c = refl

pub returns-clause-direction : goal.returns-clause-direction
unfolding fault_text digits
returns-clause-direction c = refl
