use Rattle.std.proofs.Common.{refl}
use Rattle.std.specs.Fmt.{digits}
use Rattle.report_text.specs.Text.{tick_text, fire_text, clock_part, given_part, leap_part, entry_text, attempt_part, reading_part}
use Rattle.report_text.proofs.worked.lines_of_replays_are_worked.Goals as goal

pub returns-clause-tick : goal.returns-clause-tick
unfolding tick_text clock_part given_part leap_part digits
returns-clause-tick c = refl

pub returns-clause-fire : goal.returns-clause-fire
unfolding fire_text digits
returns-clause-fire c = refl

pub returns-clause-read : goal.returns-clause-read
unfolding entry_text attempt_part reading_part digits
returns-clause-read c = refl

pub returns-clause-again : goal.returns-clause-again
unfolding entry_text attempt_part digits
returns-clause-again c = refl

pub returns-clause-old : goal.returns-clause-old
unfolding entry_text attempt_part digits
returns-clause-old c = refl

pub returns-clause-ahead : goal.returns-clause-ahead
unfolding entry_text attempt_part digits
returns-clause-ahead c = refl
