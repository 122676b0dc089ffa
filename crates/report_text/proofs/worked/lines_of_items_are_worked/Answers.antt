use Rattle.std.proofs.Common.{refl}
use Rattle.std.specs.Fmt.{digits}
use Rattle.report_text.specs.Text.{stamp_text, server_part, base_text, estimate_text, time_part, spread_part, told_leaps_part, leap_part, set_text, leap_text, refused_text}
use Rattle.report_text.proofs.worked.lines_of_items_are_worked.Goals as goal

pub returns-clause-stamp : goal.returns-clause-stamp
unfolding stamp_text server_part digits
returns-clause-stamp c = refl

pub returns-clause-second : goal.returns-clause-second
unfolding stamp_text server_part digits
returns-clause-second c = refl

pub returns-clause-base : goal.returns-clause-base
unfolding base_text digits
returns-clause-base c = refl

pub returns-clause-estimate : goal.returns-clause-estimate
unfolding estimate_text time_part spread_part told_leaps_part digits
returns-clause-estimate c = refl

pub returns-clause-leaps : goal.returns-clause-leaps
unfolding estimate_text time_part spread_part told_leaps_part leap_part digits
returns-clause-leaps c = refl

pub returns-clause-set : goal.returns-clause-set
unfolding set_text digits
returns-clause-set c = refl

pub returns-clause-leap : goal.returns-clause-leap
unfolding leap_text digits
returns-clause-leap c = refl

pub returns-clause-refused : goal.returns-clause-refused
unfolding refused_text digits
returns-clause-refused c = refl
