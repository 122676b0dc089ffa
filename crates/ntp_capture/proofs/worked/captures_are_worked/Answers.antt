use Rattle.std.proofs.Common.{refl}
use Rattle.ntp_capture.specs.Cut.{units_of, size_of}
use Rattle.ntp_capture.specs.Grammar.{fault_of_capture, fault_so_far, given, refusal_in, piece_in}
use Rattle.ntp_capture.proofs.worked.captures_are_worked.Goals as goal

pub returns-clause-sound : goal.returns-clause-sound
unfolding fault_of_capture fault_so_far given units_of size_of refusal_in piece_in
returns-clause-sound c = refl

pub returns-clause-gives : goal.returns-clause-gives
unfolding fault_of_capture fault_so_far given units_of size_of refusal_in piece_in
returns-clause-gives c = refl

pub returns-clause-whole : goal.returns-clause-whole
unfolding fault_of_capture fault_so_far given units_of size_of refusal_in piece_in
returns-clause-whole c = refl

pub returns-clause-cut : goal.returns-clause-cut
unfolding fault_of_capture fault_so_far given units_of size_of refusal_in piece_in
returns-clause-cut c = refl

pub returns-clause-open : goal.returns-clause-open
unfolding fault_of_capture fault_so_far given units_of size_of refusal_in piece_in
returns-clause-open c = refl

pub returns-clause-nothing : goal.returns-clause-nothing
unfolding fault_of_capture fault_so_far given units_of size_of refusal_in piece_in
returns-clause-nothing c = refl

pub returns-clause-alone : goal.returns-clause-alone
unfolding fault_of_capture fault_so_far given units_of size_of refusal_in piece_in
returns-clause-alone c = refl

pub returns-clause-half_head : goal.returns-clause-half_head
unfolding fault_of_capture fault_so_far given units_of size_of refusal_in piece_in
returns-clause-half_head c = refl
