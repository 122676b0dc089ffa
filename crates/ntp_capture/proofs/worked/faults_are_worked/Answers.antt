use Rattle.std.proofs.Common.{refl}
use Rattle.ntp_capture.specs.Cut.{units_of, size_of}
use Rattle.ntp_capture.specs.Grammar.{fault_so_far, refusal_in}
use Rattle.ntp_capture.proofs.worked.faults_are_worked.Goals as goal

pub returns-clause-mark : goal.returns-clause-mark
unfolding fault_so_far units_of size_of refusal_in
returns-clause-mark c = refl

pub returns-clause-slow : goal.returns-clause-slow
unfolding fault_so_far units_of size_of refusal_in
returns-clause-slow c = refl

pub returns-clause-slowest : goal.returns-clause-slowest
unfolding fault_so_far units_of size_of refusal_in
returns-clause-slowest c = refl

pub returns-clause-fast : goal.returns-clause-fast
unfolding fault_so_far units_of size_of refusal_in
returns-clause-fast c = refl

pub returns-clause-fastest : goal.returns-clause-fastest
unfolding fault_so_far units_of size_of refusal_in
returns-clause-fastest c = refl

pub returns-clause-counter : goal.returns-clause-counter
unfolding fault_so_far units_of size_of refusal_in
returns-clause-counter c = refl

pub returns-clause-counter_early : goal.returns-clause-counter_early
unfolding fault_so_far units_of size_of refusal_in
returns-clause-counter_early c = refl

pub returns-clause-greatest : goal.returns-clause-greatest
unfolding fault_so_far units_of size_of refusal_in
returns-clause-greatest c = refl

pub returns-clause-direction : goal.returns-clause-direction
unfolding fault_so_far units_of size_of refusal_in
returns-clause-direction c = refl

pub returns-clause-received : goal.returns-clause-received
unfolding fault_so_far units_of size_of refusal_in
returns-clause-received c = refl

pub returns-clause-short : goal.returns-clause-short
unfolding fault_so_far units_of size_of refusal_in
returns-clause-short c = refl

pub returns-clause-short_early : goal.returns-clause-short_early
unfolding fault_so_far units_of size_of refusal_in
returns-clause-short_early c = refl

pub returns-clause-second : goal.returns-clause-second
unfolding fault_so_far units_of size_of refusal_in
returns-clause-second c = refl
