use Rattle.std.proofs.Common.{refl}
use Rattle.ntp_capture.specs.Matches.{requests_with, got_by, gots}
use Rattle.ntp_capture.specs.Packets.{is_request, is_reply, is_usable}
use Rattle.capture_text.specs.Inputs.{answers_of}
use Rattle.capture_text.proofs.worked.capture_answers_are_worked.Goals as goal

pub returns-clause-answers : goal.returns-clause-answers
unfolding answers_of requests_with got_by gots is_request is_reply is_usable
returns-clause-answers c = refl

pub returns-clause-sound : goal.returns-clause-sound
unfolding answers_of requests_with got_by gots is_request is_reply is_usable
returns-clause-sound c = refl

pub returns-clause-fault : goal.returns-clause-fault
unfolding answers_of requests_with got_by gots is_request is_reply is_usable
returns-clause-fault c = refl
