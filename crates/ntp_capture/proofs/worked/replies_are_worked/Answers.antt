use Rattle.std.proofs.Common.{refl}
use Rattle.ntp_capture.specs.Packets.{is_request, is_reply, is_usable}
use Rattle.ntp_capture.specs.Matches.{gots, got_by, requests_with}
use Rattle.ntp_capture.proofs.worked.replies_are_worked.Goals as goal

pub returns-clause-latest : goal.returns-clause-latest
unfolding gots got_by requests_with is_request is_reply is_usable
returns-clause-latest c = refl

pub returns-clause-by_mark : goal.returns-clause-by_mark
unfolding gots got_by requests_with is_request is_reply is_usable
returns-clause-by_mark c = refl

pub returns-clause-sixteenth : goal.returns-clause-sixteenth
unfolding gots got_by requests_with is_request is_reply is_usable
returns-clause-sixteenth c = refl

pub returns-clause-seventeenth : goal.returns-clause-seventeenth
unfolding gots got_by requests_with is_request is_reply is_usable
returns-clause-seventeenth c = refl

pub returns-clause-taken_counts : goal.returns-clause-taken_counts
unfolding gots got_by requests_with is_request is_reply is_usable
returns-clause-taken_counts c = refl

pub returns-clause-free : goal.returns-clause-free
unfolding gots got_by requests_with is_request is_reply is_usable
returns-clause-free c = refl

pub returns-clause-before : goal.returns-clause-before
unfolding gots got_by requests_with is_request is_reply is_usable
returns-clause-before c = refl
