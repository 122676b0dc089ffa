use Rattle.std.proofs.Common.{[]}
use Rattle.stamp_text.proofs.AcceptedLaws.{accepted-none, accepted-all}
use Rattle.stamp_text.proofs.laws.accepted_stamps_follow.Goals as goal

pub returns : goal.returns
returns c freq stamps timed = accepted-all freq [] stamps (accepted-none freq) timed
