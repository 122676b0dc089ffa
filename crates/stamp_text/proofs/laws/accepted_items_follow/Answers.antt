use Rattle.std.proofs.Common.{[]}
use Rattle.stamp_text.proofs.PastLaws.{items-none, items-all}
use Rattle.stamp_text.proofs.laws.accepted_items_follow.Goals as goal

pub returns : goal.returns
returns c freq items timed = items-all freq [] items (items-none freq) timed
