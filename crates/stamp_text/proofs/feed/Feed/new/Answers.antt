use Rattle.std.proofs.Common.{refl}
use Rattle.stamp_text.specs.Grammar.{fault_so_far}
use Rattle.stamp_text.proofs.feed.Feed.new.Goals as goal

pub returns : goal.returns
unfolding fault_so_far
returns c = record { sound = refl; lines = refl; version = refl; last = c.new.ensures }
