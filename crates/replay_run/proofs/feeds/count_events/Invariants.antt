use Rattle.std.proofs.Common.{◌≡◌, ◌≤◌, length, take}
use Rattle.stamp_text.specs.Past.{counts_of}
use Rattle.replay_run.proofs.feeds.count_events.Given as goal

abbrev pub invariant-loop-x : goal.invariant-loop-x
invariant-loop-x l = record {
  value : l.events ≡ length (counts_of (take l.x-index l.items));
  most : l.events ≤ l.x-index;
}
