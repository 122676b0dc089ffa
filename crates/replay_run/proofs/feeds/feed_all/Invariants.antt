use Rattle.std.proofs.Common.{◌≡◌, ◌+◌, ◌*◌, ◌≤◌, length, take}
use Rattle.stamp_text.specs.Past.{stamps_of}
use Rattle.ff_estimator.specs.Daemons.{StandsFor, credit}
use Rattle.ff_estimator.specs.Events.{events_of}
use Rattle.est_lane.specs.Lanes.{sent_by, SameIn}
use Rattle.replay_run.proofs.feeds.feed_all.Given as goal

abbrev pub invariant-loop-x : goal.invariant-loop-x
invariant-loop-x g l = record {
  end : SameIn l.fn.input l.input;
  sent : sent_by l.input ≡ events_of l.freq (take l.x-index l.items);
  stands : StandsFor l.daemon l.freq (take l.x-index l.items);
  paid : l.steps + credit l.daemon ≤ l.fn.steps + 12 * length (stamps_of (take l.x-index l.items));
}
