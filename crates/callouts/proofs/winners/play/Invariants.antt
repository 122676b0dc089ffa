use Rattle.std.proofs.Common.{◌<◌, ◌≤◌}
use Rattle.callouts.specs.Winners.{AreStale}
use Rattle.callouts.proofs.Players.{ArePlayers}
use Rattle.callouts.proofs.winners.play.Given as goal

abbrev pub invariant-loop-place : goal.invariant-loop-place
invariant-loop-place l = record {
  stale : AreStale l.nodes l.winners l.place;
  within : l.place ≤ 255;
  players : 0 < l.place → ArePlayers l.nodes l.winners l.place l.first l.other;
}

abbrev pub decreases-loop-place : goal.decreases-loop-place
decreases-loop-place l = l.place
