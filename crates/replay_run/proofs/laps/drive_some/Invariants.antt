use Rattle.std.proofs.Common.{◌≡◌, ◌≤◌, vec_len, vec_capacity}
use Rattle.est_lane.specs.Lanes.{received_by, SameOut}
use Rattle.replay_run.specs.Laps.{WindsBy, IsBehind, last_count}
use Rattle.replay_run.specs.Plans.{plan_of}
use Rattle.replay_run.proofs.laps.drive_some.Given as goal

abbrev pub invariant-loop : goal.invariant-loop
invariant-loop g l = record {
  end : SameOut l.fn.output l.output;
  got : l.got.items ≡ received_by l.output;
  winds : WindsBy (plan_of l.freq l.got.items l.ticks) l.fn.pen l.pen;
  behind : IsBehind (last_count l.got.items) l.pen;
  few : vec_len l.got ≤ l.most;
  room : l.most ≤ vec_capacity l.got;
}
