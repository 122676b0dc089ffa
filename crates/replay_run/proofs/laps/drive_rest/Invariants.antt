use Rattle.std.proofs.Common.{◌≡◌, ◌+◌, ◌*◌, ◌-◌, ◌≤◌, ◌++◌, length, vec_len, vec_capacity}
use Rattle.tick_desk.specs.Shows.{PenShows}
use Rattle.est_lane.specs.Lanes.{received_by, known_to, SameOut}
use Rattle.replay_run.specs.Laps.{WindsBy, IsBehind, last_count}
use Rattle.replay_run.specs.Plans.{plan_of}
use Rattle.replay_run.proofs.laps.drive_rest.Given as goal

abbrev pub invariant-loop : goal.invariant-loop
invariant-loop g l = record {
  end : SameOut l.fn.output l.output;
  got : l.got.items ≡ received_by l.output;
  all : received_by l.output ++ known_to l.output ≡ received_by l.fn.output ++ known_to l.fn.output;
  many : vec_len l.got ≡ l.counter;
  room : l.most ≤ vec_capacity l.got;
  behind : IsBehind (last_count l.got.items) l.pen;
  spare : 1 + l.most + l.ticks * (l.most - 1) ≤ l.pen.spare + length (plan_of l.freq l.got.items l.ticks);
  winds : (first : PenShows) → WindsBy (plan_of l.freq l.fn.got.items l.ticks) first l.fn.pen → WindsBy (plan_of l.freq l.got.items l.ticks) first l.pen;
}
