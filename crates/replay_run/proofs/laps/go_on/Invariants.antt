use Rattle.std.proofs.Common.{◌+◌, ◌-◌, ◌≤◌, map}
use Rattle.std.specs.List.{range_with_len}
use Rattle.clock_lines.specs.Readings.{newest}
use Rattle.replay_run.specs.Fitting.{PlanFits}
use Rattle.replay_run.specs.Laps.{WindsBy}
use Rattle.replay_run.specs.Plans.{plain_step}
use Rattle.replay_run.proofs.laps.go_on.Given as goal

abbrev pub invariant-loop-part : goal.invariant-loop-part
invariant-loop-part g l = record {
  winds : WindsBy (map (plain_step l.ticks l.from l.to) (range_with_len 1 l.part)) l.fn.pen l.pen;
  fits : PlanFits l.pen.top (newest l.pen.journal).est.update_ffcount (map (plain_step l.ticks l.from l.to) (range_with_len (1 + l.part) (l.ticks - l.part)));
  spare : l.ticks ≤ l.pen.spare + l.part;
}
