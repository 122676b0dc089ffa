use Rattle.std.proofs.Common.{◌+◌, ◌≤◌, length}
use Rattle.radclock_run.proofs.Playing.{Plays}
use Rattle.radclock_run.proofs.plays.play.Given as goal

abbrev pub invariant-loop-s : goal.invariant-loop-s
invariant-loop-s l = record {
  plays : Plays l.core.ticks l.core.counter l.steps l.s-index;
  room : length l.steps ≤ l.core.spare + l.s-index;
}
