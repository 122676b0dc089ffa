use Rattle.replay_run.proofs.Driving.{Drives}
use Rattle.replay_run.proofs.driver.drive.Given as goal

abbrev pub invariant-loop-k : goal.invariant-loop-k
invariant-loop-k g l = record { drives : Drives l.steps l.fn.pen l.pen l.k }
