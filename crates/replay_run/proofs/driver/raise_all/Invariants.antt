use Rattle.replay_run.proofs.Driving.{Raises}
use Rattle.replay_run.proofs.driver.raise_all.Given as goal

abbrev pub invariant-loop-s : goal.invariant-loop-s
invariant-loop-s l = record { raises : Raises l.steps l.fn.crank l.crank l.s-index }
