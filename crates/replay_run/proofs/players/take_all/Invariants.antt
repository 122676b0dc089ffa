use Rattle.replay_run.proofs.Taking.{Taking}
use Rattle.replay_run.proofs.players.take_all.Given as goal

abbrev pub invariant-loop-log : goal.invariant-loop-log
invariant-loop-log l = record { taking : Taking l.fn.logs l.logs l.fn.pen l.pen l.log-index }
