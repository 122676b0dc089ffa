use Rattle.replay_run.specs.Logs.{AreEmpty}
use Rattle.replay_run.proofs.log.empty.Given as goal

abbrev pub invariant-loop-reader : goal.invariant-loop-reader
invariant-loop-reader l = record { empty : AreEmpty l.reader l.reads l.logs.items }
