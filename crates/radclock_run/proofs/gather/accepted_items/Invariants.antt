use Rattle.radclock_run.proofs.Accepted.{Accepts}
use Rattle.radclock_run.proofs.gather.accepted_items.Given as goal

abbrev pub invariant-loop-x : goal.invariant-loop-x
invariant-loop-x l = Accepts l.file.head.freq l.x-items l.x-index l.past l.items.items
