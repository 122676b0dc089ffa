use Rattle.std.proofs.Common.{[], inl, inr, sym, subst}
use Rattle.radclock_run.specs.Plays.{ArePrinted}
use Rattle.radclock_run.proofs.replay.replay.Goals as goal

pub tell-requires-clause-printed : goal.tell-requires-clause-printed
tell-requires-clause-printed g c = subst (ArePrinted c.args.options.now c.play_file.new.desk.pen) (sym c.deref.ensures.value) c.in-Ok.ensures.played.printed

pub returns-in-Ok : goal.returns-in-Ok
returns-in-Ok g c = inl (c.in-Ok.ensures.played.replayed, c.tell.ensures)

pub returns-in-Err : goal.returns-in-Err
returns-in-Err g c = inr (c.in-Err.ensures.journal, c.refuse.ensures)
