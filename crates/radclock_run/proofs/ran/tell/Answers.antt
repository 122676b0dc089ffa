use Rattle.std.proofs.Common.{◌≡◌, ◌*◌, ◌∙◌, refl, sym, subst, inl, inr}
use Rattle.rad_io.specs.Pushes.{Wrote, Broke}
use Rattle.radclock_run.specs.MadeRuns.{run_text}
use Rattle.radclock_run.proofs.Making.{same-run}
use Rattle.radclock_run.proofs.ran.tell.Goals as goal

pub returns-in-Ok : goal.returns-in-Ok
unfolding run_text
returns-in-Ok g c =
    let entries : c.from.result * c.from-2.result ≡ 4000 = rw (c.from.ensures, c.from-2.ensures) refl in
    let same = same-run c.args.asked.now _ _ c.args.told _ _ _ _ c.requires.fulls c.journal.ensures.value (entries ∙ sym c.requires.entries) in
    inl (refl, subst (λ ls. Wrote g.K.Sink.written g.K.Sink.faults g.K.Sink.push_gives c.args.sink.now ls c.push_run.new.sink) same c.in-Ok.ensures)

pub returns-in-Err : goal.returns-in-Err
unfolding run_text
returns-in-Err g c =
    let entries : c.from.result * c.from-2.result ≡ 4000 = rw (c.from.ensures, c.from-2.ensures) refl in
    let same = same-run c.args.asked.now _ _ c.args.told _ _ _ _ c.requires.fulls c.journal.ensures.value (entries ∙ sym c.requires.entries) in
    inr (refl, subst (λ ls. Broke g.K.Sink.written g.K.Sink.faults g.K.Sink.push_gives c.args.sink.now ls c.push_run.new.sink) same c.in-Err.ensures)
