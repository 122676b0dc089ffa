use Rattle.std.proofs.Common.{[], ap₂, ◌∙◌, refl, subst, inl, inr}
use Rattle.rad_io.specs.Pushes.{Wrote, Broke}
use Rattle.radclock_run.specs.Reports.{report_of, outcomes, replay_head}
use Rattle.radclock_run.specs.Tellings.{replay_told, estimate_says}
use Rattle.radclock_run.proofs.Told.{replay-by-list}
use Rattle.radclock_run.proofs.replay.tell.Goals as goal

pub returns-in-Ok : goal.returns-in-Ok
unfolding report_of
returns-in-Ok g c =
    let o = c.args.options.now in
    let file = c.args.file.now in
    let text = replay_told (replay_head file.head o c.args.lane) (estimate_says file.head) (outcomes file.head.freq [] file.items.items) in
    let same = ap₂ text c.journal.ensures.value c.requires.printed.same ∙ replay-by-list file.head o c.args.lane file.items.items _ _ in
    inl (refl, subst (λ ls. Wrote g.K.Sink.written g.K.Sink.faults g.K.Sink.push_gives c.args.sink.now ls c.push_replay.new.sink) same c.in-Ok.ensures)

pub returns-in-Err : goal.returns-in-Err
unfolding report_of
returns-in-Err g c =
    let o = c.args.options.now in
    let file = c.args.file.now in
    let text = replay_told (replay_head file.head o c.args.lane) (estimate_says file.head) (outcomes file.head.freq [] file.items.items) in
    let same = ap₂ text c.journal.ensures.value c.requires.printed.same ∙ replay-by-list file.head o c.args.lane file.items.items _ _ in
    inr (refl, subst (λ ls. Broke g.K.Sink.written g.K.Sink.faults g.K.Sink.push_gives c.args.sink.now ls c.push_replay.new.sink) same c.in-Err.ensures)
