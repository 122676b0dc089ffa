use Rattle.std.proofs.Common.{ℕ, List, inl, ap, refl, sym, subst, ◌∙◌}
use Rattle.radclock_run.specs.Endings.{EndsWith, Leaves}
use Rattle.radclock_run.specs.Reports.{report_of}
use Rattle.radclock_run.specs.declared.status.Status.TheVariants as status
use Rattle.radclock_run.proofs.Told.{stamps-by-list, rtt-by-list, estimate-by-list}
use Rattle.radclock_run.proofs.run.finish.Goals as goal

pub returns-in-Stamps : goal.returns-in-Stamps
unfolding report_of
returns-in-Stamps g c =
    let file = c.args.file.now in
    let lines : List (List ℕ) → Type 0 = λ ls. EndsWith g.K.Sink.written g.K.Sink.faults g.K.Sink.push_gives c.args.sink.now ls status.Done
    c.report.result c.report.new.sink in
    let leaves = subst (λ r. Leaves r file.head.freq file.items.items c.args.desk.now c.args.desk.now) (sym c.in-Stamps.is) refl in
    inl (
      leaves,
      subst lines (stamps-by-list file.head file.items.items
          ∙ ap (λ r. report_of r file.head file.items.items c.args.desk.now.pen) (sym c.in-Stamps.is)) c.report.ensures,
    )

pub returns-in-Ok : goal.returns-in-Ok
unfolding report_of
returns-in-Ok g c =
    let file = c.args.file.now in
    let lines : List (List ℕ) → Type 0 = λ ls. EndsWith g.K.Sink.written g.K.Sink.faults g.K.Sink.push_gives c.args.sink.now ls status.Done
    c.report-in-Ok.result c.report-in-Ok.new.sink in
    let leaves = subst (λ r. Leaves r file.head.freq file.items.items c.args.desk.now c.args.desk.now) (sym c.in-Rtt.is) refl in
    inl (
      leaves,
      subst lines (rtt-by-list file.head file.items.items
          ∙ ap (λ r. report_of r file.head file.items.items c.args.desk.now.pen) (sym c.in-Rtt.is)) c.report-in-Ok.ensures,
    )

pub returns-in-Ok-new : goal.returns-in-Ok-new
unfolding report_of
returns-in-Ok-new g c =
    let file = c.args.file.now in
    let lines : List (List ℕ) → Type 0 = λ ls. EndsWith g.K.Sink.written g.K.Sink.faults g.K.Sink.push_gives c.args.sink.now ls status.Done
    c.report-in-Ok-new.result c.report-in-Ok-new.new.sink in
    let leaves = subst (λ r. Leaves r file.head.freq file.items.items c.args.desk.now c.args.desk.now) (sym c.in-Estimate.is) refl in
    inl (
      leaves,
      subst lines (estimate-by-list file.head file.items.items
          ∙ ap (λ r. report_of r file.head file.items.items c.args.desk.now.pen) (sym c.in-Estimate.is)) c.report-in-Ok-new.ensures,
    )
