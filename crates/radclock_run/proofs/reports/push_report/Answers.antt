use Rattle.std.proofs.Common.{◌≡◌, ℕ, [], ◌∷◌, ◌++◌, None, ap, ◌∙◌, subst}
use Rattle.std.specs.List.{count_by}
use Rattle.std.proofs.lemmas.Result.{err_from_is_err_and}
use Rattle.rad_io.specs.Pushes.{Writes}
use Rattle.rad_io.proofs.Chains.{wrote_nothing, writes_last}
use Rattle.report_text.specs.Text.{end_text}
use Rattle.report_text.specs.declared.lines.EndCounts.{EndCounts}
use Rattle.radclock_run.specs.Reports.{outcomes, is_taken, refused_in}
use Rattle.radclock_run.specs.Tellings.{report, told_text}
use Rattle.rad_io.proofs.Joining.{broke-early, writes-on}
use Rattle.radclock_run.proofs.reports.push_report.Goals as goal

pub returns-in_err-tally : goal.returns-in_err-tally
unfolding report
returns-in_err-tally g c =
    let p = err_from_is_err_and c.from_residual.result c.from_residual.ensures.1 in
    rw p.1 (broke-early _ _ _ _ _ _ _ c.in_err-tally.ensures.lines)

pub returns : goal.returns
unfolding report
returns g c =
    let sink = g.met.K.Sink in
    let once = c.end_line.ensures in
    let tally = c.in_ok-tally.tally in
    let counts = c.in_ok-tally.ensures.counts in
    let q = outcomes c.args.file.now.head.freq [] c.args.file.now.items.items in
    let told = told_text c.args.head.now (g.T.Telling.says c.args.file.now.head) q in
    let end : ℕ → ℕ → EndCounts = λ a r. record { accepted = a; refused = r; ticks = None; entries = None; fired = None } in
    let last = writes_last _ _ _ c.push_told.new.sink c.push_told.new.sink c.end_line.new.sink [] (end_text (end tally.accepted tally.refused))
    c.end_line.result (sink.appends _ _ _ _ once) (sink.cause _ _ _ _ once) (wrote_nothing _ _ _ _) once in
    let whole = writes-on _ _ _ c.args.sink.now c.push_told.new.sink c.end_line.new.sink told (end_text (end tally.accepted tally.refused) ∷ [])
    c.end_line.result c.in_ok-tally.ensures.lines last in
    let same : end_text (end tally.accepted tally.refused) ≡ end_text (end (count_by is_taken q) (refused_in q)) = ap
    (λ a. end_text (end a tally.refused)) counts.accepted ∙ ap (λ r. end_text (end (count_by is_taken q) r)) counts.refused in
    subst (λ e. Writes g.K.Sink.written g.K.Sink.faults g.K.Sink.push_gives c.args.sink.now (told ++ e ∷ []) c.end_line.result c.end_line.new.sink) same whole
