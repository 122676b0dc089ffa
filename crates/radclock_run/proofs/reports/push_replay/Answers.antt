use Rattle.std.proofs.Common.{◌≡◌, ℕ, [], ◌∷◌, ◌++◌, None, Some, ap, ◌∙◌, subst, length}
use Rattle.std.specs.List.{count_by}
use Rattle.std.proofs.lemmas.Result.{err_from_is_err_and}
use Rattle.rad_io.specs.Pushes.{Writes}
use Rattle.rad_io.proofs.Chains.{wrote_nothing, writes_last}
use Rattle.report_text.specs.Text.{end_text}
use Rattle.report_text.specs.declared.lines.EndCounts.{EndCounts}
use Rattle.radclock_run.specs.Plays.{entries_in, entries_of}
use Rattle.radclock_run.specs.Reports.{outcomes, is_taken, refused_in, tick_lines, log_lines}
use Rattle.radclock_run.specs.Tellings.{replay_told, told_text}
use Rattle.rad_io.proofs.Joining.{wrote-on, broke-on, broke-early, writes-on}
use Rattle.radclock_run.proofs.reports.push_replay.Goals as goal

pub returns-in_err-tally : goal.returns-in_err-tally
unfolding replay_told
returns-in_err-tally g c =
    let p = err_from_is_err_and c.from_residual.result c.from_residual.ensures.1 in
    rw p.1 (broke-early _ _ _ _ _ _ _ (broke-early _ _ _ _ _ _ _ (broke-early _ _ _ _ _ _ _ c.in_err-tally.ensures.lines)))

pub returns-in_err-push_journal : goal.returns-in_err-push_journal
unfolding replay_told
returns-in_err-push_journal g c =
    let p = err_from_is_err_and c.from_residual-in_err-push_journal.result c.from_residual-in_err-push_journal.ensures.1 in
    rw p.1 (broke-early _ _ _ _ _ _ _ (broke-early _ _ _ _ _ _ _ (broke-on _ _ _ _ _ _ _ _ c.in_ok-tally.ensures.lines c.in_err-push_journal.ensures)))

pub returns-in_err-push_logs : goal.returns-in_err-push_logs
unfolding replay_told
returns-in_err-push_logs g c =
    let p = err_from_is_err_and c.from_residual-in_err-push_logs.result c.from_residual-in_err-push_logs.ensures.1 in
    let two = wrote-on _ _ _ _ _ _ _ _ c.in_ok-tally.ensures.lines c.in_ok-push_journal.ensures in
    rw p.1 (broke-early _ _ _ _ _ _ _ (broke-on _ _ _ _ _ _ _ _ two c.in_err-push_logs.ensures))

pub returns : goal.returns
unfolding replay_told
returns g c =
    let sink = g.met.K.Sink in
    let once = c.end_line.ensures in
    let tally = c.in_ok-tally.tally in
    let counts = c.in_ok-tally.ensures.counts in
    let ticks = c.args.ticks.now in
    let q = outcomes c.args.file.now.head.freq [] c.args.file.now.items.items in
    let told = told_text c.args.head.now (g.T.Telling.says c.args.file.now.head) q in
    let logs = entries_of c.args.logs.now in
    let front = (told ++ tick_lines 0 ticks) ++ log_lines 0 logs in
    let end : ℕ → ℕ → ℕ → EndCounts = λ a r n.
    record { accepted = a; refused = r; ticks = Some (length ticks); entries = Some n; fired = None } in
    let two = wrote-on _ _ _ _ _ _ _ _ c.in_ok-tally.ensures.lines c.in_ok-push_journal.ensures in
    let three = wrote-on _ _ _ _ _ _ _ _ two c.in_ok-push_logs.ensures in
    let mid = c.push_logs.new.sink in
    let piece = end_text (end tally.accepted tally.refused c.args.entries) in
    let last = writes_last _ _ _ mid mid c.end_line.new.sink [] piece c.end_line.result (sink.appends _ _ _ _ once) (sink.cause _ _ _ _ once)
    (wrote_nothing _ _ _ _) once in
    let whole = writes-on _ _ _ c.args.sink.now mid c.end_line.new.sink front (piece ∷ []) c.end_line.result three last in
    let same : piece ≡ end_text (end (count_by is_taken q) (refused_in q) (entries_in logs)) = ap
    (λ a. end_text (end a tally.refused c.args.entries)) counts.accepted
    ∙ ap (λ r. end_text (end (count_by is_taken q) r c.args.entries)) counts.refused
    ∙ ap (λ n. end_text (end (count_by is_taken q) (refused_in q) n)) c.requires.entries in
    subst (λ e. Writes g.K.Sink.written g.K.Sink.faults g.K.Sink.push_gives c.args.sink.now (front ++ e ∷ []) c.end_line.result c.end_line.new.sink) same whole
