use Rattle.std.proofs.Common.{[], ◌∷◌, subst}
use Rattle.std.proofs.lemmas.Result.{err_from_is_err_and}
use Rattle.rad_io.specs.Pushes.{Writes}
use Rattle.rad_io.proofs.Chains.{wrote_nothing, wrote_more, writes_last, broke}
use Rattle.report_text.specs.Text.{head_text, summary_text}
use Rattle.radclock_run.specs.MadeRuns.{run_head}
use Rattle.radclock_run.proofs.ran.push_opening.Goals as goal

pub returns-in_err-head_line : goal.returns-in_err-head_line
returns-in_err-head_line g c =
    let sink = g.met.K.Sink in
    let once = c.in_err-head_line.ensures in
    let p = err_from_is_err_and c.from_residual.result c.from_residual.ensures.1 in
    rw p.1 (broke _ _ _ _ _ _ [] (head_text (run_head c.args.asked.now)) _ (sink.appends _ _ _ _ once) (sink.cause _ _ _ _ once) (wrote_nothing _ _ _ _) once)

pub returns : goal.returns
returns g c =
    let sink = g.met.K.Sink in
    let once = c.in_ok-head_line.ensures in
    let last = c.summary_line.ensures in
    let head = wrote_more _ _ _ _ _ _ [] (head_text (run_head c.args.asked.now)) (sink.appends _ _ _ _ once) (sink.cause _ _ _ _ once)
    (wrote_nothing _ _ _ _) once in
    let told = writes_last _ _ _ c.args.sink.now c.head_line.new.sink c.summary_line.new.sink (head_text (run_head c.args.asked.now) ∷ [])
    (summary_text c.summary_of.result) c.summary_line.result (sink.appends _ _ _ _ last) (sink.cause _ _ _ _ last) head last in
    subst (λ s. Writes g.K.Sink.written g.K.Sink.faults g.K.Sink.push_gives c.args.sink.now
    (head_text (run_head c.args.asked.now) ∷ summary_text s ∷ []) c.summary_line.result c.summary_line.new.sink) c.summary_of.ensures told
