use Rattle.std.proofs.Common.{[], ◌∷◌}
use Rattle.std.proofs.lemmas.Result.{err_from_is_err_and}
use Rattle.rad_io.proofs.Chains.{wrote_nothing, wrote_more, writes_last, broke}
use Rattle.rad_io.proofs.Joining.{wrote-on, broke-on, broke-early}
use Rattle.report_text.specs.Text.{head_text, end_text}
use Rattle.callouts.specs.Firings.{fired_at}
use Rattle.radclock_run.specs.Reports.{ticks_text, timed_lines}
use Rattle.radclock_run.proofs.ticks.push_ticks.Goals as goal

pub returns-in_err-head_line : goal.returns-in_err-head_line
unfolding ticks_text
returns-in_err-head_line g c ess is =
    let sink = g.met.K.Sink in
    let once = c.in_err-head_line.ensures in
    let p = err_from_is_err_and c.from_residual.result c.from_residual.ensures.1 in
    rw p.1 (broke _ _ _ _ _ _ [] (head_text c.args.head.now) _ (sink.appends _ _ _ _ once) (sink.cause _ _ _ _ once) (wrote_nothing _ _ _ _) once)

pub returns-in_err-push_timed : goal.returns-in_err-push_timed
unfolding ticks_text
returns-in_err-push_timed g c ess is =
    let sink = g.met.K.Sink in
    let once = c.in_ok-head_line.ensures in
    let p = err_from_is_err_and c.from_residual-in_err-push_timed.result c.from_residual-in_err-push_timed.ensures.1 in
    let head = wrote_more _ _ _ _ _ _ [] (head_text c.args.head.now) (sink.appends _ _ _ _ once) (sink.cause _ _ _ _ once) (wrote_nothing _ _ _ _) once in
    rw p.1 (broke-early _ _ _ _ _ _ _ (broke-on _ _ _ _ _ _ (head_text c.args.head.now ∷ []) (timed_lines (fired_at ess) 0 c.args.ticks.now) head
    (c.in_err-push_timed.ensures ess is)))

pub returns : goal.returns
unfolding ticks_text
returns g c ess is =
    let sink = g.met.K.Sink in
    let once = c.in_ok-head_line.ensures in
    let head = wrote_more _ _ _ _ _ _ [] (head_text c.args.head.now) (sink.appends _ _ _ _ once) (sink.cause _ _ _ _ once) (wrote_nothing _ _ _ _) once in
    let lines = wrote-on _ _ _ _ _ _ (head_text c.args.head.now ∷ []) (timed_lines (fired_at ess) 0 c.args.ticks.now) head (c.in_ok-push_timed.ensures ess is) in
    let last = c.end_line.ensures in
    writes_last _ _ _ c.args.sink.now c.push_timed.new.sink c.end_line.new.sink (head_text c.args.head.now ∷ timed_lines (fired_at ess) 0 c.args.ticks.now)
    (end_text c.args.counts.now) c.end_line.result (sink.appends _ _ _ _ last) (sink.cause _ _ _ _ last) lines last
