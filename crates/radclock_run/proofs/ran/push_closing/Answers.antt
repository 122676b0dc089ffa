use Rattle.std.proofs.Common.{[], ◌∷◌, ◌-◌, length, refl, subst}
use Rattle.std.proofs.lemmas.Result.{err_from_is_err_and}
use Rattle.rad_io.specs.Pushes.{Writes}
use Rattle.rad_io.proofs.Chains.{wrote_nothing, wrote_more, writes_last, broke}
use Rattle.report_text.specs.Text.{estimate_text, tick_text, end_text}
use Rattle.clock_core.specs.Machines.{newest}
use Rattle.radclock_run.specs.MadeRuns.{run_counts}
use Rattle.radclock_run.proofs.Making.{closes-so}
use Rattle.radclock_run.proofs.ran.push_closing.Goals as goal

pub returns-in_err-estimate_line : goal.returns-in_err-estimate_line
returns-in_err-estimate_line g c =
    let sink = g.met.K.Sink in
    let once = c.in_err-estimate_line.ensures in
    let p = err_from_is_err_and c.from_residual.result c.from_residual.ensures.1 in
    let same = closes-so c.args.fulls.now c.last_full.result c.args.ticks.now (newest c.args.ticks.now) c.args.entries c.last_full.ensures refl in
    subst (λ ls. Writes g.K.Sink.written g.K.Sink.faults g.K.Sink.push_gives c.args.sink.now ls c.from_residual.result c.estimate_line.new.sink) same
    (rw p.1 (broke _ _ _ _ _ _ [] (estimate_text (length c.args.fulls.now - 1) c.last_full.result 1) _ (sink.appends _ _ _ _ once)
    (sink.cause _ _ _ _ once) (wrote_nothing _ _ _ _) once))

pub returns-in_err-tick_line : goal.returns-in_err-tick_line
returns-in_err-tick_line g c =
    let sink = g.met.K.Sink in
    let once = c.in_ok-estimate_line.ensures in
    let twice = c.in_err-tick_line.ensures in
    let p = err_from_is_err_and c.from_residual-in_err-tick_line.result c.from_residual-in_err-tick_line.ensures.1 in
    let same = closes-so c.args.fulls.now c.last_full.result c.args.ticks.now c.newest.result c.args.entries c.last_full.ensures c.newest.ensures in
    let first = wrote_more _ _ _ _ _ _ [] (estimate_text (length c.args.fulls.now - 1) c.last_full.result 1) (sink.appends _ _ _ _ once)
    (sink.cause _ _ _ _ once) (wrote_nothing _ _ _ _) once in
    subst (λ ls. Writes g.K.Sink.written g.K.Sink.faults g.K.Sink.push_gives c.args.sink.now ls c.from_residual-in_err-tick_line.result
    c.tick_line.new.sink) same
    (rw p.1 (broke _ _ _ _ _ _ (_ ∷ []) (tick_text (length c.args.ticks.now - 1) c.newest.result) _ (sink.appends _ _ _ _ twice)
    (sink.cause _ _ _ _ twice) first twice))

pub returns : goal.returns
returns g c =
    let sink = g.met.K.Sink in
    let once = c.in_ok-estimate_line.ensures in
    let twice = c.in_ok-tick_line.ensures in
    let last = c.end_line.ensures in
    let same = closes-so c.args.fulls.now c.last_full.result c.args.ticks.now c.newest.result c.args.entries c.last_full.ensures c.newest.ensures in
    let estimate = estimate_text (length c.args.fulls.now - 1) c.last_full.result 1 in
    let tick = tick_text (length c.args.ticks.now - 1) c.newest.result in
    let first = wrote_more _ _ _ _ _ _ [] estimate (sink.appends _ _ _ _ once) (sink.cause _ _ _ _ once) (wrote_nothing _ _ _ _) once in
    let second = wrote_more _ _ _ _ _ _ (estimate ∷ []) tick (sink.appends _ _ _ _ twice) (sink.cause _ _ _ _ twice) first twice in
    subst (λ ls. Writes g.K.Sink.written g.K.Sink.faults g.K.Sink.push_gives c.args.sink.now ls c.end_line.result c.end_line.new.sink) same
    (writes_last _ _ _ c.args.sink.now c.tick_line.new.sink c.end_line.new.sink (estimate ∷ tick ∷ [])
    (end_text (run_counts c.args.fulls.now c.args.ticks.now c.args.entries)) c.end_line.result (sink.appends _ _ _ _ last)
    (sink.cause _ _ _ _ last) second last)
