use Rattle.std.proofs.Common.{◌++◌}
use Rattle.std.proofs.lemmas.Result.{err_from_is_err_and}
use Rattle.rad_io.proofs.Joining.{broke-early, broke-on, writes-on}
use Rattle.radclock_run.specs.MadeRuns.{opening_lines, told_lines, closing_lines}
use Rattle.radclock_run.proofs.ran.push_run.Goals as goal

pub returns-in_err-push_opening : goal.returns-in_err-push_opening
returns-in_err-push_opening g c =
    let p = err_from_is_err_and c.from_residual.result c.from_residual.ensures.1 in
    rw p.1 (broke-early _ _ _ _ _ (opening_lines c.args.asked.now c.args.fulls.now)
    (told_lines c.args.told ++ closing_lines c.args.fulls.now c.args.ticks.now c.args.entries) c.in_err-push_opening.ensures)

pub returns-in_err-push_told : goal.returns-in_err-push_told
returns-in_err-push_told g c =
    let p = err_from_is_err_and c.from_residual-in_err-push_told.result c.from_residual-in_err-push_told.ensures.1 in
    let early = broke-early _ _ _ _ _ (told_lines c.args.told) (closing_lines c.args.fulls.now c.args.ticks.now c.args.entries) c.in_err-push_told.ensures in
    rw p.1 (broke-on _ _ _ c.args.sink.now c.push_opening.new.sink c.push_told.new.sink (opening_lines c.args.asked.now c.args.fulls.now)
    (told_lines c.args.told ++ closing_lines c.args.fulls.now c.args.ticks.now c.args.entries) c.in_ok-push_opening.ensures early)

pub returns : goal.returns
returns g c =
    let opening = opening_lines c.args.asked.now c.args.fulls.now in
    let told = told_lines c.args.told in
    let closing = closing_lines c.args.fulls.now c.args.ticks.now c.args.entries in
    let behind = writes-on _ _ _ c.push_opening.new.sink c.push_told.new.sink c.push_closing.new.sink told closing c.push_closing.result
    c.in_ok-push_told.ensures c.push_closing.ensures in
    writes-on _ _ _ c.args.sink.now c.push_opening.new.sink c.push_closing.new.sink opening (told ++ closing) c.push_closing.result
    c.in_ok-push_opening.ensures behind
