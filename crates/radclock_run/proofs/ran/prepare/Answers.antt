use Rattle.std.proofs.Common.{◌≡◌, length, arith, subst}
use Rattle.radclock_run.specs.Replays.{run_options}
use Rattle.radclock_run.specs.Plays.{IsReadyFor}
use Rattle.radclock_run.proofs.ran.prepare.Goals as goal

pub returns-clause-ready : goal.returns-clause-ready
returns-clause-ready g c =
    let plan = c.in_ok-plan.plan in
    let many : c.len.result ≡ length plan.steps.items = omega (arith, c.len.ensures, plan.steps.ok.0) in
    subst (λ n. IsReadyFor run_options n c.in_ok-logs.logs.items c.open.new.desk.pen) many
    (c.in_ok-logs.ensures.ready run_options c.in_ok-plan.ensures.options)
