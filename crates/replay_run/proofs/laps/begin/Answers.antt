use Rattle.std.proofs.Common.{ap}
use Rattle.ff_hands.specs.declared.hands.Order.TheVariants as order
use Rattle.replay_run.proofs.Going.{begin-fits, begin-winds, begin-at}
use Rattle.replay_run.proofs.laps.begin.Goals as goal

pub next_step-requires-clause-fits : goal.next_step-requires-clause-fits
next_step-requires-clause-fits g c κs within =
    begin-fits c.args.freq c.args.pen.now _ c.requires.low c.requires.journal c.requires.top
    (ap (λ e. record { to = 0; order = order.Reset e }) c.reset_estimate.ensures)

pub returns-clause-winds : goal.returns-clause-winds
returns-clause-winds g c = begin-winds c.args.freq _ c.args.pen.now c.next_step.new.pen
    (ap (λ e. record { to = 0; order = order.Reset e }) c.reset_estimate.ensures) c.next_step.ensures

pub returns-clause-at : goal.returns-clause-at
returns-clause-at g c = begin-at c.args.freq _ c.args.pen.now c.next_step.new.pen
    (ap (λ e. record { to = 0; order = order.Reset e }) c.reset_estimate.ensures) c.next_step.ensures
