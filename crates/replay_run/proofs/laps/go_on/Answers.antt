use Rattle.std.proofs.Common.{ap, arith}
use Rattle.ff_hands.specs.declared.hands.Order.TheVariants as order
use Rattle.replay_run.proofs.Going.{step-spare, go-fits, go-on-fits, go-winds}
use Rattle.replay_run.proofs.laps.go_on.Goals as goal

pub next_step-requires-clause-fits : goal.next_step-requires-clause-fits
next_step-requires-clause-fits g c κs within =
    go-fits c.args.ticks c.args.from c.args.to c.loop-part.part c.loop-part.pen _ c.loop-part-test.true
    (ap (λ n. record { to = n; order = order.Plain }) c.count_between.ensures) c.loop-part.invariant.fits

pub loop-part-preserved : goal.loop-part-preserved
loop-part-preserved g c =
    let was = c.loop-part.invariant in
    record {
      winds = go-winds c.args.ticks c.args.from c.args.to c.loop-part.part c.args.pen.now c.loop-part.pen c.next_step.new.pen _
          (ap (λ n. record { to = n; order = order.Plain }) c.count_between.ensures) was.winds c.next_step.ensures;
      fits = go-on-fits c.args.ticks c.args.from c.args.to c.loop-part.part c.loop-part.pen c.next_step.new.pen _ c.loop-part-test.true
          (ap (λ n. record { to = n; order = order.Plain }) c.count_between.ensures) was.fits c.next_step.ensures;
      spare = omega (arith, was.spare, c.loop-part-test.true, step-spare _ _ _ c.next_step.ensures);
    }
