use Rattle.std.proofs.Common.{◌+◌, ap, arith}
use Rattle.radclock_run.proofs.Fulls.{gathers-none, gathers-next, at-most-one}
use Rattle.radclock_run.proofs.gather.said_by.Goals as goal

pub loop-x-init : goal.loop-x-init
loop-x-init g c = record { few = omega arith; gathers = gathers-none _ _ _ _ c.in_ok-daemon.ensures.stands c.new-events.ensures.items }

pub loop-x-preserved : goal.loop-x-preserved
loop-x-preserved g c =
    let all = c.loop-x.invariant.gathers in
    let one = at-most-one c.in_ok-accepted.accepted c.refusals-refused.result c.refusals-refused.ensures in
    record {
      few = omega (arith, c.loop-x.invariant.few, one);
      gathers = gathers-next _ _ _ _ _ _ c.loop-x.x-index _ _ _ c.in_ok-accepted.accepted c.loop-x-test.true all
          (c.in_ok-accepted.ensures c.args.file.now.head.freq all.accepted all.at) (ap (λ n. c.loop-x.refused + n) c.refusals-refused.ensures);
    }
