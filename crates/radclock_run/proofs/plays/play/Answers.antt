use Rattle.std.proofs.Common.{arith}
use Rattle.radclock_run.proofs.Playing.{plays-first, plays-next}
use Rattle.radclock_run.proofs.plays.play.Goals as goal

pub loop-s-init : goal.loop-s-init
loop-s-init c = record {
  plays = plays-first c.args.core.now.ticks c.args.core.now.counter c.args.steps.now c.requires.ticks c.requires.counter c.requires.fits;
  room = omega (arith, c.requires.room);
}

pub loop-s-preserved : goal.loop-s-preserved
loop-s-preserved c = record {
  plays = plays-next _ _ _ _ _ _ _ c.loop-s-test.true c.loop-s.invariant.plays c.step.ensures.ticks c.step.ensures.newest c.step.ensures.counter;
  room = omega (arith, c.loop-s.invariant.room, c.loop-s-test.true, c.step.ensures.spare);
}
