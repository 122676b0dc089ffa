use Rattle.replay_run.proofs.Driving.{drives-next, drives-done}
use Rattle.replay_run.proofs.driver.drive.Goals as goal

pub loop-k-preserved : goal.loop-k-preserved
loop-k-preserved g c = record { drives = drives-next c.args.steps.now _ _ _ c.loop-k.k _ c.loop-k-test.true c.loop-k.invariant.drives c.step.ensures }

pub returns : goal.returns
returns g c = drives-done c.args.steps.now _ _ c.loop-k.k c.loop-k-test.false c.loop-k.auto.k-end c.loop-k.invariant.drives
