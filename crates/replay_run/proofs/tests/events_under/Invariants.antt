use Rattle.std.proofs.Common.{List}
use Rattle.stamp_text.specs.declared.lines.Item.{Item}
use Rattle.ff_estimator.specs.Daemons.{StandsFor}
use Rattle.ff_estimator.specs.Events.{AreOf}
use Rattle.replay_run.proofs.tests.events_under.Given as goal

abbrev pub invariant-loop-row : goal.invariant-loop-row
invariant-loop-row g l = (items : List Item) × StandsFor l.daemon 1000000000 items × AreOf l.events.items 1000000000 items
