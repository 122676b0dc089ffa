use Rattle.std.proofs.Common.{◌∙◌}
use Rattle.radclock_run.proofs.Making.{fulls-more}
use Rattle.radclock_run.proofs.ran.fulls_of.Goals as goal

pub loop-event-preserved : goal.loop-event-preserved
loop-event-preserved c =
    record {
      told = c.in_ok-push_full.ensures ∙ fulls-more _ c.loop-event.fulls.items c.loop-event.event-index _ c.loop-event-test.true
          c.loop-event.invariant.told;
    }
