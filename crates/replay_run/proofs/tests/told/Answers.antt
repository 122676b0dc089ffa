use Rattle.std.proofs.Common.{[], ◌∷◌, ◌++◌, sym}
use Rattle.stamp_text.specs.Accepted.{accepted_with}
use Rattle.stamp_text.specs.Past.{accept_item}
use Rattle.stamp_text.specs.declared.lines.Item.TheVariants as item
use Rattle.ff_estimator.proofs.Events.{of-estimate, of-set}
use Rattle.replay_run.proofs.tests.told.Goals as goal

pub returns-in-Estimate : goal.returns-in-Estimate
returns-in-Estimate g c items stands =
    let s = c.stamp_of.result in (
      accepted_with items (item.Stamp s) (accept_item 1000000000 items (item.Stamp s)),
      c.feed.ensures.stands 1000000000 items stands,
      λ events are. of-estimate 1000000000 items s events c.in-Estimate.full c.stamp_of.ensures are (c.in-Estimate.ensures.answer 1000000000 items stands),
    )

pub returns-in-Ok : goal.returns-in-Ok
returns-in-Ok g c items stands =
    let count = c.count_of-count.result in
    let at = c.time_of-at.result in (
      items ++ item.Set count at ∷ [],
      c.in-Ok.ensures.stands 1000000000 items at stands,
      λ events are. of-set 1000000000 items count at events (record { count = c.count_of-count.ensures; at = c.time_of-at.ensures }) are
          (sym (c.in-Ok.ensures.answer 1000000000 items at stands)),
    )
