use Rattle.std.proofs.Common.{◌∙◌, subst}
use Rattle.stamp_text.specs.Accepted.{accepted_with}
use Rattle.stamp_text.specs.declared.lines.Item.TheVariants as item
use Rattle.ff_estimator.specs.Daemons.{StandsFor}
use Rattle.radclock_run.proofs.estimates.EstimatesTelling.set.Goals as goal

pub returns : goal.returns
returns g c head accepted at was answer = (
  was.0,
  subst (λ r. StandsFor c.set.new.self head.freq
      (accepted_with accepted (item.Set c.args.count at) r)) (c.set.ensures.answer head.freq accepted at was.1 ∙ answer)
      (c.set.ensures.stands head.freq accepted at was.1),
)
