use Rattle.std.proofs.Common.{[], ◌∷◌, ◌++◌, true, false, is_ok, sym, ap, ◌∙◌, subst}
use Rattle.stamp_text.specs.Accepted.{IsInRange, IsItemInRange, IsSetInRange, IsLeapInRange, accepted_with}
use Rattle.stamp_text.specs.Past.{accept_item}
use Rattle.stamp_text.specs.declared.lines.Item.TheVariants as item
use Rattle.ff_estimator.specs.Daemons.{StandsFor}
use Rattle.ff_estimator.specs.declared.fulls.Event.TheVariants as event
use Rattle.ff_estimator.proofs.Daemons.{sign-back}
use Rattle.radclock_run.specs.Gathered.{IsGathered}
use Rattle.radclock_run.proofs.Fulls.{gathered-estimate, gathered-refused, gathered-set, gathered-leap}
use Rattle.radclock_run.proofs.gather.gather.Goals as goal

pub returns-in_ok-push-in-Estimate : goal.returns-in_ok-push-in-Estimate
returns-in_ok-push-in-Estimate g c freq all was =
    let s = c.in-Stamp.stamp in
    let timed : IsInRange s = subst IsItemInRange c.in-Stamp.is c.requires in
    rw c.in_ok-push-in-Estimate.ensures.items (subst (λ x. IsGathered c.feed.new.self
    (c.args.events.now.items ++ event.Estimate c.in-Estimate.full ∷ []) freq all x true) (sym c.in-Stamp.is)
    (gathered-estimate freq all s c.feed.new.self c.args.events.now.items c.in-Estimate.full timed was.are
    (c.in-Estimate.ensures.stands freq all was.stands) (c.in-Estimate.ensures.answer freq all was.stands)))

pub returns-in-Refused : goal.returns-in-Refused
returns-in-Refused g c freq all was =
    subst (λ x. IsGathered c.feed.new.self c.args.events.now.items freq all x false) (sym c.in-Stamp.is)
    (gathered-refused freq all c.in-Stamp.stamp c.feed.new.self c.args.events.now.items c.in-Refused.field-0 was.are
    (c.in-Refused.ensures.stands freq all was.stands) (c.in-Refused.ensures.answer freq all was.stands))

pub returns-in_ok-push-in-Ok : goal.returns-in_ok-push-in-Ok
returns-in_ok-push-in-Ok g c freq all was =
    let timed : IsSetInRange c.in-Set.count c.in-Set.at = subst IsItemInRange c.in-Set.is c.requires in
    rw c.in_ok-push-in-Ok.ensures.items (subst (λ x. IsGathered c.set.new.self (c.args.events.now.items ++ event.Set c.in-Set.count c.in-Set.at ∷ [])
    freq all x true) (sym c.in-Set.is)
    (gathered-set freq all c.in-Set.count c.in-Set.at c.set.new.self c.args.events.now.items timed was.are
    (c.in-Ok.ensures.answer freq all c.in-Set.at was.stands) (c.in-Ok.ensures.stands freq all c.in-Set.at was.stands)))

pub returns-in-Leap : goal.returns-in-Leap
returns-in-Leap g c freq all was =
    let timed : IsLeapInRange c.in-Leap.count c.in-Leap.leap = subst IsItemInRange c.in-Leap.is c.requires in
    let sign = sign-back c.in-Leap.leap timed.sign in
    let answer = c.leap.ensures.answer freq all was.stands ∙ ap (λ z. accept_item freq all (item.Leap c.in-Leap.count z)) sign in
    let stands = subst (λ z. StandsFor c.leap.new.self freq (accepted_with all (item.Leap c.in-Leap.count z) c.leap.result)) sign
    (c.leap.ensures.stands freq all was.stands) in
    subst (λ b. IsGathered c.leap.new.self c.args.events.now.items freq all c.args.x b) (sym c.is_ok.ensures.value)
    (subst (λ x. IsGathered c.leap.new.self c.args.events.now.items freq all x (is_ok c.leap.result)) (sym c.in-Leap.is)
    (gathered-leap freq all c.in-Leap.count c.in-Leap.leap c.leap.new.self c.args.events.now.items c.leap.result timed was.are answer stands))
