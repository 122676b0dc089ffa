use Rattle.ff_estimator.specs.Events.{fed_of}
use Rattle.ideal_world.proofs.Judging.{estimate-fed, refused-fed}
use Rattle.radclock_run.proofs.Fulls.{gathered-estimate, gathered-refused}
use Rattle.radclock_run.proofs.gather.gather_made.Goals as goal

pub returns-in_ok-push-in-Estimate-clause-gathered : goal.returns-in_ok-push-in-Estimate-clause-gathered
returns-in_ok-push-in-Estimate-clause-gathered g c freq all was =
    let fed = estimate-fed c.args.watched.now.world c.args.s.tf (fed_of freq all c.args.s) c.in-Estimate.full _
    (c.in-Estimate.ensures.answer freq all was.stands c.requires.lies) in
    rw c.in_ok-push-in-Estimate.ensures.items ((gathered-estimate freq all c.args.s c.feed.new.self.daemon c.args.events.now.items c.in-Estimate.full
    c.requires.ranged was.are (c.in-Estimate.ensures.stands freq all was.stands c.requires.lies) fed).gathered)

pub returns-in-Refused-clause-gathered : goal.returns-in-Refused-clause-gathered
returns-in-Refused-clause-gathered g c freq all was =
    let fed = refused-fed c.args.watched.now.world c.args.s.tf (fed_of freq all c.args.s) c.in-Refused.field-0
    (c.in-Refused.ensures.answer freq all was.stands c.requires.lies) in
    (gathered-refused freq all c.args.s c.feed.new.self.daemon c.args.events.now.items c.in-Refused.field-0 was.are
    (c.in-Refused.ensures.stands freq all was.stands c.requires.lies) fed).gathered
