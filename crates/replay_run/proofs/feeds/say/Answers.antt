use Rattle.std.proofs.Common.{◌++◌, [], ◌∷◌, sym, subst}
use Rattle.ff_estimator.specs.Daemons.{StandsFor}
use Rattle.replay_run.proofs.Feeding.{not-refused}
use Rattle.replay_run.proofs.feeds.say.Goals as goal

pub returns-in-Refused-clause-said : goal.returns-in-Refused-clause-said
returns-in-Refused-clause-said g c = λ freq before stands ok.
    absurd (not-refused freq before c.in-Stamp.stamp c.args.x c.in-Refused.field-0 c.in-Stamp.is ok (c.in-Refused.ensures.answer freq before stands))

pub returns-in-Ok-clause-stands : goal.returns-in-Ok-clause-stands
returns-in-Ok-clause-stands g c = λ freq before stands ok.
    subst (λ y. StandsFor c.set.new.self freq (before ++ y ∷ [])) (sym c.in-Set.is) (c.in-Ok.ensures.stands freq before c.in-Set.at stands)
