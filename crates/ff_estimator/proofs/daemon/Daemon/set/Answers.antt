use Rattle.std.proofs.Common.{sym, subst}
use Rattle.ff_hands.specs.Windups.{start_time}
use Rattle.ff_estimator.specs.Daemons.{StandsFor}
use Rattle.ff_estimator.proofs.Daemons.{set-stands, set-holds}
use Rattle.ff_estimator.proofs.daemon.Daemon.set.Goals as goal

pub invariant_of-self : goal.invariant_of-self
invariant_of-self c = set-holds _ c.set.new.self c.self.inside.freq c.args.count start_time c.set.result c.self.invariant (c.set.ensures.after start_time)

pub returns-clause-stands : goal.returns-clause-stands
returns-clause-stands c freq items at was =
    let stood = subst (λ k. StandsFor k freq items) (sym c.self.view_is) was in
    set-stands _ c.set.new.self freq items c.args.count at c.set.result stood (c.set.ensures.stands items at stood.past)
