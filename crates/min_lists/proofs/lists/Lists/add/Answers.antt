use Rattle.std.proofs.Common.{◌+◌, ◌<◌, ◌^◌, [], ◌∷◌, ◌++◌, sym, subst, ap, ◌∙◌, arith}
use Rattle.min_lists.specs.Lists.{StandsFor}
use Rattle.min_lists.specs.Links.{kept_in}
use Rattle.min_lists.proofs.Views.{trips_with, stands_with}
use Rattle.min_lists.proofs.Adding.{lists_add, credit_stays}
use Rattle.min_lists.proofs.Credits.{credit_same}
use Rattle.min_lists.proofs.lists.Lists.add.Goals as goal

pub invariant_of-self : goal.invariant_of-self
invariant_of-self c =
    let l = c.self.inside in
    let few : l.count < 2 ^ 62 = omega (arith, c.requires.few, ap (λ k. k.count) c.self.view_is) in
    lists_add l.nodes c.set_trip.new.self l.count l.windows c.self.invariant (rw (← c.self.view_is) at c.requires.gone) c.set_trip.ensures.links
    c.set_trip.ensures.others few

pub returns-clause-kept : goal.returns-clause-kept
returns-clause-kept c =
    let l = c.self.inside in
    let new = c.set_trip.new.self in
    rw (← c.self.view_is) (ap (λ ts. record (kept_in new (l.count + 1) l.windows) { trips = ts })
    (trips_with l.nodes new l.count c.args.rtt (c.set_trip.ensures.here ∙ c.new.ensures) c.set_trip.ensures.others))

pub returns-clause-stands : goal.returns-clause-stands
returns-clause-stands c = λ all stands. subst (λ k. StandsFor k (all ++ c.args.rtt ∷ [])) (sym (returns-clause-kept c))
    (stands_with c.args.self.now all c.args.rtt stands)

pub returns-clause-does : goal.returns-clause-does
returns-clause-does c =
    let l = c.self.inside in
    rw (← c.self.view_is) (credit_stays l.nodes c.set_trip.new.self l.count l.windows c.self.invariant (rw (← c.self.view_is) at c.requires.gone)
    c.set_trip.ensures.links c.set_trip.ensures.others (invariant_of-self c))

pub returns-clause-credit : goal.returns-clause-credit
returns-clause-credit c = credit_same _ _ (returns-clause-does c)
