use Rattle.std.proofs.Common.{◌≡◌, ◌<◌, length, ap, arith}
use Rattle.min_lists.specs.Lists.{Span, window}
use Rattle.min_lists.specs.Links.{window_at, span}
use Rattle.min_lists.proofs.Views.{window_of}
use Rattle.min_lists.proofs.Places.{lists_set}
use Rattle.min_lists.proofs.Credits.{credit_cut, credit_le}
use Rattle.min_lists.proofs.lists.Lists.cut.Goals as goal

pub invariant_of-self : goal.invariant_of-self
invariant_of-self c =
    let l = c.self.inside in
    let room : c.place-place.result < length l.windows = omega (arith, c.place-place.ensures.within) in
    lists_set l.windows c.place-place.result c.cut.result room l.nodes l.nodes l.count c.self.invariant
    (c.cut.ensures.list l.count (rw c.place-place.ensures.value (c.self.invariant.each c.args.which))) (λ which ne is. is)

pub returns-clause-does : goal.returns-clause-does
returns-clause-does c =
    let l = c.self.inside in
    let room : c.place-place.result < length l.windows = omega (arith, c.place-place.ensures.within) in
    let at : window c.args.self.now c.args.which ≡ span (window_at l.windows c.place-place.result) = window_of l.nodes l.count l.windows
    c.args.self.now c.args.which c.place-place.result c.self.view_is c.place-place.ensures.value in
    rw (← c.self.view_is) (credit_cut l.nodes l.count l.windows c.place-place.result c.cut.result room c.self.invariant (invariant_of-self c)
    (omega (arith, ap (λ (s : Span). s.from) at, c.cut.ensures.from, c.requires.forward)) c.cut.ensures.to)

pub returns-clause-credit : goal.returns-clause-credit
returns-clause-credit c = credit_le _ _ (returns-clause-does c)
