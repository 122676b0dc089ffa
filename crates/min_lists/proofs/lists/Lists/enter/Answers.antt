use Rattle.std.proofs.Common.{◌≡◌, ◌<◌, length, ap, ◌∙◌, arith}
use Rattle.std.proofs.Math.Path.{fun_ext}
use Rattle.min_lists.specs.Lists.{Span, window}
use Rattle.min_lists.specs.Links.{window_at}
use Rattle.min_lists.proofs.Views.{window_of}
use Rattle.min_lists.proofs.Places.{lists_enter, place_same}
use Rattle.min_lists.proofs.Credits.{credit_enter, credit_others, credit_one}
use Rattle.min_lists.proofs.lists.Lists.enter.Goals as goal

pub invariant_of-self : goal.invariant_of-self
invariant_of-self g c =
    let l = c.self.inside in
    let p = c.place-place.result in
    let room : c.place-place.result < length l.windows = omega (arith, c.place-place.ensures.within) in
    let to : (window c.args.self.now c.args.which).to ≡ (window_at l.windows p).to = ap (λ (s : Span). s.to)
    (window_of l.nodes l.count l.windows c.args.self.now c.args.which p c.self.view_is c.place-place.ensures.value) in
    let count : l.count ≡ c.args.self.now.count = ap (λ k. k.count) c.self.view_is in
    lists_enter l.windows p c.enter.result room l.nodes c.enter.new.nodes l.count c.self.invariant c.enter.ensures.enters c.args.which
    c.place-place.ensures.value (omega (arith, c.requires.added)) (omega (arith, c.requires.kept))

pub returns-clause-does : goal.returns-clause-does
returns-clause-does g c =
    let l = c.self.inside in
    let p = c.place-place.result in
    let new = invariant_of-self g c in
    let room : c.place-place.result < length l.windows = omega (arith, c.place-place.ensures.within) in
    rw (← c.self.view_is) (
      c.enter.ensures.forward,
      credit_enter l.nodes c.enter.new.nodes l.count l.windows p c.enter.result c.args.steps.now c.enter.new.steps room c.self.invariant new
          c.enter.ensures.cost c.args.which c.place-place.ensures.value,
      λ other ne. credit_others l.nodes c.enter.new.nodes l.count l.windows p c.enter.result room c.self.invariant new
          (fun_ext c.enter.ensures.enters.trips) other (λ e. ne (place_same other c.args.which (e ∙ c.place-place.ensures.value))),
    )

pub returns-clause-credit : goal.returns-clause-credit
returns-clause-credit g c = let does = returns-clause-does g c in credit_one _ _ _ _ _ does.1 does.2
