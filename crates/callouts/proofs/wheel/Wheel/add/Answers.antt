use Rattle.std.proofs.Common.{◌≡◌, ◌<◌, ◌^◌, length, slice_index, refl, sym, ap, ◌∙◌, arith}
use Rattle.std.proofs.lemmas.Int.{ints}
use Rattle.std.proofs.lemmas.List.{get_or_default}
use Rattle.callouts.specs.Timers.{timer_in}
use Rattle.callouts.proofs.Living.{within_stack, there, none_there, only_there, wheel_add}
use Rattle.callouts.proofs.wheel.Wheel.add.Goals as goal

pub insert-requires-clause-none : goal.insert-requires-clause-none
insert-requires-clause-none c =
    let some : c.self.inside.live < length c.self.inside.spare.items = omega (arith, within_stack _ _ _ _ c.self.invariant) in
    let at : slice_index c.self.inside.spare.items c.self.inside.live ≡ c.index-place.result.now =
    get_or_default c.self.inside.spare.items c.self.inside.live 0 c.index-place.result.now some ∙ sym c.index-place.ensures in
    none_there _ _ _ _ c.self.invariant c.index-place.result.now some at

pub invariant_of-self : goal.invariant_of-self
invariant_of-self c =
    let some : c.self.inside.live < length c.self.inside.spare.items = omega (arith, within_stack _ _ _ _ c.self.invariant) in
    let at : slice_index c.self.inside.spare.items c.self.inside.live ≡ c.index-place.result.now =
    get_or_default c.self.inside.spare.items c.self.inside.live 0 c.index-place.result.now some ∙ sym c.index-place.ensures in
    let due : c.unsigned_abs.result < 2 ^ 110 = omega (arith, ints, c.requires.due.low, c.requires.due.high, c.grains.ensures, c.unsigned_abs.ensures.value) in
    rw c.insert.ensures (wheel_add _ _ _ _ c.self.invariant c.index-place.result.now some at
    (record { id = c.self.inside.added; due = c.unsigned_abs.result }) refl due (omega (arith, c.requires.few, ap (λ k. k.added) c.self.view_is)))

pub returns-clause-place : goal.returns-clause-place
returns-clause-place c =
    let some : c.self.inside.live < length c.self.inside.spare.items = omega (arith, within_stack _ _ _ _ c.self.invariant) in
    let at : slice_index c.self.inside.spare.items c.self.inside.live ≡ c.index-place.result.now =
    get_or_default c.self.inside.spare.items c.self.inside.live 0 c.index-place.result.now some ∙ sym c.index-place.ensures in
    ap (λ k. timer_in k.places c.index-place.result.now) (sym c.self.view_is) ∙ none_there _ _ _ _ c.self.invariant c.index-place.result.now some at

pub returns-clause-within : goal.returns-clause-within
returns-clause-within c =
    let some : c.self.inside.live < length c.self.inside.spare.items = omega (arith, within_stack _ _ _ _ c.self.invariant) in
    let at : slice_index c.self.inside.spare.items c.self.inside.live ≡ c.index-place.result.now =
    get_or_default c.self.inside.spare.items c.self.inside.live 0 c.index-place.result.now some ∙ sym c.index-place.ensures in
    rw (← c.self.view_is) (there _ _ _ _ c.self.invariant c.index-place.result.now some at)

pub returns-clause-of : goal.returns-clause-of
returns-clause-of c =
    let some : c.self.inside.live < length c.self.inside.spare.items = omega (arith, within_stack _ _ _ _ c.self.invariant) in
    let at : slice_index c.self.inside.spare.items c.self.inside.live ≡ c.index-place.result.now =
    get_or_default c.self.inside.spare.items c.self.inside.live 0 c.index-place.result.now some ∙ sym c.index-place.ensures in
    rw c.insert.ensures (only_there _ _ _ _ c.self.invariant c.index-place.result.now some at c.unsigned_abs.result)
