use Rattle.std.proofs.Common.{Option, subst, arith}
use Rattle.std.proofs.lemmas.Option.{slice_get-get_or}
use Rattle.ff_hands.proofs.Sounding.{sound-bounded}
use Rattle.ff_hands.proofs.Ticks.{tick-sound}
use Rattle.ideal_world.specs.Deviations.{IsFoundBefore}
use Rattle.ideal_world.specs.declared.deviations.Deviation.{Deviation}
use Rattle.ideal_world.proofs.Deviating.{stays-farthest, comes-farthest, comes-first}
use Rattle.ideal_world.proofs.deviations.farther.Goals as goal

pub distance-requires-clause-count : goal.distance-requires-clause-count
distance-requires-clause-count c = (sound-bounded _ (tick-sound c.args.ticks.now c.requires.journal c.args.n _
    (slice_get-get_or c.args.ticks.now c.args.n _ c.requires.there))).count

pub bound-requires-clause-sound : goal.bound-requires-clause-sound
bound-requires-clause-sound c = tick-sound c.args.ticks.now c.requires.journal c.args.n _ (slice_get-get_or c.args.ticks.now c.args.n _ c.requires.there)

pub bound-requires-clause-most : goal.bound-requires-clause-most
bound-requires-clause-most c = (sound-bounded _ (tick-sound c.args.ticks.now c.requires.journal c.args.n _
    (slice_get-get_or c.args.ticks.now c.args.n _ c.requires.there))).count

pub returns-in-Some : goal.returns-in-Some
returns-in-Some c =
    let before = subst (λ (o : Option Deviation). IsFoundBefore c.args.world.now c.args.ticks.now c.args.n o) c.in-Some.is c.requires.before in
    stays-farthest c.args.world.now c.args.ticks.now c.args.n _ (slice_get-get_or c.args.ticks.now c.args.n _ c.requires.there) c.in-Some.f _
    c.distance.ensures before c.if-found-f.true

pub returns-in_default : goal.returns-in_default
returns-in_default c =
    let before = subst (λ (o : Option Deviation). IsFoundBefore c.args.world.now c.args.ticks.now c.args.n o) c.in-Some.is c.requires.before in
    rw (c.distance.ensures, c.bound.ensures) (comes-farthest c.args.world.now c.args.ticks.now c.args.n _
    (slice_get-get_or c.args.ticks.now c.args.n _ c.requires.there) c.in-Some.f c.requires.behind before
    (omega (arith, c.distance.ensures, c.if-found-f.false)))

pub returns-in_default-2 : goal.returns-in_default-2
returns-in_default-2 c =
    let before = subst (λ (o : Option Deviation). IsFoundBefore c.args.world.now c.args.ticks.now c.args.n o) c.in_default.is c.requires.before in
    rw (c.distance.ensures, c.bound.ensures) (comes-first c.args.world.now c.args.ticks.now c.args.n _
    (slice_get-get_or c.args.ticks.now c.args.n _ c.requires.there) c.requires.behind before)
