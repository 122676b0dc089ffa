use Rattle.std.proofs.Common.{◌≡◌, ◌≤◌, ◌*◌, ◌-◌, ap, ◌∙◌, arith, pos}
use lib.IntN.{◌-ℤ◌}
use lib.Signed.{lt_z}
use mir.Val.{to_z, of_z}
use mir.Syntax.{w128}
use Rattle.std.proofs.lemmas.Int.{ints, to_z_pos}
use Rattle.std.proofs.Math.Nat.{mul-le-mul}
use Rattle.ff_grain.specs.Grains.{number_of}
use Rattle.ff_grain.specs.Periods.{highest_period}
use Rattle.stamp_text.proofs.accepts.is_acausal.Goals as goal

pub returns : goal.returns
returns c =
    let s = c.args.s.now in
    let trip = s.tf - s.ta in
    let hi = highest_period c.args.freq in
    let product : c.from.result * c.from-2.result ≡ trip * hi = ap (λ x. x * c.from-2.result) c.from.ensures
    ∙ ap (λ x. trip * x) (c.from-2.ensures ∙ c.highest_period.ensures.value) in
    let far : trip ≤ 16000000000 = omega arith in
    let high : hi ≤ 35184372088832 = omega (arith, c.highest_period.ensures.value) in
    let small : trip * hi ≤ 16000000000 * 35184372088832 = mul-le-mul far high in
    let left : to_z w128 (c.from.result * c.from-2.result) ≡ pos (trip * hi) = ap (to_z w128) product ∙ to_z_pos w128 (trip * hi) (omega arith) in
    let right : to_z w128 (of_z w128 (to_z w128 (of_z w128 c.grains.result) -ℤ to_z w128 (of_z w128 c.grains-2.result))) ≡ number_of s.te -ℤ
    number_of s.tb = omega (arith, ints) in
    ap (λ x. lt_z x (to_z w128 (of_z w128 (to_z w128 (of_z w128 c.grains.result) -ℤ to_z w128 (of_z w128 c.grains-2.result))))) left
    ∙ ap (lt_z (pos (trip * hi))) right
