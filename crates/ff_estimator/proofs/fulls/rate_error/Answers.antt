use Rattle.std.proofs.Common.{◌≡◌, ◌*◌, ◌∙◌, ap₂, arith}
use Rattle.std.specs.Int.{div_ceil}
use Rattle.ff_estimator.specs.Estimates.{rate_parts}
use Rattle.ff_estimator.proofs.RateErrors.{period-positive, rate_parts-fit}
use Rattle.ff_estimator.proofs.fulls.rate_error.Goals as goal

pub div_ceil-requires : goal.div_ceil-requires
div_ceil-requires c = omega (arith, period-positive c.args.freq c.args.rate.now c.requires.low c.requires.high c.requires.order)

pub overflow_cast-result : goal.overflow_cast-result
overflow_cast-result c =
    let parts : c.div_ceil.result ≡ rate_parts c.args.rate.now = c.div_ceil.ensures
    ∙ ap₂ (λ e p. div_ceil (1000000000000 * e) p) (c.from.ensures ∙ c.error.ensures) c.from-2.ensures in
    omega (arith, parts, rate_parts-fit c.args.freq c.args.rate.now c.requires.low c.requires.high c.requires.order)
