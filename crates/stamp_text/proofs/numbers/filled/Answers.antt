use Rattle.std.proofs.Common.{◌∙◌, arith}
use Rattle.std.proofs.lemmas.Grind.{pow_more}
use Rattle.stamp_text.proofs.DigitLaws.{nano_room, zero_behind}
use Rattle.stamp_text.proofs.numbers.filled.Goals as goal

pub overflow_mul-filled : goal.overflow_mul-filled
overflow_mul-filled c = omega (arith, nano_room c.loop-place.filled c.loop-place._place c.loop-place.invariant.below (omega arith))

pub loop-place-preserved : goal.loop-place-preserved
loop-place-preserved c = record {
  below = omega (arith, pow_more 10 c.loop-place._place, c.loop-place.invariant.below);
  value = zero_behind c.loop-place.filled c.loop-place._place c.loop-place-test.true ∙ c.loop-place.invariant.value;
}
