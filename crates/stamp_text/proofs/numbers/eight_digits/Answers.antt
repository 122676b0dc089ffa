use Rattle.std.proofs.Common.{arith, refl}
use Rattle.stamp_text.proofs.EightLaws.{eight_read}
use Rattle.stamp_text.proofs.numbers.eight_digits.Goals as goal

pub returns : goal.returns
returns c = eight_read c.args.text.now c.from_le_bytes-digits.result _ (omega arith) c.fits-text (omega arith) c.from_le_bytes-digits.ensures
    (omega (arith, c.if-others-ne0.false)) refl
