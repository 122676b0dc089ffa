use Rattle.std.proofs.Common.{sym, arith}
use Rattle.std.proofs.lemmas.Grind.{common_steps}
use Rattle.stamp_text.proofs.DigitLaws.{few_digits, nanos_filled}
use Rattle.stamp_text.proofs.numbers.nanos_of.Goals as goal

pub filled-requires-clause-below : goal.filled-requires-clause-below
filled-requires-clause-below c = (few_digits c.args.digits.now c.value_of.result (omega arith) (sym c.if-not-has_digits_alone.ensures) c.value_of.ensures).1

pub returns-clause-nanos : goal.returns-clause-nanos
returns-clause-nanos c =
    let digits = sym c.if-not-has_digits_alone.ensures in
    let value = few_digits c.args.digits.now c.value_of.result (omega arith) digits c.value_of.ensures in
    nanos_filled c.args.digits.now c.value_of.result c.filled.result (grind (arith, common_steps)) (omega arith) digits value.0 c.filled.ensures.value
