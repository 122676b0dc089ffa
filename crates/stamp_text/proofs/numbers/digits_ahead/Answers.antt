use Rattle.std.proofs.Common.{◌≡◌, true, get_or, arith}
use Rattle.std.proofs.lemmas.Bool.Decides.{nat_tests}
use Rattle.std.proofs.lemmas.Grind.{common_steps}
use Rattle.stamp_text.specs.Digits.{is_digit}
use Rattle.stamp_text.proofs.DigitLaws.{one_more_digit, few_digits_ahead}
use Rattle.stamp_text.proofs.numbers.digits_ahead.Goals as goal

pub loop-count-preserved : goal.loop-count-preserved
loop-count-preserved c =
    let text = c.args.text.now in
    let n = c.loop-count.count in
    let digit : is_digit (get_or text n 0) ≡ true = grind (arith, nat_tests, common_steps) in
    one_more_digit text c.loop-count.value n _ c.loop-count.invariant c.loop-count-test.true digit (omega arith)

pub returns : goal.returns
returns c = few_digits_ahead c.args.text.now c.loop-count.value c.loop-count.count c.loop-count.invariant c.if-count-gt-SHORT.false
