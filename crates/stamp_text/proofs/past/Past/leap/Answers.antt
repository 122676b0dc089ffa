use Rattle.std.proofs.Common.{ap, ◌∙◌, arith}
use Rattle.std.proofs.lemmas.Grind.{common_steps}
use Rattle.stamp_text.specs.Past.{test_of}
use Rattle.stamp_text.specs.declared.lines.Item.TheVariants as item
use Rattle.stamp_text.proofs.past.Past.leap.Goals as goal

pub returns-in_err-test_leap-clause-test : goal.returns-in_err-test_leap-clause-test
returns-in_err-test_leap-clause-test c freq =
    let said = c.test_leap.ensures.test freq in
    grind (arith, common_steps)

pub returns-in_err-test_leap-clause-answer : goal.returns-in_err-test_leap-clause-answer
returns-in_err-test_leap-clause-answer c freq all is = returns-in_err-test_leap-clause-test c freq
    ∙ ap (λ k. test_of freq k (item.Leap c.args.count c.args.leap)) is
