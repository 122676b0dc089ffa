use Rattle.std.proofs.Common.{sym, ap, ◌∙◌, subst}
use Rattle.stamp_text.specs.Accepted.{IsItemInRange, IsLeapInRange}
use Rattle.stamp_text.specs.Past.{test_of}
use Rattle.stamp_text.specs.declared.lines.Item.TheVariants as item
use Rattle.ff_estimator.proofs.Daemons.{sign-back}
use Rattle.radclock_input.proofs.files.accept_item.Goals as goal

pub returns-in-Leap-clause-test : goal.returns-in-Leap-clause-test
returns-in-Leap-clause-test c =
    let range : IsLeapInRange c.in-Leap.count c.in-Leap.leap = subst IsItemInRange c.in-Leap.is c.requires.range in
    c.leap.ensures.test c.args.freq ∙ ap (λ z. test_of c.args.freq c.args.past.now (item.Leap c.in-Leap.count z))
    (sign-back c.in-Leap.leap range.sign) ∙ ap (test_of c.args.freq c.args.past.now) (sym c.in-Leap.is)
