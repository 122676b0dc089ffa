use Rattle.std.proofs.Common.{ap}
use Rattle.stamp_text.specs.Digits.{number_in}
use Rattle.stamp_text.specs.Items.{sign_in, leap_says}
use Rattle.stamp_text.proofs.StampLaws.{leap_capped}
use Rattle.stamp_text.proofs.items.leap_of.Goals as goal

pub returns-in-Some : goal.returns-in-Some
returns-in-Some c =
    let same = leap_capped (number_in c.in-Some.count.now) (sign_in c.in-Some.sign.now) in
    cc (c.leap_of_numbers.ensures, c.number_of.ensures, c.sign_of.ensures, ap leap_says c.in-Some.ensures)
