use Rattle.std.proofs.Common.{ap}
use Rattle.stamp_text.specs.Digits.{number_in}
use Rattle.stamp_text.specs.Times.{time_in}
use Rattle.stamp_text.specs.Items.{set_says}
use Rattle.stamp_text.proofs.StampLaws.{set_capped}
use Rattle.stamp_text.proofs.items.set_of.Goals as goal

pub returns-in-Some : goal.returns-in-Some
returns-in-Some c =
    let count = number_in c.in-Some.count.now in
    let at = time_in c.in-Some.at.now in
    let same = set_capped count at in
    cc (c.set_of_numbers.ensures, c.number_of.ensures, c.time_of.ensures.time, ap set_says c.in-Some.ensures)
