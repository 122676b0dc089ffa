use Rattle.std.proofs.Common.{ap, ◌∙◌}
use Rattle.stamp_text.specs.Items.{two_of}
use Rattle.stamp_text.proofs.StampLaws.{not_two}
use Rattle.stamp_text.proofs.items.two_of.Goals as goal

pub returns-in-Some : goal.returns-in-Some
returns-in-Some c =
    let first = rw c.in_ok-a.was at c.cut_piece.ensures in
    ap two_of first ∙ not_two c.in_ok-a.a.now c.in_ok-a.b.now c.in-Some.field-0.1.now c.in-Some.ensures
