use Rattle.stamp_text.proofs.StampLaws.{five_pieces}
use Rattle.stamp_text.proofs.stamps.stamp_by_pieces.Goals as goal

pub returns-in-Some : goal.returns-in-Some
returns-in-Some c =
    let first = rw c.in_ok-a.ensures.ok_part at c.cut_piece.ensures in
    let second = rw c.in_ok-b.ensures.ok_part at c.cut_piece-2.ensures in
    let third = rw c.in_ok-c.ensures.ok_part at c.cut_piece-3.ensures in
    five_pieces c.args.line.now c.in_ok-a.rest.now c.in_ok-b.rest.now c.in_ok-c.rest.now c.in-Some.field-0.1.now first second third c.in-Some.ensures
