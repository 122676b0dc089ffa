use Rattle.stamp_text.proofs.StampLaws.{seven_pieces}
use Rattle.stamp_text.proofs.stamps.stamp_of_pieces.Goals as goal

pub returns-in-Some : goal.returns-in-Some
returns-in-Some c =
    let first = rw c.in_ok-b.ensures.ok_part at c.cut_piece.ensures in
    let second = rw c.in_ok-c.ensures.ok_part at c.cut_piece-2.ensures in
    let third = rw c.in_ok-d.ensures.ok_part at c.cut_piece-3.ensures in
    let fourth = rw c.in_ok-e.ensures.ok_part at c.cut_piece-4.ensures in
    seven_pieces c.args.first.now c.args.rest.now c.in_ok-b.rest.now c.in_ok-c.rest.now c.in_ok-d.rest.now c.in_ok-e.rest.now c.in-Some.field-0.1.now
    first second third fourth c.in-Some.ensures
