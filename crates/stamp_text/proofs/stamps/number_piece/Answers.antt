use Rattle.std.proofs.Common.{◌+◌, sym, subst}
use Rattle.stamp_text.specs.Pieces.{IsNumberPiece}
use Rattle.stamp_text.proofs.PieceLaws.{number_first, rest_of}
use Rattle.stamp_text.proofs.stamps.number_piece.Goals as goal

pub returns-then-text-count-eq32 : goal.returns-then-text-count-eq32
returns-then-text-count-eq32 c =
    let text = c.args.text.now in
    let n = c.in_ok-value.count in
    subst (IsNumberPiece text c.in_ok-value.value) (sym (rest_of text (n + 1)))
    (number_first text n c.in_ok-value.value c.in_ok-value.ensures c.if-count-text.true c.if-text-count-eq32.true)
