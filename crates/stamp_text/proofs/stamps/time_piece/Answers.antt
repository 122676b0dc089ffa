use Rattle.std.proofs.Common.{◌≡◌, ◌+◌, ◌-◌, take, drop, length, get_or, sym, subst, arith}
use Rattle.stamp_text.specs.Pieces.{IsTimePiece}
use Rattle.stamp_text.proofs.PieceLaws.{time_first, nanos_ahead, rest_of}
use Rattle.stamp_text.proofs.stamps.time_piece.Goals as goal

pub returns-clause-piece : goal.returns-clause-piece
returns-clause-piece c =
    let text = c.args.text.now in
    let n = c.in_ok-sec.count in
    let m = c.in_ok-value.digits in
    let rest = take (length text - (n + 1)) (drop (n + 1) text) in
    let ahead = c.in_ok-value.ensures in
    let point : get_or text n 0 ≡ 46 = omega (arith, c.if-text-count-ne46.false) in
    let space : get_or rest m 0 ≡ 32 = omega (arith, c.if-rest-digits-ne32.false) in
    let told = nanos_ahead rest m c.in_ok-value.value c.filled-nanos.result (omega (arith, c.if-digits-eq0.false)) c.if-digits-gt-NANO_DIGITS.false
    ahead.within ahead.digits ahead.value c.filled-nanos.ensures.value in
    subst (IsTimePiece text _) (sym (rest_of rest (m + 1))) (time_first text rest n m c.in_ok-sec.sec c.filled-nanos.result (rest_of text (n + 1))
    c.in_ok-sec.ensures c.if-count-text.false point c.if-digits-gt-NANO_DIGITS.false c.if-digits-rest.false ahead.digits told space)
