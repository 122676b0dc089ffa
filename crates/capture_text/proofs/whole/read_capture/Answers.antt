use Rattle.std.proofs.Common.{[], arith}
use Rattle.capture_text.proofs.Pieces.{stop-weaker}
use Rattle.capture_text.proofs.StopLaws.{within-stops}
use Rattle.capture_text.proofs.whole.read_capture.Goals as goal

pub returns-in-Err-clause-err : goal.returns-in-Err-clause-err
returns-in-Err-clause-err c =
    let text = c.args.text.now in
    let s = c.in-Err.stop in
    stop-weaker s _ _ (λ stops short. within-stops text s (stops [] (omega arith) (c.new-file.ensures _ _ c.new-capture.ensures c.new-matcher.ensures))) c.in-Err.ensures.err
