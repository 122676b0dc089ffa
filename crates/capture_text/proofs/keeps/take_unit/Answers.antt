use Rattle.std.proofs.Common.{◌≡◌, ◌++◌, Some, take, drop, sym, ap, subst, ◌∙◌, arith}
use Rattle.ntp_capture.specs.Grammar.{given}
use Rattle.capture_text.specs.Inputs.{stop_within}
use Rattle.capture_text.specs.Readings.{PassesLimit}
use Rattle.capture_text.proofs.Pieces.{stop-weaker}
use Rattle.capture_text.proofs.StopLaws.{limit-stops, fault-stops, front-and-rest}
use Rattle.capture_text.proofs.keeps.take_unit.Goals as goal

pub returns-in-Err-keep-clause-err : goal.returns-in-Err-keep-clause-err
returns-in-Err-keep-clause-err c =
    let s = c.in-Err-keep.stop in
    let n = c.bytes-count.result.0 in
    let more = c.args.more.now in
    let is : c.in-Ok-Some.field-0 ≡ Some c.in-Ok-Some.piece = rw c.in-Ok-Some.is at c.in-Ok-Some.field-0-is in
    let answer = rw (c.in-Ok-Some.is, is) at c.bytes-count.ensures.answer in
    stop-weaker s _ _ (λ passes text short was.
    ap stop_within (sym (front-and-rest text more n))
    ∙ limit-stops (text ++ take n more) (drop n more) s (subst (PassesLimit s) (sym (answer text short was.stands).1) (passes (given text) (omega (arith, was.few)) was.gathers)))
    c.in-Err-keep.ensures.err

pub returns-in-Err-clause-err : goal.returns-in-Err-clause-err
returns-in-Err-clause-err c text short was =
    let n = c.bytes-count.result.0 in
    let more = c.args.more.now in
    let answer = rw c.in-Err.is at c.bytes-count.ensures.answer in
    let found = answer text short was.stands in
    ap stop_within (sym (front-and-rest text more n)) ∙ fault-stops c.args.file.now c.args.matcher.now text (take n more) (drop n more) c.in-Err.fault was.gathers found.0 found.1
