use Rattle.std.proofs.Common.{None, Some, sym, subst}
use Rattle.std.specs.List.{All}
use Rattle.capture_text.specs.Inputs.{IsAnswerTimed}
use Rattle.capture_text.proofs.StopLaws.{end-stops}
use Rattle.capture_text.proofs.keeps.end_capture.Goals as goal

pub returns-in-Ok-clause-ok : goal.returns-in-Ok-clause-ok
returns-in-Ok-clause-ok c text short reads =
    let answer = rw c.in-Ok.is at c.end.ensures.answer in
    record { sound = end-stops c.args.file c.args.matcher text None reads.gathers (answer text short reads.stands); freq = reads.gathers.freq; answers = reads.gathers.answers; timed = subst (All IsAnswerTimed) (sym reads.gathers.answers) reads.gathers.timed }

pub returns-in-Err-clause-err : goal.returns-in-Err-clause-err
returns-in-Err-clause-err c text short reads =
    let answer = rw c.in-Err.is at c.end.ensures.answer in
    end-stops c.args.file c.args.matcher text (Some c.in-Err.first) reads.gathers (answer text short reads.stands)
