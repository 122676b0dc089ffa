use Rattle.std.proofs.Common.{◌∙◌, sym, subst, arith, append-nil}
use Rattle.stamp_text.specs.Grammar.{given}
use Rattle.radclock_input.specs.Readings.{Gathers}
use Rattle.radclock_input.proofs.Stopping.{end-stops, last-stops}
use Rattle.radclock_input.proofs.Gathering.{file-whole, gathers-last, last-tests, IsInputStop-weaker}
use Rattle.radclock_input.proofs.stamps.end_file.Goals as goal

pub keep-requires : goal.keep-requires
keep-requires c =
    let at = c.requires in
    let answer = (rw c.in-Ok-Some.field-0-is at c.in-Ok-Some.ensures.answer) at.text (omega (arith, at.short)) at.reads.stands in
    let ranged = rw c.in-Ok-Some.field-0-is at c.in-Ok-Some.ensures.ranges in
    record { tests = last-tests at.limited c.args.file c.args.quota at.text c.in-Ok-Some.line at.reads.gathers answer.1 ranged }

pub returns-in-Ok-None-clause-ok : goal.returns-in-Ok-None-clause-ok
returns-in-Ok-None-clause-ok c limited text short was =
    let answer = (rw c.in-Ok-None.field-0-is at c.in-Ok-None.ensures.answer) text (omega arith) was.stands in
    file-whole limited c.args.file c.args.quota text answer.0
    (subst (Gathers limited c.args.file c.args.quota) (sym (answer.1 ∙ append-nil (given text))) was.gathers)

pub returns-in-Ok-clause-ok : goal.returns-in-Ok-clause-ok
returns-in-Ok-clause-ok c limited text short was =
    let answer = (rw c.in-Ok-Some.field-0-is at c.in-Ok-Some.ensures.answer) text (omega arith) was.stands in
    let ranged = rw c.in-Ok-Some.field-0-is at c.in-Ok-Some.ensures.ranges in
    file-whole limited c.keep.new.file c.keep.new.quota text answer.0
    (gathers-last limited c.args.file c.keep.new.file c.args.quota c.keep.new.quota text c.in-Ok-Some.line was.gathers c.in-Ok.ensures.ok answer.1 ranged)

pub returns-in-Err-keep-clause-err : goal.returns-in-Err-keep-clause-err
returns-in-Err-keep-clause-err c =
    let answer = rw c.in-Ok-Some.field-0-is at c.in-Ok-Some.ensures.answer in
    IsInputStop-weaker c.in-Err-keep.stop _ _ (λ passes limited text short was. last-stops limited c.args.file c.args.quota text c.in-Ok-Some.line
    c.in-Err-keep.stop was.gathers (answer text (omega arith) was.stands).1 passes) c.in-Err-keep.ensures.err

pub returns-in-Err-clause-err : goal.returns-in-Err-clause-err
returns-in-Err-clause-err c limited text short was = end-stops limited c.args.file c.args.quota text c.in-Err.fault was.gathers
    (c.in-Err.ensures.answer text (omega arith) was.stands)
