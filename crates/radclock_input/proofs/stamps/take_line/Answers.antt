use Rattle.std.proofs.Common.{◌≡◌, ◌++◌, Some, take}
use Rattle.radclock_input.proofs.Stopping.{fault-stops, line-stops}
use Rattle.radclock_input.proofs.Gathering.{reads-line, line-tests, IsInputStop-weaker}
use Rattle.radclock_input.proofs.Pieces.{front-stops}
use Rattle.radclock_input.proofs.stamps.take_line.Goals as goal

pub keep-requires : goal.keep-requires
keep-requires c =
    let at = c.requires in
    let line = c.in-Ok-Some.line in
    let bytes = take c.bytes-count.result.0 c.args.more.now in
    let is : c.in-Ok-Some.field-0 ≡ Some c.in-Ok-Some.line = rw c.in-Ok-Some.is at c.in-Ok-Some.field-0-is in
    let answer = rw (c.in-Ok-Some.is, is) at c.bytes-count.ensures.answer in
    let ranged = rw (c.in-Ok-Some.is, is) at c.bytes-count.ensures.ranges in
    record {
      tests = line-tests at.limited c.args.file.now c.args.quota.now at.text (at.text ++ bytes) line at.reads.gathers
          (answer at.text at.short at.reads.stands).1 ranged;
    }

pub returns-in-Ok-clause-ok : goal.returns-in-Ok-clause-ok
returns-in-Ok-clause-ok c limited text short was =
    let line = c.in-Ok-Some.line in
    let bytes = take c.bytes-count.result.0 c.args.more.now in
    let is : c.in-Ok-Some.field-0 ≡ Some c.in-Ok-Some.line = rw c.in-Ok-Some.is at c.in-Ok-Some.field-0-is in
    let answer = rw (c.in-Ok-Some.is, is) at c.bytes-count.ensures.answer in
    let ranged = rw (c.in-Ok-Some.is, is) at c.bytes-count.ensures.ranges in
    reads-line limited _ _ _ _ _ _ text (text ++ bytes) line was (c.bytes-count.ensures.after text short was.stands) (answer text short was.stands).0
    (answer text short was.stands).1 c.in-Ok.ensures.ok ranged

pub returns-in-Err-keep-clause-err : goal.returns-in-Err-keep-clause-err
returns-in-Err-keep-clause-err c =
    let line = c.in-Ok-Some.line in
    let s = c.in-Err-keep.stop in
    let n = c.bytes-count.result.0 in
    let more = c.args.more.now in
    let is : c.in-Ok-Some.field-0 ≡ Some c.in-Ok-Some.line = rw c.in-Ok-Some.is at c.in-Ok-Some.field-0-is in
    let answer = rw (c.in-Ok-Some.is, is) at c.bytes-count.ensures.answer in
    IsInputStop-weaker s _ _ (λ passes limited text short was. front-stops limited text more n s
    (line-stops limited c.args.file.now c.args.quota.now text (text ++ take n more) line s was.gathers (answer text short was.stands).1 passes))
    c.in-Err-keep.ensures.err

pub returns-in-Err-clause-err : goal.returns-in-Err-clause-err
returns-in-Err-clause-err c limited text short was =
    let n = c.bytes-count.result.0 in
    let more = c.args.more.now in
    let answer = rw c.in-Err.is at c.bytes-count.ensures.answer in
    let found = answer text short was.stands in
    front-stops limited text more n _ (fault-stops limited c.args.file.now c.args.quota.now text (text ++ take n more) c.in-Err.fault was.gathers
    found.1 found.0)
