use Rattle.std.proofs.Common.{take, true, false, refl, arith}
use Rattle.clock_lines.specs.declared.readings.Entry.{Entry}
use Rattle.clock_logs.specs.Attempts.{AnswersNext, kinds_of}
use Rattle.clock_logs.specs.Samples.{six}
use Rattle.clock_logs.proofs.Samples.{each_at}
use Rattle.clock_logs.proofs.refusals.attempts_are_all.Goals as goal

pub returns-clause-other : goal.returns-clause-other
returns-clause-other c is = (let answers = is.each 0 _ refl in grind arith)

pub returns-clause-six : goal.returns-clause-six
returns-clause-six c = record {
  many = refl;
  each = each_at (λ k (e : Entry). AnswersNext 1000 (kinds_of true false) (take k six) k e) six
      ((refl, tt), (refl, ((refl, tt), ((refl, tt), ((refl, refl), ((refl, refl), tt))))));
}
