use Rattle.std.proofs.Common.{arith}
use Rattle.std.proofs.lemmas.Result.{IfOk-weaker}
use Rattle.radclock_input.proofs.stamps.StampReaderIntake.end.Goals as goal

pub returns-clause-ok : goal.returns-clause-ok
returns-clause-ok c = IfOk-weaker c.end_file.result _ _ (λ file ok limited text short was. ok limited text (omega (arith, short)) was) c.end_file.ensures.ok
