use Rattle.std.proofs.lemmas.Result.{IfOk-weaker}
use Rattle.clock_words.proofs.Arguments.{with_one}
use Rattle.clock_words.proofs.rows.run_command.Goals as goal

pub returns : goal.returns
returns c = IfOk-weaker c.arg.result _ _ (λ r adds. with_one _ _ _ _ _ c.in_ok-make_command.ensures c.flag.ensures.rule c.flag.ensures.local adds) c.arg.ensures
