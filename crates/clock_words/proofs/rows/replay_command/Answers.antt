use Rattle.std.proofs.lemmas.Result.{IfOk-weaker}
use Rattle.clock_words.proofs.Arguments.{with_one}
use Rattle.clock_words.proofs.rows.replay_command.Goals as goal

pub returns : goal.returns
returns c =
    let ticks = with_one _ _ _ _ _ c.bare_command.ensures c.option.ensures.rule c.option.ensures.local c.in_ok-arg.ensures in
    let readers = with_one _ _ _ _ _ ticks c.option-2.ensures.rule c.option-2.ensures.local c.in_ok-arg-2.ensures in
    let reads = with_one _ _ _ _ _ readers c.option-3.ensures.rule c.option-3.ensures.local c.in_ok-arg-3.ensures in
    let back = with_one _ _ _ _ _ reads c.flag.ensures.rule c.flag.ensures.local c.in_ok-arg-4.ensures in
    let crank = with_one _ _ _ _ _ back c.flag-2.ensures.rule c.flag-2.ensures.local c.in_ok-arg-5.ensures in
    let utc = with_one _ _ _ _ _ crank c.flag-3.ensures.rule c.flag-3.ensures.local c.in_ok-arg-6.ensures in
    IfOk-weaker c.arg-7.result _ _ (λ r adds. with_one _ _ _ _ _ utc c.flag-4.ensures.rule c.flag-4.ensures.local adds) c.arg-7.ensures
