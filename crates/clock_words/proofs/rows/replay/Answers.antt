use Rattle.std.proofs.Common.{map}
use Rattle.clock_words.proofs.Arguments.{replay_is}
use Rattle.clock_words.proofs.Takes.{parsed_as, valued_as}
use Rattle.clock_words.proofs.rows.replay.Goals as goal

pub parse-requires-clause-valued : goal.parse-requires-clause-valued
parse-requires-clause-valued c = valued_as _ _ replay_is _ c.in_ok-replay_command.ensures

pub returns-clause-arguments : goal.returns-clause-arguments
returns-clause-arguments c = parsed_as _ _ replay_is _ c.in_ok-replay_command.ensures (map (λ w. w.now) c.args.words.now) c.parse.result
    c.parse.ensures.arguments
