use Rattle.std.proofs.Common.{map}
use Rattle.clock_words.proofs.Lined.{line_mapped}
use Rattle.clock_words.proofs.words.command_of.Goals as goal

pub returns-clause-line : goal.returns-clause-line
returns-clause-line c = line_mapped (map (λ w. w.now) c.args.words.now) _ c.parse.result c.map_err.result c.map_err.ensures.cases c.parse.ensures.value
