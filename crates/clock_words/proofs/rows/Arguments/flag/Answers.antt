use Rattle.std.proofs.Common.{◌∙◌, ap}
use Rattle.clap.specs.Words.{found_of, rows_of}
use Rattle.clap.proofs.WalkLemmas.{one_text-rows}
use Rattle.clock_words.specs.Apps.{flag_text}
use Rattle.clock_words.specs.Rows.{value_of}
use Rattle.clock_words.proofs.Arguments.{flag_told, flag_plain, text_found}
use Rattle.clock_words.proofs.rows.Arguments.flag.Goals as goal

pub returns : goal.returns
returns c given e =
    let found = found_of c.self.inside.matches in
    flag_told given _ _ (one_text-rows found c.args.name.now ∙ text_found c.args.name.now (flag_text given) (rows_of found) c.self.invariant
    (flag_plain given) (ap (value_of c.args.name.now) c.self.view_is ∙ e))
    c.get_flag.ensures.value c.get_flag.ensures.other
