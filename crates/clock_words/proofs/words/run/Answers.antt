use Rattle.std.proofs.Common.{map, rules, sym, ◌∙◌}
use Rattle.clock_words.proofs.Runs.{is_run, is_no_run}
use Rattle.clock_words.proofs.words.run.Goals as goal

pub returns-in-Some-places-clause-value : goal.returns-in-Some-places-clause-value
returns-in-Some-places-clause-value c = is_run (map (λ w. w.now) c.args.words.now) c.in-Some.arguments
    (sym c.ideal_is_early.ensures ∙ c.if-ideal_is_early.false) (search rules) (c.in-Some-places.number, c.in-Some-places.count) (search rules) _ c.flag.ensures

pub returns-clause-value : goal.returns-clause-value
returns-clause-value c = is_no_run (map (λ w. w.now) c.args.words.now) c.in-Some.arguments (sym c.ideal_is_early.ensures ∙ c.if-ideal_is_early.false)
    (search rules) (search rules)
