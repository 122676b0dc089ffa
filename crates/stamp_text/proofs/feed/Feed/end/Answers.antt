use Rattle.std.proofs.Common.{sym, subst, ◌∙◌}
use Rattle.stamp_text.specs.Kept.{AnswersEnd}
use Rattle.stamp_text.proofs.EndLaws.{last_answers, last_again}
use Rattle.stamp_text.proofs.RangeLaws.{GivesInRange, last-in-range}
use Rattle.stamp_text.proofs.feed.Feed.end.Goals as goal

pub returns-clause-answer : goal.returns-clause-answer
returns-clause-answer c text short at = subst (AnswersEnd text) (sym c.last.ensures) (last_answers c.args.self text short at)

pub returns-clause-ranges : goal.returns-clause-ranges
returns-clause-ranges c = subst GivesInRange (sym c.last.ensures) (last-in-range c.args.self)

pub returns-clause-again : goal.returns-clause-again
returns-clause-again c fault was = c.last.ensures ∙ last_again c.args.self fault was
