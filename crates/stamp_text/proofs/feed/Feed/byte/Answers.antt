use Rattle.std.proofs.Common.{ℕ, List, ◌∷◌, [], ◌++◌, ◌^◌, ◌<◌, length, IfErr, sym, subst, ◌∙◌}
use Rattle.stamp_text.specs.Kept.{StandsFor, AnswersByte, IsFaultOfAll}
use Rattle.stamp_text.proofs.FeedLaws.{step_answers, step_stands, step_again}
use Rattle.stamp_text.proofs.EndLaws.{refused_all}
use Rattle.stamp_text.proofs.RangeLaws.{GivesInRange, step-in-range}
use Rattle.stamp_text.proofs.feed.Feed.byte.Goals as goal

pub returns-clause-answer : goal.returns-clause-answer
returns-clause-answer c text short at = subst (AnswersByte text c.args.b) (sym c.step.ensures.answer) (step_answers c.args.self.now text c.args.b short at)

pub returns-clause-after : goal.returns-clause-after
returns-clause-after c text short at = subst (λ k. StandsFor k (text ++ c.args.b ∷ [])) (sym c.step.ensures.after)
    (step_stands c.args.self.now text c.args.b short at)

pub returns-clause-refused : goal.returns-clause-refused
returns-clause-refused c = subst (λ r. IfErr r (λ f. (text : List ℕ) → length text < 2 ^ 62 → StandsFor c.args.self.now text
    → IsFaultOfAll (text ++ c.args.b ∷ []) f)) (sym c.step.ensures.answer) (refused_all c.args.self.now c.args.b)

pub returns-clause-ranges : goal.returns-clause-ranges
returns-clause-ranges c = subst GivesInRange (sym c.step.ensures.answer) (step-in-range c.args.self.now c.args.b)

pub returns-clause-again : goal.returns-clause-again
returns-clause-again c fault was =
    let again = step_again c.args.self.now c.args.b fault was in
    (c.step.ensures.answer ∙ again.0, c.step.ensures.after ∙ again.1)
