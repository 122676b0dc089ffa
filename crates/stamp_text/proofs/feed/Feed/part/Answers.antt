use Rattle.std.proofs.Common.{None, Ok, sym, ap, ◌∙◌, take, get_or, arith, inl, inr}
use Rattle.std.proofs.lemmas.Grind.{common_steps}
use Rattle.std.proofs.lemmas.List.{take_more}
use Rattle.stamp_text.specs.FeedSteps.{unless_faulty}
use Rattle.stamp_text.proofs.TurnLaws.{plain_front, whole_turn}
use Rattle.stamp_text.proofs.feed.Feed.part.Goals as goal

pub returns-then-plain-more-2-clause-in_turn : goal.returns-then-plain-more-2-clause-in_turn
returns-then-plain-more-2-clause-in_turn c =
    let plain = c.plain-plain.ensures in
    let added = plain_front c.args.self.now c.add.new.self c.args.more.now c.plain-plain.result
    (sym (ap (λ k. k.fault) c.self.view_is) ∙ c.in_default.is) plain.within plain.room plain.plain c.add.ensures in
    inl (added.silent, sym (ap (λ f. unless_faulty f (Ok None)) added.sound))

pub returns-then-more-plain-eq10-clause-in_turn : goal.returns-then-more-plain-eq10-clause-in_turn
returns-then-more-plain-eq10-clause-in_turn c =
    let plain = c.plain-plain.ensures in
    whole_turn c.args.self.now c.whole-answer.new.self c.args.more.now c.plain-plain.result c.whole-answer.result
    (sym (ap (λ k. k.fault) c.self.view_is) ∙ c.in_default.is) (grind (arith, common_steps)) c.if-plain-more.true c.if-more-plain-eq10.true
    plain.room plain.plain c.whole-answer.ensures.answer c.whole-answer.ensures.after

pub returns-clause-in_turn : goal.returns-clause-in_turn
returns-clause-in_turn c =
    let more = c.args.more.now in
    let n = c.plain-plain.result in
    let plain = c.plain-plain.ensures in
    let added = plain_front c.args.self.now c.add.new.self more n (sym (ap (λ k. k.fault) c.self.view_is) ∙ c.in_default.is) plain.within plain.room
    plain.plain c.add.ensures in
    inr (record {
      front = take n more;
      last = get_or more n 0;
      mid = c.add.new.self;
      split = take_more more n 0 (omega arith);
      silent = added.silent;
      answer = c.step-answer.ensures.answer;
      after = rw c.step-answer.ensures.answer c.step-answer.ensures.after;
    })
