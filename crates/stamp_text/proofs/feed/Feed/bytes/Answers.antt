use Rattle.std.proofs.Common.{length, arith, length-take}
use Rattle.stamp_text.proofs.TurnLaws.{turn_answers, turn_refused, turn-in-range, turn_kept}
use Rattle.stamp_text.proofs.feed.Feed.bytes.Goals as goal

pub returns-clause-answer : goal.returns-clause-answer
returns-clause-answer c text short at =
    let n = c.take.result.0 in
    (turn_answers c.args.self.now c.take.new.self _ _ text (omega (arith, length-take n c.args.more.now)) at c.take.ensures.in_turn).answer

pub returns-clause-after : goal.returns-clause-after
returns-clause-after c text short at =
    let n = c.take.result.0 in
    (turn_answers c.args.self.now c.take.new.self _ _ text (omega (arith, length-take n c.args.more.now)) at c.take.ensures.in_turn).stands

pub returns-clause-refused : goal.returns-clause-refused
returns-clause-refused c =
    let n = c.take.result.0 in
    turn_refused c.args.self.now c.take.new.self _ _ (length c.args.more.now) (omega (arith, length-take n c.args.more.now)) c.take.ensures.in_turn

pub returns-clause-ranges : goal.returns-clause-ranges
returns-clause-ranges c = turn-in-range c.args.self.now c.take.new.self _ _ c.take.ensures.in_turn

pub returns-clause-kept : goal.returns-clause-kept
returns-clause-kept c = turn_kept c.args.self.now c.take.new.self _ _ c.take.ensures.in_turn
