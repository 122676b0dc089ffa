use Rattle.ntp_capture.proofs.MatchLaws.{given-one}
use Rattle.ntp_capture.proofs.matches.Matcher.give.Goals as goal

pub returns-clause-answer : goal.returns-clause-answer
returns-clause-answer c records stands = (given-one c.args.self.now c.gives.new.self records c.args.r.now c.gives.result stands c.gives.ensures.answer
    c.gives.ensures.after).0

pub returns-clause-after : goal.returns-clause-after
returns-clause-after c records stands = (given-one c.args.self.now c.gives.new.self records c.args.r.now c.gives.result stands c.gives.ensures.answer
    c.gives.ensures.after).1
