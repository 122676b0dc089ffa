use Rattle.std.proofs.Common.{[], ◌∷◌, ◌<◌, ◌^◌, length, arith}
use Rattle.ntp_capture.specs.Kept.{StandsFor}
use Rattle.ntp_capture.proofs.TurnLaws.{byte_turn, refused_by}
use Rattle.ntp_capture.proofs.capture.Capture.byte.Goals as goal

pub returns-clause-answer : goal.returns-clause-answer
returns-clause-answer c text short stands =
    (byte_turn c.args.self.now c.take.new.self text c.args.b c.take.result.0 c.take.result.1 stands c.take.ensures.within
    (λ none. c.take.ensures.sound none (omega arith)) c.take.ensures.again (c.take.ensures.turn text (omega arith) stands)).answers

pub returns-clause-after : goal.returns-clause-after
returns-clause-after c text short stands =
    (byte_turn c.args.self.now c.take.new.self text c.args.b c.take.result.0 c.take.result.1 stands c.take.ensures.within
    (λ none. c.take.ensures.sound none (omega arith)) c.take.ensures.again (c.take.ensures.turn text (omega arith) stands)).stands

pub returns-clause-refused : goal.returns-clause-refused
returns-clause-refused c = refused_by (λ text. length text < 2 ^ 62) (StandsFor c.args.self.now) (c.args.b ∷ []) c.take.result.1 (returns-clause-answer c)
