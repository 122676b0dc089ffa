use Rattle.std.proofs.Common.{◌+◌, ◌<◌, ◌^◌, length, take, subst, arith, length-take}
use Rattle.std.proofs.lemmas.List.{take-take}
use Rattle.ntp_capture.specs.Kept.{StandsFor, AreSilent}
use Rattle.ntp_capture.proofs.TurnLaws.{refused_by}
use Rattle.ntp_capture.proofs.capture.Capture.bytes.Goals as goal

pub returns-clause-in_turn : goal.returns-clause-in_turn
returns-clause-in_turn c text short stands n below =
    let all = c.take.result.0 in
    let more = c.args.more.now in
    subst (AreSilent text) (take-take n all more (omega arith)) ((c.take.ensures.turn text (omega arith) stands).silent n (omega (arith, length-take all more)))

pub returns-clause-refused : goal.returns-clause-refused
returns-clause-refused c = refused_by (λ text. length text + length c.args.more.now < 2 ^ 62) (StandsFor c.args.self.now)
    (take c.take.result.0 c.args.more.now) c.take.result.1 (λ text short stands. (c.take.ensures.turn text (omega arith) stands).answer)
