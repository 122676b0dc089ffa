use Rattle.std.proofs.Common.{◌≡◌, ◌+◌, length, take, ap, arith, length-take}
use Rattle.ntp_capture.specs.Kept.{Kept}
use Rattle.ntp_capture.specs.Steps.{with_bytes}
use Rattle.ntp_capture.proofs.TurnLaws.{at-by, part_turn, read_so_far}
use Rattle.ntp_capture.proofs.capture.Capture.part.Goals as goal

pub returns-clause-turn : goal.returns-clause-turn
returns-clause-turn c text short stands =
    let old = c.args.self.now in
    let n = c.min-count.result in
    let more = c.args.more.now in
    let read : old.place + old.seen ≡ length text = read_so_far old text (at-by old text c.requires.sound stands) in
    let few = length-take n more in
    let mid : c.add.new.self ≡ with_bytes old (take n more) = c.add.ensures.bytes (omega arith) in
    let place : c.add.new.self.place ≡ old.place = ap (λ (k : Kept). k.place) mid in
    let seen : c.add.new.self.seen ≡ old.seen + length (take n more) = ap (λ (k : Kept). k.seen) mid in
    part_turn old c.add.new.self c.judge.new.self text more n c.judge.result c.requires.sound stands (omega arith) (λ inner. let field =
    c.wanted.ensures.field inner in omega arith) mid (c.judge.ensures.answer (omega arith)) (c.judge.ensures.after (omega arith))
