use Rattle.std.proofs.Common.{◌≡◌, ◌+◌, ◌*◌, ◌/◌, ◌≤◌, ap, sym, ◌∙◌, subst, arith}
use Rattle.clock_lines.specs.Readings.{reading_at}
use Rattle.tick_desk.specs.Answers.{IsLateBy}
use Rattle.tick_desk.specs.declared.reads.Answer.TheVariants.{Again}
use Rattle.tick_desk.proofs.Hands.{by_it}
use Rattle.tick_desk.proofs.Inside.{from_inside}
use Rattle.tick_laws.proofs.Reading.{light_again, light_read, light_sound, light_fields, light_stands}
use Rattle.tick_desk.proofs.pass.Pass.finish_quick.Goals as goal

pub returns-then-seen-tick-clause-answers : goal.returns-then-seen-tick-clause-answers
returns-then-seen-tick-clause-answers c = let g = from_inside c.args.self.now c.self.inside.seat _ _ c.self.view_is c.look_at-seen.ensures.loads in
    light_again _ _ c.args.ask c.args.first c.look_at-seen.result.fields c.look_at-seen.result.mark c.requires.way c.requires.at g
    c.look_at-seen.ensures.long c.if-seen-tick.true

pub returns-then-seen-tick-clause-late : goal.returns-then-seen-tick-clause-late
returns-then-seen-tick-clause-late c = let later = c.look_at-seen.ensures.later c.if-seen-tick.true in
    let late : 2 * (c.args.first / 2) + 2 + 19 ≤ c.look_at-seen.result.mark = omega (arith, later) in
    subst (λ y. IsLateBy y (Again (2 * (c.args.first / 2) + 2) c.look_at-seen.result.mark)) (sym c.requires.way) late

pub quick_count-count-requires-clause-sound : goal.quick_count-count-requires-clause-sound
quick_count-count-requires-clause-sound c = let g = from_inside c.args.self.now c.self.inside.seat _ _ c.self.view_is c.look_at-seen.ensures.loads in
    light_sound _ _ c.args.ask c.args.first c.look_at-seen.result.fields c.look_at-seen.result.mark c.requires.way c.requires.at g
    c.look_at-seen.ensures.long (c.look_at-seen.ensures.hands c.if-seen-tick.false) c.unpack-hands.result c.unpack-hands.ensures

pub reading-requires-clause-sound : goal.reading-requires-clause-sound
reading-requires-clause-sound c = let g = from_inside c.args.self.now c.self.inside.seat _ _ c.self.view_is c.look_at-seen.ensures.loads in
    light_sound _ _ c.args.ask c.args.first c.look_at-seen.result.fields c.look_at-seen.result.mark c.requires.way c.requires.at g
    c.look_at-seen.ensures.long (c.look_at-seen.ensures.hands c.if-seen-tick.false) c.unpack-hands.result c.unpack-hands.ensures

pub returns-clause-answers : goal.returns-clause-answers
returns-clause-answers c = let g = from_inside c.args.self.now c.self.inside.seat _ _ c.self.view_is c.look_at-seen.ensures.loads in
    light_read _ _ c.args.ask c.args.first c.look_at-seen.result.fields c.look_at-seen.result.mark c.requires.way c.requires.at g
    c.look_at-seen.ensures.long c.if-seen-tick.false c.unpack-hands.result c.unpack-hands.ensures c.reading.result
    (c.reading.ensures ∙ ap (reading_at c.unpack-hands.result (c.args.first / 2) c.args.ask.kind) c.quick_count-count.ensures.value)

pub returns-clause-by : goal.returns-clause-by
returns-clause-by c = let g = from_inside c.args.self.now c.self.inside.seat _ _ c.self.view_is c.look_at-seen.ensures.loads in
    by_it c.look_at-seen.new.seat.view _ _ c.args.ask.kind (c.args.first / 2) c.quick_count-count.result c.reading.result
    (light_fields _ _ c.args.ask c.args.first c.look_at-seen.result.fields c.look_at-seen.result.mark c.requires.way c.requires.at g
    c.look_at-seen.ensures.long) c.unpack-hands.ensures (light_stands _ _ c.args.ask c.args.first c.look_at-seen.result.fields
    c.look_at-seen.result.mark c.requires.way c.requires.at g c.look_at-seen.ensures.long (c.look_at-seen.ensures.hands c.if-seen-tick.false)
    c.unpack-hands.result c.unpack-hands.ensures) c.quick_count-count.ensures.place c.quick_count-count.ensures.most c.reading.ensures
