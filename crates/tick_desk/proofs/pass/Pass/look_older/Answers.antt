use Rattle.std.proofs.Common.{arith, ◌<◌, ◌≢◌, ◌/◌}
use Rattle.clock_lines.specs.declared.readings.Kind.TheVariants as kind
use Rattle.tick_desk.proofs.Hands.{by_it}
use Rattle.tick_desk.proofs.Inside.{from_inside}
use Rattle.tick_laws.proofs.Deciding.{look_moved, look_older_read, look_older_fields, look_zero_read, look_zero_fields, look_old, look_down, look_sound, look_stands, zero_past}
use Rattle.tick_desk.proofs.pass.Pass.look_older.Goals.{then-hands-count-via-then-hands-count, then-hands-count-via-else-hands-count+then-tick-eq0}
use Rattle.tick_desk.proofs.pass.Pass.look_older.Goals as goal

pub returns-then-seen-tick-clause-some : goal.returns-then-seen-tick-clause-some
returns-then-seen-tick-clause-some c = let g = from_inside c.args.self.now c.self.inside.seat _ _ c.self.view_is c.look_at-seen.ensures.loads in
    look_moved _ _ c.args.count c.args.first c.args.tick c.look_at-seen.result.fields c.look_at-seen.result.mark c.requires.at g
    c.look_at-seen.ensures.long c.if-seen-tick.true

pub reading-requires-clause-sound : goal.reading-requires-clause-sound
reading-requires-clause-sound c = let g = from_inside c.args.self.now c.self.inside.seat _ _ c.self.view_is c.look_at-seen.ensures.loads in
    look_sound _ _ c.args.count c.args.first c.args.tick c.look_at-seen.result.fields c.look_at-seen.result.mark c.requires.at g
    c.look_at-seen.ensures.long (c.look_at-seen.ensures.hands c.if-seen-tick.false) c.unpack-hands.result c.unpack-hands.ensures

pub returns-then-hands-count-clause-some : goal.returns-then-hands-count-clause-some
returns-then-hands-count-clause-some c = let g = from_inside c.args.self.now c.self.inside.seat _ _ c.self.view_is c.look_at-seen.ensures.loads in
    let older : c.args.tick ≢ c.args.first / 2 = λ e. let less : c.args.tick < c.args.first / 2 = c.requires.older in omega arith in
    elim c.then-hands-count.branch [
      | then-hands-count-via-then-hands-count w ↦ look_older_read _ _ c.args.count c.args.first c.args.tick c.look_at-seen.result.fields
          c.look_at-seen.result.mark c.requires.at g c.look_at-seen.ensures.long c.if-seen-tick.false c.unpack-hands.result c.unpack-hands.ensures
          c.reading.result c.reading.ensures w.if-hands-count.true older
      | then-hands-count-via-else-hands-count+then-tick-eq0 w ↦ look_zero_read _ _ c.args.count c.args.first c.args.tick c.look_at-seen.result.fields
          c.look_at-seen.result.mark c.requires.at g c.look_at-seen.ensures.long c.if-seen-tick.false c.unpack-hands.result c.unpack-hands.ensures
          c.reading.result c.reading.ensures w.if-hands-count.false w.if-tick-eq0.true
    ]

pub returns-then-hands-count-clause-by : goal.returns-then-hands-count-clause-by
returns-then-hands-count-clause-by c = let g = from_inside c.args.self.now c.self.inside.seat _ _ c.self.view_is c.look_at-seen.ensures.loads in
    let older : c.args.tick ≢ c.args.first / 2 = λ e. let less : c.args.tick < c.args.first / 2 = c.requires.older in omega arith in
    elim c.then-hands-count.branch [
      | then-hands-count-via-then-hands-count w ↦ by_it c.look_at-seen.new.seat.view _ _ kind.Back c.args.tick c.args.count c.reading.result
          (look_older_fields _ _ c.args.count c.args.first c.args.tick c.look_at-seen.result.fields c.look_at-seen.result.mark c.requires.at g
          c.look_at-seen.ensures.long c.if-seen-tick.false c.unpack-hands.result c.unpack-hands.ensures w.if-hands-count.true older)
          c.unpack-hands.ensures (look_stands _ _ c.args.count c.args.first c.args.tick c.look_at-seen.result.fields c.look_at-seen.result.mark
          c.requires.at g c.look_at-seen.ensures.long (c.look_at-seen.ensures.hands c.if-seen-tick.false) c.unpack-hands.result c.unpack-hands.ensures)
          (omega (arith, w.if-hands-count.true)) c.requires.most c.reading.ensures
      | then-hands-count-via-else-hands-count+then-tick-eq0 w ↦ by_it c.look_at-seen.new.seat.view _ _ kind.Back c.args.tick c.args.count
          c.reading.result (look_zero_fields _ _ c.args.count c.args.first c.args.tick c.look_at-seen.result.fields c.look_at-seen.result.mark
          c.requires.at g c.look_at-seen.ensures.long c.if-seen-tick.false c.unpack-hands.result c.unpack-hands.ensures w.if-hands-count.false
          w.if-tick-eq0.true) c.unpack-hands.ensures (look_stands _ _ c.args.count c.args.first c.args.tick c.look_at-seen.result.fields
          c.look_at-seen.result.mark c.requires.at g c.look_at-seen.ensures.long (c.look_at-seen.ensures.hands c.if-seen-tick.false)
          c.unpack-hands.result c.unpack-hands.ensures) (zero_past _ _ c.args.count c.args.first c.args.tick c.look_at-seen.result.fields
          c.look_at-seen.result.mark c.requires.at g c.look_at-seen.ensures.long (c.look_at-seen.ensures.hands c.if-seen-tick.false)
          c.unpack-hands.result c.unpack-hands.ensures w.if-tick-eq0.true) c.requires.most c.reading.ensures
    ]

pub returns-then-tick-first-clause-some : goal.returns-then-tick-first-clause-some
returns-then-tick-first-clause-some c = let g = from_inside c.args.self.now c.self.inside.seat _ _ c.self.view_is c.look_at-seen.ensures.loads in
    look_old _ _ c.args.count c.args.first c.args.tick c.look_at-seen.result.fields c.look_at-seen.result.mark c.requires.at g
    c.look_at-seen.ensures.long c.if-seen-tick.false c.unpack-hands.result c.unpack-hands.ensures c.if-hands-count.false c.if-tick-eq0.false
    c.if-tick-first.true

pub returns-clause-none : goal.returns-clause-none
returns-clause-none c = λ _. let g = from_inside c.args.self.now c.self.inside.seat _ _ c.self.view_is c.look_at-seen.ensures.loads in
    look_down _ _ c.args.count c.args.first c.args.tick c.look_at-seen.result.fields c.look_at-seen.result.mark c.requires.at g
    c.look_at-seen.ensures.long c.if-seen-tick.false c.unpack-hands.result c.unpack-hands.ensures c.if-hands-count.false c.if-tick-eq0.false
    c.if-tick-first.false
