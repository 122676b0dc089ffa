use Rattle.std.proofs.Common.{ap, sym, ◌∙◌, refl, arith, ◌/◌}
use Rattle.std.proofs.Common.{true, []}
use Rattle.hand_words.specs.Words.{unpack}
use Rattle.tick_reads.specs.Scans.{scan_at}
use Rattle.tick_views.specs.Views.{undecided}
use Rattle.clock_lines.specs.declared.readings.Kind.TheVariants as kind
use Rattle.tick_desk.proofs.Hands.{by_it}
use Rattle.tick_desk.proofs.Inside.{from_inside}
use Rattle.tick_laws.proofs.Deciding.{look_moved, look_open, look_newest, look_zero_read, look_down, look_sound, look_stands, look_zero_fields, zero_past, more_answers}
use Rattle.tick_desk.proofs.pass.Pass.look_newest.Goals as goal

pub returns-then-seen-tick-clause-some : goal.returns-then-seen-tick-clause-some
returns-then-seen-tick-clause-some c = let g = from_inside c.args.self.now c.self.inside.seat _ _ c.self.view_is c.look_at-seen.ensures.loads in
    look_moved _ _ c.args.count c.args.first (c.args.first / 2) c.look_at-seen.result.fields c.look_at-seen.result.mark c.requires.at g
    c.look_at-seen.ensures.long c.if-seen-tick.true

pub returns-then-first-ne0-clause-some : goal.returns-then-first-ne0-clause-some
returns-then-first-ne0-clause-some c = let g = from_inside c.args.self.now c.self.inside.seat _ _ c.self.view_is c.look_at-seen.ensures.loads in
    look_open _ _ c.args.count c.args.first (c.args.first / 2) c.look_at-seen.result.fields c.look_at-seen.result.mark c.requires.at g
    c.look_at-seen.ensures.long c.if-seen-tick.false c.unpack-hands.result c.unpack-hands.ensures c.if-hands-count.true refl c.if-first-ne0.true

pub past_newest-requires-clause-calling : goal.past_newest-requires-clause-calling
past_newest-requires-clause-calling c = let g = from_inside c.args.self.now c.self.inside.seat _ _ c.self.view_is c.look_at-seen.ensures.loads in
    c.look_at-seen.ensures.loads.calling ∙ ap (λ s. undecided s.answer)
    (look_newest _ _ c.args.count c.args.first (c.args.first / 2) c.look_at-seen.result.fields c.look_at-seen.result.mark c.requires.at g
    c.look_at-seen.ensures.long c.if-seen-tick.false c.unpack-hands.result c.unpack-hands.ensures c.if-hands-count.true refl c.if-first-ne0.false)

pub past_newest-requires-clause-at : goal.past_newest-requires-clause-at
past_newest-requires-clause-at c = let g = from_inside c.args.self.now c.self.inside.seat _ _ c.self.view_is c.look_at-seen.ensures.loads in
    let s = look_newest _ _ c.args.count c.args.first (c.args.first / 2) c.look_at-seen.result.fields c.look_at-seen.result.mark c.requires.at g
    c.look_at-seen.ensures.long c.if-seen-tick.false c.unpack-hands.result c.unpack-hands.ensures c.if-hands-count.true refl c.if-first-ne0.false in
    s ∙ ap (λ z. scan_at c.args.first (c.args.first / 2) true z.fields []) (sym s)

pub past_newest-requires-clause-hands : goal.past_newest-requires-clause-hands
past_newest-requires-clause-hands c = let g = from_inside c.args.self.now c.self.inside.seat _ _ c.self.view_is c.look_at-seen.ensures.loads in
    c.unpack-hands.ensures ∙ ap (λ z. unpack z.fields) (sym
    (look_newest _ _ c.args.count c.args.first (c.args.first / 2) c.look_at-seen.result.fields c.look_at-seen.result.mark c.requires.at g
    c.look_at-seen.ensures.long c.if-seen-tick.false c.unpack-hands.result c.unpack-hands.ensures c.if-hands-count.true refl c.if-first-ne0.false))

pub past_newest-requires-clause-stands : goal.past_newest-requires-clause-stands
past_newest-requires-clause-stands c = let g = from_inside c.args.self.now c.self.inside.seat _ _ c.self.view_is c.look_at-seen.ensures.loads in
    look_stands _ _ c.args.count c.args.first (c.args.first / 2) c.look_at-seen.result.fields c.look_at-seen.result.mark c.requires.at g
    c.look_at-seen.ensures.long (c.look_at-seen.ensures.hands c.if-seen-tick.false) c.unpack-hands.result c.unpack-hands.ensures

pub returns-then-hands-count-clause-some : goal.returns-then-hands-count-clause-some
returns-then-hands-count-clause-some c = let g = from_inside c.args.self.now c.self.inside.seat _ _ c.self.view_is c.look_at-seen.ensures.loads in
    let s = look_newest _ _ c.args.count c.args.first (c.args.first / 2) c.look_at-seen.result.fields c.look_at-seen.result.mark c.requires.at g
    c.look_at-seen.ensures.long c.if-seen-tick.false c.unpack-hands.result c.unpack-hands.ensures c.if-hands-count.true refl c.if-first-ne0.false in
    more_answers _ _ _ _ _ g (ap (λ z. z.answer) s) c.past_newest.ensures.answers

pub reading-requires-clause-sound : goal.reading-requires-clause-sound
reading-requires-clause-sound c = let g = from_inside c.args.self.now c.self.inside.seat _ _ c.self.view_is c.look_at-seen.ensures.loads in
    look_sound _ _ c.args.count c.args.first (c.args.first / 2) c.look_at-seen.result.fields c.look_at-seen.result.mark c.requires.at g
    c.look_at-seen.ensures.long (c.look_at-seen.ensures.hands c.if-seen-tick.false) c.unpack-hands.result c.unpack-hands.ensures

pub returns-then-tick-eq0-clause-some : goal.returns-then-tick-eq0-clause-some
returns-then-tick-eq0-clause-some c = let g = from_inside c.args.self.now c.self.inside.seat _ _ c.self.view_is c.look_at-seen.ensures.loads in
    look_zero_read _ _ c.args.count c.args.first (c.args.first / 2) c.look_at-seen.result.fields c.look_at-seen.result.mark c.requires.at g
    c.look_at-seen.ensures.long c.if-seen-tick.false c.unpack-hands.result c.unpack-hands.ensures c.reading.result c.reading.ensures
    c.if-hands-count.false c.if-tick-eq0.true

pub returns-then-tick-eq0-clause-by : goal.returns-then-tick-eq0-clause-by
returns-then-tick-eq0-clause-by c = let g = from_inside c.args.self.now c.self.inside.seat _ _ c.self.view_is c.look_at-seen.ensures.loads in
    by_it c.look_at-seen.new.seat.view _ _ kind.Back (c.args.first / 2) c.args.count c.reading.result
    (look_zero_fields _ _ c.args.count c.args.first (c.args.first / 2) c.look_at-seen.result.fields c.look_at-seen.result.mark c.requires.at g
    c.look_at-seen.ensures.long c.if-seen-tick.false c.unpack-hands.result c.unpack-hands.ensures c.if-hands-count.false c.if-tick-eq0.true)
    c.unpack-hands.ensures (look_stands _ _ c.args.count c.args.first (c.args.first / 2) c.look_at-seen.result.fields c.look_at-seen.result.mark
    c.requires.at g c.look_at-seen.ensures.long (c.look_at-seen.ensures.hands c.if-seen-tick.false) c.unpack-hands.result c.unpack-hands.ensures)
    (zero_past _ _ c.args.count c.args.first (c.args.first / 2) c.look_at-seen.result.fields c.look_at-seen.result.mark c.requires.at g
    c.look_at-seen.ensures.long (c.look_at-seen.ensures.hands c.if-seen-tick.false) c.unpack-hands.result c.unpack-hands.ensures c.if-tick-eq0.true)
    c.requires.most c.reading.ensures

pub returns-clause-none : goal.returns-clause-none
returns-clause-none c = λ _. let g = from_inside c.args.self.now c.self.inside.seat _ _ c.self.view_is c.look_at-seen.ensures.loads in
    look_down _ _ c.args.count c.args.first (c.args.first / 2) c.look_at-seen.result.fields c.look_at-seen.result.mark c.requires.at g
    c.look_at-seen.ensures.long c.if-seen-tick.false c.unpack-hands.result c.unpack-hands.ensures c.if-hands-count.false c.if-tick-eq0.false (λ e. omega arith)
