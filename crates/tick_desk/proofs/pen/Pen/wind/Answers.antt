use Rattle.std.proofs.Common.{◌≡◌, ◌≢◌, ◌<◌, ◌≤◌, ◌+◌, ◌-◌, ◌^◌, length, ap, sym, subst, ◌∙◌, rules, arith, vec_len, vec_capacity, Ok, Err}
use Rattle.clock_lines.specs.Readings.{newest}
use Rattle.tick_desk.specs.contracts.pen.Pen.{the_view}
use Rattle.tick_desk.specs.Shows.{PenShows, room_of}
use Rattle.tick_desk.specs.Winds.{Winds}
use Rattle.tick_desk.proofs.Pens.{room-below}
use Rattle.tick_desk.proofs.Winding.{holds-tested, refused, fits_it, loaded_is, follows_newest, holds_now, wound_it}
use Rattle.tick_desk.proofs.pen.Pen.wind.Goals as goal

pub invariant_of-self : goal.invariant_of-self
invariant_of-self c = holds-tested c.self.inside.seat.view c.refusal.new.seat.view c.self.inside.ticks.items c.self.inside.top c.self.inside.out
    c.self.inside.made c.self.invariant c.newest-last.result.now c.args.o c.newest-last.ensures.value _ c.in-Some.ensures.tested

pub returns-in-Some : goal.returns-in-Some
returns-in-Some c = subst (λ (m : PenShows). Winds m (the_view record {
  seat = c.refusal.new.seat;
  ticks = c.self.inside.ticks;
  top = c.self.inside.top;
  out = c.self.inside.out;
  made = c.self.inside.made;
}) c.args.o (Err c.in-Some.why)) c.self.view_is
    (refused c.self.inside.seat.view c.refusal.new.seat.view c.self.inside.ticks.items c.self.inside.top c.self.inside.out c.self.inside.made
    c.self.invariant c.newest-last.result.now c.args.o c.newest-last.ensures.value c.self.inside.seat.table c.refusal.new.seat.table
    (room_of (vec_capacity c.self.inside.ticks) - vec_len c.self.inside.ticks) c.in-Some.why c.in-Some.ensures.tested c.in-Some.ensures.table)

pub wind-hands-requires-clause-fits : goal.wind-hands-requires-clause-fits
wind-hands-requires-clause-fits c = fits_it c.self.inside.seat.view c.refusal.new.seat.view c.self.inside.ticks.items c.self.inside.top
    c.self.inside.out c.self.inside.made c.self.invariant c.newest-last.result.now c.args.o c.newest-last.ensures.value c.in_default.ensures.tested
    c.open-count.new.seat.view c.open-count.result c.open-count.ensures.view c.open-count.ensures.learns c.requires.sane

pub publish-requires-clause-loaded : goal.publish-requires-clause-loaded
publish-requires-clause-loaded c = loaded_is c.self.inside.seat.view c.refusal.new.seat.view c.self.inside.ticks.items c.self.inside.top
    c.self.inside.out c.self.inside.made c.self.invariant c.newest-last.result.now c.args.o c.newest-last.ensures.value c.in_default.ensures.tested
    c.open-count.new.seat.view c.open-count.result c.open-count.ensures.view c.open-count.ensures.learns c.requires.sane c.wind-hands.result
    c.wind-hands.ensures.value

pub publish-requires-clause-follows : goal.publish-requires-clause-follows
publish-requires-clause-follows c = follows_newest c.self.inside.seat.view c.refusal.new.seat.view c.self.inside.ticks.items c.self.inside.top
    c.self.inside.out c.self.inside.made c.self.invariant c.newest-last.result.now c.args.o c.newest-last.ensures.value c.in_default.ensures.tested
    c.open-count.new.seat.view c.open-count.result c.open-count.ensures.view c.open-count.ensures.learns c.requires.sane c.wind-hands.result
    c.wind-hands.ensures.value

pub invariant_of-self-2 : goal.invariant_of-self-2
invariant_of-self-2 c =
    let spare : 1 ≤ room_of (vec_capacity c.self.inside.ticks) - vec_len c.self.inside.ticks = subst (λ (m : PenShows). 1 ≤ m.spare)
    (sym c.self.view_is) c.requires.spare in
    let longer : vec_len c.push_reserved.new.self ≡ vec_len c.self.inside.ticks + 1 = c.push_reserved.ensures.len in
    let low = room-below 1 _ _ spare in
    let shown : length c.push_reserved.new.self.items ≡ vec_len c.push_reserved.new.self = search rules in
    let few : length c.push_reserved.new.self.items ≤ 2 ^ 62 = omega arith in
    holds_now c.self.inside.seat.view c.refusal.new.seat.view c.self.inside.ticks.items c.self.inside.top c.self.inside.out c.self.inside.made
    c.self.invariant c.newest-last.result.now c.args.o c.newest-last.ensures.value c.in_default.ensures.tested c.open-count.new.seat.view
    c.open-count.result c.open-count.ensures.view c.open-count.ensures.learns c.requires.sane c.wind-hands.result c.wind-hands.ensures.value
    c.publish.new.seat.view c.publish.ensures.published c.push_reserved.new.self.items c.push_reserved.ensures.items few

pub returns : goal.returns
returns c =
    let longer : vec_len c.push_reserved.new.self ≡ vec_len c.self.inside.ticks + 1 = c.push_reserved.ensures.len in
    let same : vec_capacity c.push_reserved.new.self ≡ vec_capacity c.self.inside.ticks = c.push_reserved.ensures.capacity in
    let room : room_of (vec_capacity c.push_reserved.new.self) ≡ room_of (vec_capacity c.self.inside.ticks) = ap room_of same in
    let less : room_of (vec_capacity c.push_reserved.new.self) - vec_len c.push_reserved.new.self ≡ room_of
    (vec_capacity c.self.inside.ticks) - vec_len c.self.inside.ticks - 1 = omega arith in
    let number : c.len-tick.result ≡ length c.self.inside.ticks.items = search rules in
    subst (λ (m : PenShows). Winds m (the_view record {
      seat = c.publish.new.seat;
      ticks = c.push_reserved.new.self;
      top = c.self.inside.top;
      out = c.self.inside.out;
      made = c.self.inside.made;
    }) c.args.o (Ok c.len-tick.result)) c.self.view_is
    (wound_it c.self.inside.seat.view c.refusal.new.seat.view c.self.inside.ticks.items c.self.inside.top c.self.inside.out c.self.inside.made
    c.self.invariant c.newest-last.result.now c.args.o c.newest-last.ensures.value c.in_default.ensures.tested c.open-count.new.seat.view
    c.open-count.result c.open-count.ensures.view c.open-count.ensures.learns c.requires.sane c.wind-hands.result c.wind-hands.ensures.value
    c.publish.new.seat.view c.publish.ensures.published c.push_reserved.new.self.items c.push_reserved.ensures.items c.self.inside.seat.table
    c.publish.new.seat.table
    (room_of (vec_capacity c.self.inside.ticks) - vec_len c.self.inside.ticks)
    (room_of (vec_capacity c.push_reserved.new.self) - vec_len c.push_reserved.new.self) c.len-tick.result
    (c.publish.ensures.table ∙ (c.open-count.ensures.table ∙ c.in_default.ensures.table)) less number)
