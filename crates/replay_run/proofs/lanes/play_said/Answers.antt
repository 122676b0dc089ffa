use Rattle.std.proofs.Common.{◌≡◌, ◌++◌, length, None, refl, sym, ap, subst, ◌∙◌, arith}
use Rattle.ff_estimator.specs.Events.{AreInTurn, events_of}
use Rattle.est_lane.specs.Lanes.{received_by, known_to}
use Rattle.replay_run.specs.Plans.{plan_of}
use Rattle.replay_run.proofs.Feeding.{events-length, events-turn}
use Rattle.replay_run.proofs.Going.{never-stops, plan-room, rest-room, plan-driven, ran-have}
use Rattle.replay_run.proofs.Leaving.{rested, played}
use Rattle.replay_run.proofs.lanes.play_said.Goals as goal

pub say_beside-stopped-requires-clause-spare : goal.say_beside-stopped-requires-clause-spare
say_beside-stopped-requires-clause-spare g c κs within =
    let events = events_of c.args.freq c.args.items.now in
    let many : c.count_events-most.result ≡ length events = c.count_events-most.ensures.value ∙ sym (events-length c.args.freq c.args.items.now) in
    plan-room c.args.freq c.args.options.ticks c.count_events-most.result events c.args.pen.now.spare many c.requires.spare

pub say_beside-stopped-requires-clause-room : goal.say_beside-stopped-requires-clause-room
say_beside-stopped-requires-clause-room g c κs within =
    omega (arith, c.count_events-most.ensures.value, events-length c.args.freq c.args.items.now, c.requires.fits)

-- both ends have met, and what was received and is known is all
pub unreachable-requires : goal.unreachable-requires
unreachable-requires g c =
    let stop = c.say_beside-stopped.ensures.stops c.if-stopped.true in
    let whole = c.meet.ensures.known ∙ c.meet.ensures.sent ∙ c.say_beside-stopped.ensures.sent in
    never-stops c.args.freq c.say_beside-stopped.new.got.items (received_by c.meet.new.self) (known_to c.meet.new.self)
    (events_of c.args.freq c.args.items.now) stop.0 (events-turn c.args.freq c.args.items.now c.requires.low c.requires.items) whole
    (c.meet.ensures.received ∙ stop.1) stop.2

pub drive_rest-requires-clause-many : goal.drive_rest-requires-clause-many
drive_rest-requires-clause-many g c κs within =
    let whole = c.meet.ensures.known ∙ c.meet.ensures.sent ∙ c.say_beside-stopped.ensures.sent in
    ap length whole ∙ events-length c.args.freq c.args.items.now ∙ sym c.count_events-most.ensures.value

pub drive_rest-requires-clause-turn : goal.drive_rest-requires-clause-turn
drive_rest-requires-clause-turn g c κs within =
    let whole = c.meet.ensures.known ∙ c.meet.ensures.sent ∙ c.say_beside-stopped.ensures.sent in
    subst (AreInTurn c.args.freq) (sym whole) (events-turn c.args.freq c.args.items.now c.requires.low c.requires.items)

pub drive_rest-requires-clause-spare : goal.drive_rest-requires-clause-spare
drive_rest-requires-clause-spare g c κs within =
    let events = events_of c.args.freq c.args.items.now in
    let many : c.count_events-most.result ≡ length events = c.count_events-most.ensures.value ∙ sym (events-length c.args.freq c.args.items.now) in
    rest-room c.args.freq c.args.options.ticks c.count_events-most.result c.say_beside-stopped.new.got.items events c.args.pen.now
    c.say_beside-stopped.new.pen many c.requires.spare c.say_beside-stopped.ensures.winds

-- the whole plan was driven
pub take_all-requires : goal.take_all-requires
take_all-requires g c =
    let whole = c.meet.ensures.known ∙ c.meet.ensures.sent ∙ c.say_beside-stopped.ensures.sent in
    let driven = plan-driven c.args.freq c.args.options.ticks c.drive_rest.new.got.items (events_of c.args.freq c.args.items.now) c.args.pen.now
    c.drive_rest.new.pen c.requires.low (events-turn c.args.freq c.args.items.now c.requires.low c.requires.items) (c.drive_rest.ensures.got ∙ whole)
    c.requires.journal c.requires.top c.requires.spare (c.drive_rest.ensures.winds c.args.pen.now c.say_beside-stopped.ensures.winds) in
    ran-have c.args.freq c.args.options c.args.pen.now.table c.drive_rest.new.pen.table c.args.logs.now c.say_beside-stopped.new.logs driven.table
    c.say_beside-stopped.auto.logs c.requires.logs c.say_beside-stopped.ensures.logs

pub returns-clause-played : goal.returns-clause-played
returns-clause-played g c =
    let whole = c.meet.ensures.known ∙ c.meet.ensures.sent ∙ c.say_beside-stopped.ensures.sent in
    let driven = plan-driven c.args.freq c.args.options.ticks c.drive_rest.new.got.items (events_of c.args.freq c.args.items.now) c.args.pen.now
    c.drive_rest.new.pen c.requires.low (events-turn c.args.freq c.args.items.now c.requires.low c.requires.items) (c.drive_rest.ensures.got ∙ whole)
    c.requires.journal c.requires.top c.requires.spare (c.drive_rest.ensures.winds c.args.pen.now c.say_beside-stopped.ensures.winds) in
    let steps = plan_of c.args.freq (events_of c.args.freq c.args.items.now) c.args.options.ticks in
    let back = rested steps c.args.options.crank c.args.pen.now c.args.pen.now c.drive_rest.new.pen c.drive_rest.new.pen None None c.requires.still
    (c.requires.alone, refl) refl driven refl in
    played c.args.freq c.args.options steps c.args.logs.now c.say_beside-stopped.new.logs c.take_all.new.logs c.args.pen.now c.drive_rest.new.pen
    c.take_all.new.pen c.requires.logs.numbered c.say_beside-stopped.auto.logs (omega (arith, c.take_all.auto.logs, c.say_beside-stopped.auto.logs))
    c.say_beside-stopped.ensures.logs back c.take_all.ensures
