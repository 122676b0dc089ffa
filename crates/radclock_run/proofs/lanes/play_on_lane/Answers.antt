use Rattle.std.proofs.Common.{◌≡◌, ◌+◌, ◌-◌, ◌*◌, [], length, map, max, refl, sym, ap, ◌∙◌, subst, arith}
use Rattle.std.proofs.lemmas.List.Elements.{All-map}
use Rattle.stamp_text.specs.Accepted.{IsItemInRange}
use Rattle.stamp_text.specs.Past.{counts_of}
use Rattle.ff_estimator.specs.Events.{events_of}
use Rattle.replay_run.specs.Laps.{AreAcceptedBehind}
use Rattle.replay_run.specs.Plans.{plan_of}
use Rattle.replay_run.specs.Plays.{Played}
use Rattle.replay_run.proofs.Feeding.{accepted-behind, events-length}
use Rattle.replay_run.proofs.Steps.{steps_len}
use Rattle.radclock_input.specs.Inputs.{accepted_among}
use Rattle.radclock_run.proofs.Replaying.{are-played}
use Rattle.radclock_run.proofs.lanes.play_on_lane.Goals as goal

pub play_lane-requires-clause-items : goal.play_lane-requires-clause-items
play_lane-requires-clause-items g c κs within =
    let file = c.args.file.now in
    subst (AreAcceptedBehind file.head.freq []) (sym (c.deref-2.ensures.value ∙ c.in_ok-items.ensures))
    (accepted-behind file.head.freq (map (λ x. x.item) file.items.items) (All-map IsItemInRange (λ x. x.item) file.items.items c.requires.ranged.timed))

pub play_lane-requires-clause-room : goal.play_lane-requires-clause-room
play_lane-requires-clause-room g c κs within =
    let many = events-length c.args.file.now.head.freq c.deref-2.result.now
    ∙ ap (λ xs. length (counts_of xs)) (c.deref-2.ensures.value ∙ sym c.deref.ensures.value) ∙ sym c.count_events-events.ensures.value in
    omega (arith, many, c.max.ensures, c.in_ok-lane.ensures.input.1)

pub play_lane-requires-clause-fits : goal.play_lane-requires-clause-fits
play_lane-requires-clause-fits g c κs within =
    let many = events-length c.args.file.now.head.freq c.deref-2.result.now
    ∙ ap (λ xs. length (counts_of xs)) (c.deref-2.ensures.value ∙ sym c.deref.ensures.value) ∙ sym c.count_events-events.ensures.value in
    omega (arith, many, c.in_ok-got.ensures.capacity)

pub play_lane-requires-clause-spare : goal.play_lane-requires-clause-spare
play_lane-requires-clause-spare g c κs within =
    let freq = c.args.file.now.head.freq in
    let ticks = c.args.options.now.ticks in
    let many = events-length freq c.deref-2.result.now
    ∙ ap (λ xs. length (counts_of xs)) (c.deref-2.ensures.value ∙ sym c.deref.ensures.value) ∙ sym c.count_events-events.ensures.value in
    let steps : length (plan_of freq (events_of freq c.deref-2.result.now) ticks) ≡ c.steps_for.result =
    steps_len freq (events_of freq c.deref-2.result.now) ticks ∙ ap (λ n. 1 + n + ticks * (n - 1)) many ∙ sym c.steps_for.ensures in
    omega (arith, steps, (c.in_ok-logs.ensures.ready c.args.options.now refl).spare)

pub play_lane-requires-clause-logs : goal.play_lane-requires-clause-logs
play_lane-requires-clause-logs g c κs within = (c.in_ok-logs.ensures.ready c.args.options.now refl).logs_are

pub returns-clause-played : goal.returns-clause-played
returns-clause-played g c =
    let freq = c.args.file.now.head.freq in
    let options = c.args.options.now in
    let all = accepted_among freq [] c.args.file.now.items.items in
    are-played freq options all _ _ _ _ _ (c.in_ok-logs.ensures.ready options refl)
    (subst (λ xs. Played freq options (plan_of freq (events_of freq xs) options.ticks) c.in_ok-logs.logs.items c.play_lane.new.logs.items
    c.open.new.desk.pen c.play_lane.new.desk.pen) (c.deref-2.ensures.value ∙ c.in_ok-items.ensures) c.play_lane.ensures.played)
    c.requires.options.readers c.requires.options.reads
