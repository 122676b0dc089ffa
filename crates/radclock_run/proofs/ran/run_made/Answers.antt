use Rattle.std.proofs.Common.{List, ◌<◌, length, sym, ap, ◌∙◌, subst, inl, arith}
use Rattle.stamp_text.specs.Accepted.{AreAccepted}
use Rattle.stamp_maker.specs.Worlds.{frequency}
use Rattle.stamp_text.proofs.PlainItems.{stamps-back}
use Rattle.ff_hands.specs.declared.hands.Hands.{Hands}
use Rattle.radclock_run.specs.Replays.{run_options, run_items, run_stamps, IsTold}
use Rattle.radclock_run.specs.Plays.{entries_in}
use Rattle.radclock_run.proofs.Making.{has-ticks, many-fulls}
use Rattle.radclock_run.proofs.Replaying.{plan-played, replay-left, replay-printed}
use Rattle.radclock_run.proofs.ran.run_made.Goals as goal

pub farthest_told-told-requires-clause-many : goal.farthest_told-told-requires-clause-many
farthest_told-told-requires-clause-many g c =
    let ready = c.in-Ok.ready in
    let played = plan-played frequency run_options (run_items c.args.asked.now) ready.plan ready.logs.items c.play.new.logs.items _ _
    c.in-Ok.ensures.plan c.play.ensures.played in
    let left_so = replay-left frequency run_options (run_items c.args.asked.now) _ ready.logs.items c.play.new.logs.items _ _
    c.in-Ok.ensures.ready played in
    subst (λ (ticks : List Hands). 2 < length ticks) (sym c.journal.ensures.value) (has-ticks c.args.asked.now _ c.requires.asked.1 left_so)

pub tell-requires-clause-some : goal.tell-requires-clause-some
tell-requires-clause-some g c =
    let many = ap length (c.deref.ensures.value ∙ c.in-Ok.ensures.fulls) ∙ many-fulls c.args.asked.now in
    omega (arith, many, c.requires.asked.1)

pub tell-requires-clause-entries : goal.tell-requires-clause-entries
tell-requires-clause-entries g c =
    let ready = c.in-Ok.ready in
    let played = plan-played frequency run_options (run_items c.args.asked.now) ready.plan ready.logs.items c.play.new.logs.items _ _
    c.in-Ok.ensures.plan c.play.ensures.played in
    let printed = replay-printed frequency run_options (run_items c.args.asked.now) _ ready.logs.items c.play.new.logs.items _ _
    c.in-Ok.ensures.ready played (omega arith) (omega arith) in
    sym (printed.entries ∙ ap entries_in printed.same)

pub returns-in-Ok : goal.returns-in-Ok
returns-in-Ok g c =
    let ready = c.in-Ok.ready in
    let played = plan-played frequency run_options (run_items c.args.asked.now) ready.plan ready.logs.items c.play.new.logs.items _ _
    c.in-Ok.ensures.plan c.play.ensures.played in
    let left_so = replay-left frequency run_options (run_items c.args.asked.now) _ ready.logs.items c.play.new.logs.items _ _
    c.in-Ok.ensures.ready played in
    let farthest = subst (λ (ticks : List Hands). IsTold c.args.asked.now ticks c.farthest_told-told.result) c.journal.ensures.value
    c.farthest_told-told.ensures in
    inl (
      c.farthest_told-told.result,
      record {
        accepted = subst (AreAccepted frequency) (stamps-back (run_stamps c.args.asked.now))
            c.in-Ok.ensures.accepted.stamps;
        replayed = left_so;
        farthest = farthest;
      },
      c.tell.ensures,
    )
