use Rattle.std.proofs.Common.{rules, ◌<◌, ◌^◌, length, sym, ap, ◌∙◌, arith}
use Rattle.callouts.proofs.Melding.{apart_kept}
use Rattle.callouts.proofs.Places.{length_places}
use Rattle.callouts.proofs.Put.{insert_melding, insert_apart, insert_stale, insert_slots, insert_winners, insert_places}
use Rattle.callouts.proofs.slots.Slots.insert.Goals as goal

pub put-requires : goal.put-requires
put-requires c = omega (arith, length_places c.self.inside.nodes, ap length c.self.view_is)

pub sink-requires-clause-apart : goal.sink-requires-clause-apart
sink-requires-clause-apart c =
    let fits : c.args.timer.id < 2 ^ 64 = search rules in
    insert_apart _ _ _ _ _ _ _ c.self.view_is c.put.ensures c.self.invariant c.slot_of-slot.ensures.value c.requires.place c.requires.none fits
    c.requires.latest

pub sink-requires-clause-melding : goal.sink-requires-clause-melding
sink-requires-clause-melding c =
    insert_melding _ _ _ _ _ _ _ c.self.view_is c.put.ensures c.self.invariant c.slot_of-slot.ensures.value c.requires.place c.requires.none

pub play-requires-clause-apart : goal.play-requires-clause-apart
play-requires-clause-apart c =
    let fits : c.args.timer.id < 2 ^ 64 = search rules in
    apart_kept _ _ _ c.sink.ensures.keeps (insert_apart _ _ _ _ _ _ _ c.self.view_is c.put.ensures c.self.invariant c.slot_of-slot.ensures.value
    c.requires.place c.requires.none fits c.requires.latest)

pub play-requires-clause-stale : goal.play-requires-clause-stale
play-requires-clause-stale c =
    let fits : c.args.timer.id < 2 ^ 64 = search rules in
    insert_stale _ _ _ _ _ _ _ c.self.view_is c.put.ensures c.self.invariant c.slot_of-slot.ensures.value c.requires.place c.requires.none fits
    c.requires.latest _ c.sink.ensures.keeps

pub invariant_of-self : goal.invariant_of-self
invariant_of-self c =
    let fits : c.args.timer.id < 2 ^ 64 = search rules in
    insert_slots _ _ _ _ _ _ _ c.self.view_is c.put.ensures c.self.invariant c.slot_of-slot.ensures.value c.requires.place c.requires.none fits
    c.requires.latest _ c.sink.ensures.keeps c.sink.ensures.heaps _ c.play.ensures

pub invariant_of-self-else-kid-root : goal.invariant_of-self-else-kid-root
invariant_of-self-else-kid-root c =
    let fits : c.args.timer.id < 2 ^ 64 = search rules in
    insert_slots _ _ _ _ _ _ _ c.self.view_is c.put.ensures c.self.invariant c.slot_of-slot.ensures.value c.requires.place c.requires.none fits
    c.requires.latest _ c.sink.ensures.keeps c.sink.ensures.heaps _
    (insert_winners _ _ _ _ _ _ _ c.self.view_is c.put.ensures c.self.invariant c.slot_of-slot.ensures.value c.requires.place c.requires.none fits
    c.requires.latest _ c.sink.ensures.keeps (sym c.kid.ensures ∙ c.if-kid-root.false ∙ c.kid-root.ensures))

pub returns-then-kid-root : goal.returns-then-kid-root
returns-then-kid-root c =
    let fits : c.args.timer.id < 2 ^ 64 = search rules in
    insert_places _ _ _ _ _ _ _ c.self.view_is c.put.ensures c.self.invariant c.slot_of-slot.ensures.value c.requires.place c.requires.none fits
    c.requires.latest _ c.sink.ensures.keeps

pub returns-else-kid-root : goal.returns-else-kid-root
returns-else-kid-root c =
    let fits : c.args.timer.id < 2 ^ 64 = search rules in
    insert_places _ _ _ _ _ _ _ c.self.view_is c.put.ensures c.self.invariant c.slot_of-slot.ensures.value c.requires.place c.requires.none fits
    c.requires.latest _ c.sink.ensures.keeps
