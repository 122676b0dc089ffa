use Rattle.std.proofs.Common.{◌≡◌, ◌+◌, ◌-◌, ◌*◌, ◌^◌, ◌∷◌, refl, sym, ap, ◌∙◌, arith, add-one, length-set}
use Rattle.std.proofs.lemmas.Grind.{common_steps}
use Rattle.std.proofs.lemmas.List.{length-replicate}
use Rattle.ff_grain.specs.Grains.{grains_of}
use Rattle.callouts.specs.declared.timers.Entry.{Entry}
use Rattle.callouts.specs.Timers.{Kept, no_timers, room, live}
use Rattle.callouts.specs.Queues.{queue, placed, in_order}
use Rattle.callouts.specs.Firings.{timers_of}
use Rattle.callouts.proofs.Living.{live_more}
use Rattle.callouts.proofs.Walking.{queue_new, queue_adds}
use Rattle.callouts.proofs.asked.wheel_of.Goals as goal

pub loop-i-init : goal.loop-i-init
loop-i-init c =
    let is : c.in_ok-wheel.wheel ≡ no_timers c.max.result = c.in_ok-wheel.ensures in
    let none : live (no_timers c.max.result) ≡ 0 = grind (arith, common_steps) in
    record {
      queue = ap queue is ∙ queue_new c.max.result;
      added = ap (λ (k : Kept). k.added) is;
      live = ap live is ∙ none;
      room = ap room is ∙ length-replicate c.max.result _ ∙ c.max.ensures;
    }

pub loop-i-preserved : goal.loop-i-preserved
loop-i-preserved c =
    let was = c.loop-i.invariant in
    let told = c.in-Ok.ensures in
    let due : grains_of c.seconds-due.result ≡ (c.args.n - c.loop-i.i) * 2 ^ 64 = c.seconds-due.ensures.grains in
    let entry : record { id = c.loop-i.wheel.added; due = grains_of c.seconds-due.result }
    ≡ record { id = c.loop-i.i; due = (c.args.n - c.loop-i.i) * 2 ^ 64 } = λ i. record { id = was.added i; due = due i } in
    let one_more : timers_of c.args.n (c.loop-i.i + 1) ≡ record { id = c.loop-i.i; due = (c.args.n - c.loop-i.i) * 2 ^ 64 }
    ∷ timers_of c.args.n c.loop-i.i = rw add-one refl in
    record {
      queue = ap queue told.added ∙ queue_adds c.loop-i.wheel c.in-Ok.field-0.place _ told.within told.place
          ∙ ap (λ (e : Entry). placed e (queue c.loop-i.wheel)) entry
          ∙ ap (placed (record { id = c.loop-i.i; due = (c.args.n - c.loop-i.i) * 2 ^ 64 })) was.queue ∙ ap in_order (sym one_more);
      added = ap (λ (k : Kept). k.added) told.added ∙ ap (λ n. n + 1) was.added;
      live = ap live told.added ∙ live_more c.loop-i.wheel.places c.in-Ok.field-0.place _ told.within told.place ∙ ap (λ n. n + 1) was.live;
      room = ap room told.added ∙ length-set c.loop-i.wheel.places c.in-Ok.field-0.place _ ∙ was.room;
    }
