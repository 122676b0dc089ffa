use Rattle.std.proofs.Common.{◌≡◌, ◌≤◌, ◌++◌, [], ◌∷◌, map, length, unsigned_abs, refl, sym, subst, ap, ◌∙◌, arith}
use Rattle.std.proofs.lemmas.List.{append-nil}
use Rattle.callouts.specs.declared.timers.Fired.{Fired}
use Rattle.callouts.specs.Timers.{NoneDue}
use Rattle.callouts.specs.Queues.{queue}
use Rattle.callouts.specs.Firings.{uptime_of, due_by, waiting, firing_of}
use Rattle.callouts.proofs.Walking.{queue_fires, queue_waits, none_due, waiting_more, fires_on}
use Rattle.callouts.proofs.firings.fire_at.Goals as goal

pub loop-f-smaller : goal.loop-f-smaller
loop-f-smaller c = let q = queue_fires _ _ _ _ c.in-Some.ensures.fires in omega (arith, ap length q.1)

pub loop-f-preserved : goal.loop-f-preserved
loop-f-preserved c =
    let q = queue_fires _ _ _ _ c.in-Some.ensures.fires in
    let now = uptime_of c.args.h.now in
    let due : q.0.due ≤ now = subst (λ n. q.0.due ≤ n) (ap unsigned_abs c.sub-now.ensures) q.2 in
    record {
      fired = fires_on c.args.tick now _ _ q.0 (queue c.loop-f.wheel) (queue c.fire.new.self) q.1 due
          (c.in_ok-push-in-Some.ensures.items ∙ ap (λ (f : Fired). c.loop-f.fired.items ++ record { tick = c.args.tick; fired = f } ∷ []) q.3)
          ∙ c.loop-f.invariant.fired;
      left = sym (ap (waiting now) q.1 ∙ waiting_more now q.0 (queue c.fire.new.self) due) ∙ c.loop-f.invariant.left;
    }

-- none of the queue is due any more
left : (c : goal.In-None) → (due_by (uptime_of c.args.h.now) (queue c.loop-f.wheel) ≡ [])
    × (waiting (uptime_of c.args.h.now) (queue c.loop-f.wheel) ≡ queue c.loop-f.wheel)
left c = none_due _ _ (queue_waits c.loop-f.wheel _ (subst (NoneDue c.loop-f.wheel) (ap unsigned_abs c.sub-now.ensures) (c.in-None.ensures.none refl)))

pub returns-in-None-clause-fired : goal.returns-in-None-clause-fired
returns-in-None-clause-fired c =
    sym (ap (λ es. c.loop-f.fired.items ++ map (firing_of c.args.tick) es) (left c).0 ∙ append-nil c.loop-f.fired.items) ∙ c.loop-f.invariant.fired

pub returns-in-None-clause-left : goal.returns-in-None-clause-left
returns-in-None-clause-left c = ap queue (c.in-None.ensures.same refl) ∙ sym (left c).1 ∙ c.loop-f.invariant.left
