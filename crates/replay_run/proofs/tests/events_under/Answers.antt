use Rattle.std.proofs.Common.{◌≡◌, List, [], ◌++◌, Option, None, append-nil, sym, ap, ◌∙◌, subst}
use Rattle.std.specs.Option.{option_to_list}
use Rattle.std.specs.Vec.{vec_items}
use Rattle.ff_estimator.specs.Events.{AreOf}
use Rattle.ff_estimator.specs.declared.fulls.Event.{Event}
use Rattle.ff_estimator.proofs.Events.{of-none}
use Rattle.replay_run.proofs.tests.events_under.Goals as goal
use Rattle.replay_run.proofs.tests.events_under.Goals.{in-Some+in_ok-push, in_default}

pub loop-row-init : goal.loop-row-init
loop-row-init g c = (
  [],
  c.in_ok-daemon.ensures.stands,
  subst (λ (es : List Event). AreOf es 1000000000 []) (sym c.new-events.ensures.items)
      (of-none 1000000000),
)

pub loop-row-preserved : goal.loop-row-preserved
loop-row-preserved g c =
    let inv = c.loop-row.invariant in
    let next = c.told.ensures inv.0 inv.1 in
    let es : List Event = c.loop-row.events.items in
    let are = λ (o : Option Event) (is : c.told.result ≡ o). subst (λ (o : Option Event). AreOf (es ++ option_to_list o) 1000000000 next.0) is
    (next.2 es inv.2) in (
      next.0,
      next.1,
      elim c.match-told.branch [
        | in-Some+in_ok-push w ↦ subst (λ (es : List Event). AreOf es 1000000000 next.0)
            (sym (ap vec_items w.events-is ∙ w.in_ok-push.ensures.items)) (are _ w.in-Some.is)
        | in_default w ↦ subst (λ (es : List Event). AreOf es 1000000000 next.0) (append-nil es ∙ sym (ap vec_items w.events-is)) (are None w.in_default.is)
      ],
    )
