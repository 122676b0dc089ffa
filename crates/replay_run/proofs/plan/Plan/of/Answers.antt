use Rattle.std.proofs.Common.{rules, sym, ap, ◌∙◌, subst, arith}
use Rattle.std.specs.Vec.{vec_items}
use Rattle.replay_run.specs.Fitting.{PlanFits}
use Rattle.replay_run.proofs.Fits.{counts-rise, of-plan-fits}
use Rattle.replay_run.proofs.Steps.{plan_of-starts, taken-more, taken-last, taken-all}
use Rattle.replay_run.proofs.plan.Plan.of.Goals as goal
use Rattle.replay_run.proofs.plan.Plan.of.Goals.{then-i-events+in_ok-push_between, else-i-events}

pub loop-i-init : goal.loop-i-init
loop-i-init c = plan_of-starts c.push.new.self.items c.args.freq _ _ (search rules)

pub loop-i-preserved : goal.loop-i-preserved
loop-i-preserved c =
    elim c.if-i-events.branch [
      | then-i-events+in_ok-push_between w ↦ taken-more _ _ _ _ c.event_step-step.result _ _ _ _ _ _ c.loop-i.invariant c.event_step-step.ensures
          w.count_of.ensures c.in_ok-push-2.ensures.items (ap vec_items w.steps-is ∙ w.in_ok-push_between.ensures) w.if-i-events.true
      | else-i-events w ↦ taken-last _ _ _ c.event_step-step.result _ _ _ _ _ c.loop-i.invariant c.event_step-step.ensures
          (ap vec_items w.steps-is ∙ c.in_ok-push-2.ensures.items) c.loop-i-test.true w.if-i-events.false
    ]

pub push_between-requires : goal.push_between-requires
push_between-requires c = record {
  order = counts-rise c.args.freq c.args.events.now c.requires.of.0 c.loop-i.i c.count_of.result _
      c.event_step-step.result c.requires.low c.requires.of.1 c.if-i-events.true c.event_step-step.ensures c.count_of.ensures;
}

pub returns-clause-fits : goal.returns-clause-fits
returns-clause-fits c = subst (PlanFits 0 0) (sym (taken-all _ _ c.args.freq c.args.events.now c.loop-i.i _ c.loop-i.invariant (omega arith)))
    (of-plan-fits c.args.freq c.args.events.now c.requires.of.0 c.args.options.now.ticks c.requires.low c.requires.of.1)
