use Rattle.std.proofs.Common.{◌≡◌, ◌++◌, drop}
use Rattle.replay_run.specs.Plans.{steps_from, plan_of}
use Rattle.replay_run.proofs.plan.Plan.of.Given as goal

abbrev pub invariant-loop-i : goal.invariant-loop-i
invariant-loop-i l = l.steps.items ++ steps_from l.freq (drop l.i l.events) l.options.ticks ≡ plan_of l.freq l.events l.options.ticks
