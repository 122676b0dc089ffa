use Rattle.std.proofs.Common.{◌≡◌, ◌++◌, map}
use Rattle.std.specs.List.{range_with_len}
use Rattle.replay_run.specs.Plans.{plain_step}
use Rattle.replay_run.proofs.plan.push_between.Given as goal

abbrev pub invariant-loop-part : goal.invariant-loop-part
invariant-loop-part l = l.steps.items ≡ l.initial.steps.items ++ map (plain_step l.ticks l.from l.to) (range_with_len 1 l.part)
