use Rattle.std.proofs.Common.{ap, ◌∙◌}
use Rattle.replay_run.specs.Journals.{taken_in}
use Rattle.replay_run.specs.Plans.{plan_of}
use Rattle.replay_run.proofs.Journals.{orders-of}
use Rattle.replay_run.proofs.Targets.{plan-takes}
use Rattle.replay_run.proofs.laws.journals_take_each_estimate.Goals as goal

pub returns : goal.returns
returns c beside freq es ticks journal is = ap taken_in (orders-of beside (plan_of freq es ticks) journal is) ∙ plan-takes freq es ticks
