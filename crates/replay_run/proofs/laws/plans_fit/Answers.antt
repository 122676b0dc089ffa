use Rattle.ff_estimator.specs.Events.{events_of}
use Rattle.ff_estimator.proofs.Events.{in-turn}
use Rattle.replay_run.proofs.Fits.{plan-fits}
use Rattle.replay_run.proofs.laws.plans_fit.Goals as goal

pub returns : goal.returns
returns c freq items ticks low are = plan-fits freq (events_of freq items) ticks low (in-turn freq items low are)
