use Rattle.ff_estimator.proofs.Prefixes.{full_at-append}
use Rattle.ff_estimator.proofs.fulls.estimates_stay.Goals as goal

pub returns : goal.returns
returns c = full_at-append
