use Rattle.tick_views.proofs.Grow.{grow}
use Rattle.tick_views.proofs.laws.views_stay_fit.Goals as goal

pub returns : goal.returns
returns c = λ w v after goes fits. grow w after goes v fits
