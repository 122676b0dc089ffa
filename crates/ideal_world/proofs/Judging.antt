-- What a watched daemon answers is what its daemon does.
use Rattle.std.proofs.Common.{◌≡◌, ℕ, refl}
use Rattle.stamp_text.specs.declared.accepts.Refused.{Refused}
use Rattle.ff_estimator.specs.declared.fulls.Fed.{Fed}
use Rattle.ff_estimator.specs.declared.fulls.Fed.TheVariants as fed
use Rattle.ff_estimator.specs.declared.fulls.Full.{Full}
use Rattle.world_times.specs.declared.world.World.{World}
use Rattle.ideal_world.specs.Watching.{judged_by}
use Rattle.ideal_world.specs.declared.watched.Judged.TheVariants as judged

pub estimate-fed : (w : World) (count : ℕ) (f : Fed) (full : Full) (distance : ℕ) → judged.Estimate full distance ≡ judged_by w count f → fed.Estimate full ≡ f
estimate-fed w count (fed.Refused why) full distance is = absurd (cc)
estimate-fed w count (fed.Estimate other) full distance is = (let same : full ≡ other = cc in rw same refl)

pub refused-fed : (w : World) (count : ℕ) (f : Fed) (why : Refused) → judged.Refused why ≡ judged_by w count f → fed.Refused why ≡ f
refused-fed w count (fed.Refused other) why is = (let same : why ≡ other = cc in rw same refl)
refused-fed w count (fed.Estimate full) why is = absurd (cc)
