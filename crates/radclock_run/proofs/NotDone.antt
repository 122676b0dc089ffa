-- A stopped run is not done.
use Rattle.std.proofs.Common.{◌≡◌}
use Rattle.radclock_input.specs.declared.stops.Stop.{Stop}
use Rattle.radclock_input.specs.declared.stops.Stop.TheVariants as stop
use Rattle.radclock_run.specs.Statuses.{status_of}
use Rattle.radclock_run.specs.declared.status.Status.TheVariants as status

pub not-done : (s : Stop) → status_of s ≡ status.Done → ⊥
not-done stop.Memory e = cc
not-done (stop.Read taken) e = cc
not-done (stop.Fault f) e = cc
not-done (stop.Large l) e = cc
not-done (stop.Capture f) e = cc
