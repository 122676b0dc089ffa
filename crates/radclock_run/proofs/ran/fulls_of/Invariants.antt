use Rattle.std.proofs.Common.{◌≡◌, take}
use Rattle.ff_estimator.specs.Events.{fulls_of}
use Rattle.radclock_run.proofs.ran.fulls_of.Given as goal

abbrev pub invariant-loop-event : goal.invariant-loop-event
invariant-loop-event l = record { told : l.fulls.items ≡ fulls_of (take l.event-index l.events) }
