use Rattle.std.proofs.Common.{◌≡◌, ◌<◌, slice_range, Some}
use Rattle.rtt_window.specs.Pairs.{first_least}
use Rattle.rtt_window.proofs.window.first_least.Given as goal

abbrev pub invariant-loop-i : goal.invariant-loop-i
invariant-loop-i l = record { forward : l.least.ta < l.least.tf; so_far : first_least (slice_range l.stamps.items l.from l.i) ≡ Some l.least }
