-- A world that fits a frequency fits some.
use Rattle.std.proofs.Common.{ℕ, ◌≤◌, arith}
use Rattle.ff_grain.proofs.PeriodLaws.{highest-bounded}
use Rattle.world_times.specs.Worlds.{IsFit, IsWorld}
use Rattle.world_times.specs.declared.world.World.{World}

pub is-world : (freq : ℕ) (w : World) → 1000000 ≤ freq → IsFit freq w → IsWorld w
is-world freq w low fit = record { period = omega (arith, fit.highest, highest-bounded freq low); start = fit.start; early = fit.early }
