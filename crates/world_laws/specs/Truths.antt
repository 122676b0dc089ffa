-- What is true in a world: what is said is off by at most what is said of its error.
use Rattle.std.specs.Prelude.{◌≡◌, ℕ, ℤ, pos, ◌*◌, ◌^◌, ◌≤◌, ◌+ℤ◌, ◌-ℤ◌, ◌*ℤ◌, unsigned_abs, ⊤, false, List, slice_get, Some}
use Rattle.ff_grain.specs.Grains.{number_of}
use Rattle.ff_hands.specs.Windups.{time_of}
use Rattle.ff_hands.specs.declared.estimates.Estimate.{Estimate}
use Rattle.ff_hands.specs.declared.hands.Hands.{Hands}
use Rattle.ff_estimator.specs.declared.fulls.Full.{Full}
use Rattle.clock_lines.specs.Values.{MayRead, leaps_at, time_bound, value_of, bound_of}
use Rattle.clock_lines.specs.declared.readings.Kind.{Kind}
use Rattle.clock_lines.specs.declared.readings.Kind.TheVariants as kind
use Rattle.world_times.specs.declared.world.World.{World}
use Rattle.world_times.specs.Worlds.{distance}
use Rattle.world_laws.specs.Spreads.{Covers}

-- the bounds of an estimate's period cover that of the world. Its time is off by at most its spread at its own count, and,
-- unless it is marked unsynchronised, by at most its bound at each later count
pub record IsTrueEstimate (w : World) (full : Full) : Type 0 where
  pub rate : Covers full.rate w.period
  pub spread : distance w (number_of full.est.update_time) full.est.update_ffcount ≤ full.spread
  pub later : full.est.status.unsync ≡ false → (count : ℕ) → full.est.update_ffcount ≤ count
      → distance w (time_of full.est count) count ≤ time_bound full.est count

-- A reading is off by at most its bound: an absolute and a fast one from the true time at its count, one of Utc from the
-- true time less the leap seconds that hold there by the estimate, and a difference from the true length of its interval.
-- Nothing is said of the other clocks
abbrev pub IsCovered : World → Estimate → Kind → ℕ → ℤ → ℕ → Type 0
IsCovered w e kind.Abs count time bound = distance w time count ≤ bound
IsCovered w e kind.Fast count time bound = distance w time count ≤ bound
IsCovered w e kind.Utc count time bound = distance w (time +ℤ leaps_at e count *ℤ pos (2 ^ 64)) count ≤ bound
IsCovered w e kind.Diff counts time bound = unsigned_abs (time -ℤ pos (w.period * counts)) ≤ bound
IsCovered w e kind.Mono count time bound = ⊤
IsCovered w e kind.Uptime count time bound = ⊤
IsCovered w e kind.Back count time bound = ⊤

-- a reading of Utc is covered exactly where the absolute time that it comes from, its own with the leap seconds, is
abbrev pub UtcIsCovered : Type 0
UtcIsCovered = (w : World) (e : Estimate) (count bound : ℕ) (time : ℤ) → IsCovered w e kind.Utc count time bound
    → IsCovered w e kind.Abs count (time +ℤ leaps_at e count *ℤ pos (2 ^ 64)) bound

-- so is all that may be read by the hands of a tick
abbrev pub IsTrueTick : World → Hands → Type 0
IsTrueTick w h = (k : Kind) (count : ℕ) → MayRead k h.count count → IsCovered w h.est k count (number_of (value_of h k count)) (bound_of h k count)

-- and of each tick that is not marked unsynchronised
abbrev pub AreTrueTicks : World → List Hands → Type 0
AreTrueTicks w ticks = (n : ℕ) (h : Hands) → slice_get ticks n ≡ Some h → h.kstatus.unsync ≡ false → IsTrueTick w h
