-- The tick whose time is farthest from the truth.
use Rattle.std.specs.Prelude.{◌≡◌, ℕ, ◌<◌, ◌≤◌, false, List, length, slice_get, Option, Some, MatchOption}
use Rattle.ff_grain.specs.Grains.{number_of}
use Rattle.ff_hands.specs.declared.hands.Hands.{Hands}
use Rattle.clock_lines.specs.Values.{bound_of}
use Rattle.clock_lines.specs.declared.readings.Kind.TheVariants as kind
use Rattle.world_times.specs.Worlds.{distance}
use Rattle.world_times.specs.declared.world.World.{World}
use Rattle.world_laws.specs.Truths.{AreTrueTicks}
use Rattle.ideal_world.specs.declared.deviations.Deviation.{Deviation}

-- by how much the time of a tick is off at its count
abbrev pub off_by : World → Hands → ℕ
off_by w h = distance w (number_of h.time) h.count

-- tick n, by how much it is off, and the bound of the absolute clock there
abbrev pub deviating : World → ℕ → Hands → Deviation
deviating w n h = record { tick = n; distance = off_by w h; bound = bound_of h kind.Abs h.count }

-- the first of the ticks from tick 2 to before `end` whose time is off by the most
pub record IsFarthestBefore (w : World) (ticks : List Hands) (end : ℕ) (f : Deviation) : Type 0 where
  pub behind : 2 ≤ f.tick
  pub before : f.tick < end
  pub hands : Hands
  pub there : slice_get ticks f.tick ≡ Some hands
  pub is : f ≡ deviating w f.tick hands
  pub first : (n : ℕ) (h : Hands) → 2 ≤ n → n < f.tick → slice_get ticks n ≡ Some h → off_by w h < f.distance
  pub most : (n : ℕ) (h : Hands) → 2 ≤ n → n < end → slice_get ticks n ≡ Some h → off_by w h ≤ f.distance

-- it is found where there are such ticks
abbrev pub IsFoundBefore : World → List Hands → ℕ → Option Deviation → Type 0
IsFoundBefore w ticks end found = MatchOption found (end ≤ 2) (IsFarthestBefore w ticks end)

-- the first tick, from tick 2 on, whose time is off by the most
abbrev pub IsFarthest : World → List Hands → Deviation → Type 0
IsFarthest w ticks f = IsFarthestBefore w ticks (length ticks) f

-- where the ticks are true, and it is not marked unsynchronised, it is off by at most its bound
abbrev pub DeviationsAreBounded : Type 0
DeviationsAreBounded = (w : World) (ticks : List Hands) (f : Deviation) (h : Hands) → AreTrueTicks w ticks → IsFarthest w ticks f
    → slice_get ticks f.tick ≡ Some h → h.kstatus.unsync ≡ false → f.distance ≤ f.bound
