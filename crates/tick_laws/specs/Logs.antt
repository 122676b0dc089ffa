-- What holds of a reader that the pen took in, by the pen's journal alone.
use Rattle.std.specs.Prelude.{◌≡◌, ℕ, ◌-◌, ◌^◌, ◌≤◌, Bool, false, List, map, length}
use Rattle.ff_hands.specs.declared.hands.Hands.{Hands}
use Rattle.clock_logs.specs.declared.noted.Kept.{Kept}
use Rattle.clock_logs.specs.Logs.{IsLog, AreSince, AreWithin, entry_of}
use Rattle.tick_views.specs.Worlds.{AllAtMost}

-- Its log is legal over these ticks, and each entry of it is current at its opening value. The
-- counts that its entries show the counter to have reached are below 2^62, and while no crank is
-- out none is past the top, nor is one that it loaded
pub record IsKeptLegal (ticks : List Hands) (top : ℕ) (out : Bool) (k : Kept) : Type 0 where
  pub seen : k.seen ≤ length ticks
  pub legal : IsLog ticks (map entry_of k.entries)
  pub since : AreSince ticks k.entries
  pub small : AreWithin (2 ^ 62 - 1) (map entry_of k.entries)
  pub counters : out ≡ false → AllAtMost top k.counters
  pub within : out ≡ false → AreWithin top (map entry_of k.entries)
