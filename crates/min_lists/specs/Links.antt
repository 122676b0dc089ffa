-- How the lists lie in the nodes.
use Rattle.std.specs.Prelude.{◌≡◌, ℕ, ◌+◌, ◌-◌, ◌<◌, ◌≤◌, ◌≢◌, ◌^◌, List, map, slice_index_or}
use Rattle.std.specs.List.{range_with_len}
use Rattle.min_lists.specs.declared.nodes.Node.{Node}
use Rattle.min_lists.specs.declared.windows.Window.{Window}
use Rattle.min_lists.specs.declared.which.Which.{Which}
use Rattle.min_lists.specs.declared.which.Which.TheVariants.{Base, Recent, WideOld, WideNew, NearOld, NearNew}
use Rattle.min_lists.specs.Lists.{Span, Kept, IsFirstMinimum, lows}
use Rattle.min_lists.specs.Nodes.{trip_at, link_at, before_at, after_at}

-- a window's place among the six
abbrev pub place : Which → ℕ
place Base = 0
place Recent = 1
place WideOld = 2
place WideNew = 3
place NearOld = 4
place NearNew = 5

-- from index b on, as far as the window goes, the round trips before i are above that of i, and the
-- one before b is not
pub record IsBefore (trip : ℕ → ℕ) (from i b : ℕ) : Type 0 where
  pub within : b ≤ i
  pub above : (j : ℕ) → from ≤ j → b ≤ j → j < i → trip i < trip j
  pub not_above : (j : ℕ) → from ≤ j → j + 1 ≡ b → trip j ≤ trip i

-- no later round trip is below that of i
abbrev pub IsLow : (ℕ → ℕ) → ℕ → ℕ → Type 0
IsLow trip to i = (j : ℕ) → i < j → j < to → trip i ≤ trip j

-- the list of a window: its head is the first of least round trip, and behind each index of the
-- list stands the first of least round trip of the later ones
pub record IsLinked (trip before after : ℕ → ℕ) (from to head : ℕ) : Type 0 where
  pub ends : from ≤ to
  pub least : from < to → IsFirstMinimum trip from to head
  pub befores : (i : ℕ) → from ≤ i → i < to → IsBefore trip from i (before i)
  pub afters : (i : ℕ) → from ≤ i → i + 1 < to → IsLow trip to i
      → IsFirstMinimum trip (i + 1) to (after i)

-- the nodes are linked at this place as the list of this window
abbrev pub AreLinked : List Node → ℕ → Window → Type 0
AreLinked ns p w = IsLinked (trip_at ns) (before_at ns p) (after_at ns p) w.from w.to w.head

-- and the window has kept indices alone
pub record IsList (ns : List Node) (count p : ℕ) (w : Window) : Type 0 where
  pub entered : w.to ≤ count
  pub kept : w.from < w.to → count ≤ w.from + 1024
  pub linked : AreLinked ns p w

-- the next index has entered this window: the new nodes are linked as its list, and have the round
-- trips and the other lists of the old ones
pub record Enters (old new : List Node) (p : ℕ) (before after : Window) : Type 0 where
  pub from : after.from ≡ before.from
  pub to : after.to ≡ before.to + 1
  pub linked : AreLinked new p after
  pub trips : (i : ℕ) → trip_at new i ≡ trip_at old i
  pub other_lists : (q i : ℕ) → q ≢ p → link_at new q i ≡ link_at old q i

abbrev pub no_window : Window
no_window = record { from = 0; to = 0; head = 0 }

abbrev pub window_at : List Window → ℕ → Window
window_at ws p = slice_index_or ws p no_window

-- what all lists have
pub record AreLists (ns : List Node) (count : ℕ) (ws : List Window) : Type 0 where
  pub few : count ≤ 2 ^ 62
  pub each : (which : Which) → IsList ns count (place which) (window_at ws (place which))

-- the round trips of the indices from `from` to below `to`
abbrev pub trips_between : List Node → ℕ → ℕ → List ℕ
trips_between ns from to = map (trip_at ns) (range_with_len from (to - from))

-- how many of them have no lesser one behind them
abbrev pub lows_between : List Node → ℕ → ℕ → ℕ
lows_between ns from to = lows (trips_between ns from to)

abbrev pub span : Window → Span
span w = record { from = w.from; to = w.to }

-- what the nodes and windows keep
abbrev pub kept_in : List Node → ℕ → List Window → Kept
kept_in ns count ws = record {
  trips = trips_between ns (count - 1024) count;
  count = count;
  base = span (window_at ws 0);
  recent = span (window_at ws 1);
  wide_old = span (window_at ws 2);
  wide_new = span (window_at ws 3);
  near_old = span (window_at ws 4);
  near_new = span (window_at ws 5);
}
