-- Six sliding windows over round trips: what is kept of them, and what the least of a window is.
use Rattle.std.specs.Prelude.{◌≡◌, ℕ, ◌+◌, ◌-◌, ◌<◌, ◌≤◌, nat_le, Bool, true, false, if◌then◌else◌, List, [], ◌∷◌, ◌++◌, length, drop, slice_index, slice_range}
use Rattle.std.specs.List.{list_all}
use Rattle.min_lists.specs.declared.which.Which.{Which}
use Rattle.min_lists.specs.declared.which.Which.TheVariants.{Base, Recent, WideOld, WideNew, NearOld, NearNew}

-- the indices from `from` to below `to`
pub record Span : Type 0 where
  pub from : ℕ
  pub to : ℕ

abbrev pub IsIn : Span → ℕ → Type 0
IsIn s i = (s.from ≤ i) × (i < s.to)

-- these two are the same window
abbrev pub is_same : Which → Which → Bool
is_same Base Base = true
is_same Recent Recent = true
is_same WideOld WideOld = true
is_same WideNew WideNew = true
is_same NearOld NearOld = true
is_same NearNew NearNew = true
is_same _ _ = false

-- the last round trips, up to 1,024, how many were added, and the six windows
pub record Kept : Type 0 where
  pub trips : List ℕ
  pub count : ℕ
  pub base : Span
  pub recent : Span
  pub wide_old : Span
  pub wide_new : Span
  pub near_old : Span
  pub near_new : Span

abbrev pub window : Kept → Which → Span
window k Base = k.base
window k Recent = k.recent
window k WideOld = k.wide_old
window k WideNew = k.wide_new
window k NearOld = k.near_old
window k NearNew = k.near_new

abbrev pub with_window : Kept → Which → Span → Kept
with_window k Base s = record k { base = s }
with_window k Recent s = record k { recent = s }
with_window k WideOld s = record k { wide_old = s }
with_window k WideNew s = record k { wide_new = s }
with_window k NearOld s = record k { near_old = s }
with_window k NearNew s = record k { near_new = s }

-- the last 1,024 of these, or all of them
abbrev pub last_trips : List ℕ → List ℕ
last_trips all = drop (length all - 1024) all

-- lists that keep this may have been given these round trips
pub record StandsFor (k : Kept) (all : List ℕ) : Type 0 where
  pub trips : k.trips ≡ last_trips all
  pub count : k.count ≡ length all

-- i is the first index of least round trip from `from` to below `to`: no round trip there is less,
-- and each one before it is more
pub record IsFirstMinimum (trip : ℕ → ℕ) (from to i : ℕ) : Type 0 where
  pub low : from ≤ i
  pub high : i < to
  pub least : (j : ℕ) → from ≤ j → j < to → trip i ≤ trip j
  pub first : (j : ℕ) → from ≤ j → j < i → trip i < trip j

-- the same by the round trips of a whole list, in a window
abbrev pub IsMinimumOf : List ℕ → Span → ℕ → Type 0
IsMinimumOf all s = IsFirstMinimum (slice_index all) s.from s.to

-- nothing was added, and nothing entered
abbrev pub nothing : Kept
nothing =
    let none : Span = record { from = 0; to = 0 } in
    record {
      trips = [];
      count = 0;
      base = none;
      recent = none;
      wide_old = none;
      wide_new = none;
      near_old = none;
      near_new = none;
    }

-- with one more round trip, in no window
abbrev pub with_trip : Kept → ℕ → Kept
with_trip k rtt = record k { trips = last_trips (k.trips ++ rtt ∷ []); count = k.count + 1 }

-- with the next index in this window
abbrev pub with_next : Kept → Which → Kept
with_next k which =
    let s = window k which in
    with_window k which (record { from = s.from; to = s.to + 1 })

-- with nothing before this index in this window
abbrev pub with_start : Kept → Which → ℕ → Kept
with_start k which from = with_window k which (record { from = from; to = (window k which).to })

-- how many of these have no lesser one behind them
unfoldable pub lows : List ℕ → ℕ
lows [] = 0
lows (t ∷ ts) = (if list_all (nat_le t) ts then 1 else 0) + lows ts

-- the round trips in a window
abbrev pub trips_in : Kept → Span → List ℕ
trips_in k s = slice_range k.trips (s.from - (k.count - 1024)) (s.to - (k.count - 1024))

-- the steps that a window may still take beside two for each index that enters it
unfoldable pub credit_in : Kept → Which → ℕ
credit_in k which = lows (trips_in k (window k which))

-- the credit of all six
unfoldable pub credit : Kept → ℕ
credit k =
    credit_in k Base + credit_in k Recent + credit_in k WideOld + credit_in k WideNew
    + credit_in k NearOld + credit_in k NearNew
