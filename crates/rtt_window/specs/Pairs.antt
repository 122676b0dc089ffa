-- The pair of stamps that a rate is taken from, over a whole list of stamps.
use Rattle.std.specs.Prelude.{◌≡◌, ℕ, ◌<◌, ◌≤◌, ◌/◌, ◌==◌, nat_lt, if◌then◌else◌, List, length, map, max, take, find, slice_get, Option, Some, None}
use Rattle.std.specs.List.{All, slice_index_or}
use Rattle.std.specs.Option.{option_zip}
use Rattle.circular_buffer.specs.Buffer.{keep_last}
use Rattle.stamp_text.specs.Accepted.{IsInRange, IsPlausible, Follows, trip}
use Rattle.stamp_text.specs.declared.lines.Stamp.{Stamp}
use Rattle.rtt_window.specs.Bases.{least_of}

-- the first stamp of least round trip
unfoldable pub first_least : List Stamp → Option Stamp
first_least all = find (λ s. trip s == least_of (map trip all)) all

-- none of these stamps has a lesser round trip than s, and each one before s has a greater one
pub record IsFirstLeast (all : List Stamp) (s : Stamp) : Type 0 where
  pub place : ℕ
  pub there : slice_get all place ≡ Some s
  pub least : All (λ other. trip s ≤ trip other) all
  pub first : (k : ℕ) (d : Stamp) → k < place → trip s < trip (slice_index_or all k d)

-- j stands before k in this list
pub record StandBefore (all : List Stamp) (j k : Stamp) : Type 0 where
  pub first : ℕ
  pub second : ℕ
  pub order : first < second
  pub at_first : slice_get all first ≡ Some j
  pub at_second : slice_get all second ≡ Some k

-- a quarter of so many, and at least one
abbrev pub quarter : ℕ → ℕ
quarter n = max 1 (n / 4)

-- the first of least round trip in the first quarter, and that in the last quarter; a pair has two
-- stamps
unfoldable pub pair_among : List Stamp → Option (Stamp × Stamp)
pair_among near =
    if nat_lt (length near) 2 then None
    else option_zip
    (first_least (take (quarter (length near)) near))
    (first_least (keep_last (quarter (length near)) near))

-- the pair among the last stamps, as many as `reach`
abbrev pub pair_of : ℕ → List Stamp → Option (Stamp × Stamp)
pair_of reach all = pair_among (keep_last reach all)

-- two accepted stamps, the second behind the first
pub record ArePair (freq : ℕ) (j k : Stamp) : Type 0 where
  pub timed_j : IsInRange j
  pub timed_k : IsInRange k
  pub sound_j : IsPlausible freq j
  pub sound_k : IsPlausible freq k
  pub follow : Follows j k
