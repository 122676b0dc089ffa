-- The base of the round trips, and where their level shifts, over the whole list of accepted stamps.
use Rattle.std.specs.Prelude.{ℕ, zero, suc, ◌+◌, ◌-◌, ◌*◌, true, false, ◌&&◌, nat_le, nat_lt, if◌then◌else◌, List, [], ◌∷◌, map, fold, min, max, slice_range}
use Rattle.ff_grain.specs.Scales.{trip_scale}
use Rattle.stamp_text.specs.Accepted.{trip}
use Rattle.stamp_text.specs.declared.lines.Stamp.{Stamp}
use Rattle.rtt_window.specs.declared.bases.Base.{Base}

-- the least of these numbers, and 0 of none
abbrev pub least_of : List ℕ → ℕ
least_of [] = 0
least_of (n ∷ ns) = fold min n ns

-- the least round trip of the stamps with the indices `from` to `to`
unfoldable pub least_trip : List Stamp → ℕ → ℕ → ℕ
least_trip all from to = least_of (map trip (slice_range all from (to + 1)))

-- what is said of stamp i where the level began at `start`, by the least round trip since then and
-- the least of the last 32: with 32 stamps or more behind the start, and the recent least more than
-- four scales above, the level has shifted to it
unfoldable pub judged : ℕ → ℕ → ℕ → ℕ → ℕ → Base
judged freq start i least recent =
    if nat_le 32 (i - start) && nat_lt (least + 4 * trip_scale freq) recent
    then record { base = recent; start = i - 31; shifted = true }
    else record { base = least; start = start; shifted = false }

-- the same of a list: the least since the start is over 1,024 stamps at most
abbrev pub base_from : ℕ → List Stamp → ℕ → ℕ → Base
base_from freq all start i =
    judged freq start i (least_trip all (max start (i - 1023)) i) (least_trip all (i - 31) i)

-- where the level began before stamp i: where it began after the stamp before
unfoldable pub start_before : ℕ → List Stamp → ℕ → ℕ
start_before freq all zero = 0
start_before freq all (suc i) = (base_from freq all (start_before freq all i) i).start

-- the base at stamp i, the index from which on it holds, and whether the level shifts there
unfoldable pub base_at : ℕ → List Stamp → ℕ → Base
base_at freq all i = base_from freq all (start_before freq all i) i
