-- How much an exchange counts, by its round trip and its age.
use Rattle.std.specs.Prelude.{ℕ, ◌+◌, ◌*◌, ◌/◌, ◌^◌, List, [], ◌∷◌, slice_index_or}
use Rattle.ff_grain.specs.Scales.{trip_scale}

-- the weights of the rows from 0 on
abbrev pub table : List ℕ
table = 65536 ∷ 64520 ∷ 61565 ∷ 56939 ∷ 51039 ∷ 44344 ∷ 37341 ∷ 30477 ∷ 24109 ∷ 18485 ∷ 13737 ∷ 9894 ∷ 6907 ∷ 4674 ∷ 3065 ∷ 1948 ∷ 1200 ∷ 717 ∷ 415
    ∷ 233 ∷ 127 ∷ 67 ∷ 34 ∷ 17 ∷ 8 ∷ []

-- the counts by which a round trip is above the least one, and one more for each 2^23 counts of age
abbrev pub aged_excess : ℕ → ℕ → ℕ
aged_excess excess age = excess + age / 2 ^ 23

-- how many eighths of the scale of round trips that is
abbrev pub row_of : ℕ → ℕ → ℕ → ℕ
row_of excess age freq = 8 * aged_excess excess age / trip_scale freq

-- the entry of the row, and 0 where the table has none
unfoldable pub weight_of : ℕ → ℕ → ℕ → ℕ
weight_of excess age freq = slice_index_or table (row_of excess age freq) 0
