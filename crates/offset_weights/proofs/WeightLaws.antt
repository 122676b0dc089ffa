-- What follows from the table of weights.
use Rattle.std.proofs.Common.{◌≡◌, ℕ, ◌+◌, ◌*◌, ◌/◌, ◌^◌, ◌<◌, ◌≤◌, List, [], ◌∷◌, get_or, length, refl, ap, arith, zero, suc, Bool, true, nat_lt, nat_le, ◌&&◌, slice_index, slice_index_or}
use Rattle.std.specs.List.{list_all}
use Rattle.std.proofs.lemmas.Bool.{and_parts}
use Rattle.std.proofs.lemmas.Bool.Decides.{nat_tests}
use Rattle.std.proofs.Math.Nat.{zero-div, lt-div-mul-add, le-div_iff_mul-le, mul-le-mul_right}
use Rattle.ff_grain.specs.Scales.{trip_scale}
use Rattle.offset_weights.specs.Weights.{table, aged_excess, row_of, weight_of}
use Rattle.offset_weights.specs.declared.weights.TheConstants.{WEIGHTS}

-- the table of the code is that of the definition
pub weights_are_table : WEIGHTS ≡ table
weights_are_table = refl

entry_within : (xs : List ℕ) (i : ℕ) → 0 < get_or xs i 0 → i < length xs
entry_within [] i h = absurd (omega arith)
entry_within (x ∷ xs) zero h = omega arith
entry_within (x ∷ xs) (suc i) h = let rest = entry_within xs i h in omega arith

-- an exchange of the least round trip has the whole weight for the time at which its reply came
pub weight_of_own : (freq : ℕ) → weight_of 0 0 freq ≡ 65536
unfolding weight_of
weight_of_own freq = ap (λ i. get_or table i 0) (zero-div (trip_scale freq))

young : (excess age scale : ℕ) → 0 < scale → 8 * aged_excess excess age / scale < 25 → age < (25 * scale / 8 + 1) * 2 ^ 23
young excess age scale h row =
    let below = lt-div-mul-add {a = 8 * aged_excess excess age} h in
    let end : (8 * aged_excess excess age / scale + 1) * scale ≤ 25 * scale = mul-le-mul_right scale (omega arith) in
    omega arith

-- what has a weight is not old
pub weight_of_young : (excess age freq : ℕ) → 0 < weight_of excess age freq → age < (25 * trip_scale freq / 8 + 1) * 2 ^ 23
unfolding weight_of
weight_of_young excess age freq h = young excess age (trip_scale freq) (omega arith) (entry_within table (row_of excess age freq) h)

-- not even 1600 seconds old
pub weight_of_recent : (excess age freq : ℕ) → 1000000 ≤ freq → 0 < weight_of excess age freq → age < 1600 * freq
weight_of_recent excess age freq high h = omega (arith, weight_of_young excess age freq h)

-- a row behind the last entry has no weight
entry-past : (xs : List ℕ) (i : ℕ) → length xs ≤ i → get_or xs i 0 ≡ 0
entry-past [] i h = refl
entry-past (x ∷ xs) zero h = absurd (omega arith)
entry-past (x ∷ xs) (suc i) h = entry-past xs i (omega arith)

-- nor has one for its excess alone, whatever its age
pub row_past : (excess age scale : ℕ) → 0 < scale → 25 * scale ≤ 8 * excess → slice_index_or table (8 * aged_excess excess age / scale) 0 ≡ 0
row_past excess age scale some long =
    entry-past table (8 * aged_excess excess age / scale) ((le-div_iff_mul-le some).1 (omega arith))

-- each number is smaller than the one before it
abbrev falls : List ℕ → Bool
falls [] = true
falls (x ∷ []) = true
falls (x ∷ y ∷ ys) = nat_lt y x && falls (y ∷ ys)

falls-at : (xs : List ℕ) (i : ℕ) → falls xs ≡ true → i + 1 < length xs → get_or xs (i + 1) 0 < get_or xs i 0
falls-at [] i h less = absurd (omega arith)
falls-at (x ∷ []) i h less = absurd (omega arith)
falls-at (x ∷ y ∷ ys) zero h less = let both = and_parts (nat_lt y x) (falls (y ∷ ys)) h in grind (arith, nat_tests, both.0)
falls-at (x ∷ y ∷ ys) (suc i) h less = let both = and_parts (nat_lt y x) (falls (y ∷ ys)) h in
    let next : suc i + 1 ≡ suc (i + 1) = omega arith in
    rw next (falls-at (y ∷ ys) i both.1 (omega arith))

pub table_falls : (row : ℕ) → row + 1 < 25 → slice_index table (row + 1) < slice_index table row
table_falls row less = falls-at table row refl less

-- no entry is above the first, past the end either
most-at : (xs : List ℕ) (i : ℕ) → list_all (λ w. nat_le w 65536) xs ≡ true → get_or xs i 0 ≤ 65536
most-at [] i h = omega arith
most-at (x ∷ xs) zero h = let both = and_parts (nat_le x 65536) (list_all (λ w. nat_le w 65536) xs) h in grind (arith, nat_tests, both.0)
most-at (x ∷ xs) (suc i) h = most-at xs i (and_parts (nat_le x 65536) (list_all (λ w. nat_le w 65536) xs) h).1

pub table_most : (weight i : ℕ) → weight ≡ slice_index_or table i 0 → weight ≤ 65536
table_most weight i e = omega (arith, e, most-at table i refl)
