-- What a stamp line says.
use Rattle.std.specs.Prelude.{ℕ, List, [], ◌∷◌, ◌++◌, codes, Bool, true, false, ◌&&◌, ◌||◌, nat_lt, if◌then◌else◌, ◌==◌, Option, Some, Result, Ok, Err}
use Rattle.std.specs.List.{slice_split}
use Rattle.ff_grain.specs.Grains.{of_nanos}
use Rattle.stamp_text.specs.Format.{space, count_limit, second_limit, stratum_limit, leap_limit}
use Rattle.stamp_text.specs.Digits.{number_in}
use Rattle.stamp_text.specs.Times.{time_in}
use Rattle.stamp_text.specs.declared.lines.Stamp.{Stamp}
use Rattle.stamp_text.specs.declared.lines.Why.{Why}
use Rattle.stamp_text.specs.declared.lines.Why.TheVariants as why
use Rattle.stamp_text.specs.declared.numbers.Written.{Written}

-- a line, cut at each space
abbrev pub pieces_of : List ℕ → List (List ℕ)
pieces_of line = slice_split (λ b. b == space) line

-- counters below 2^62, seconds below 2^32, a stratum below 256 and a leap below 4
abbrev pub stamp_within : ℕ → Written → Written → ℕ → ℕ → ℕ → Result Stamp Why
stamp_within ta tb te tf stratum leap = if nat_lt ta count_limit && nat_lt tb.sec second_limit && nat_lt te.sec second_limit && nat_lt tf count_limit
    && nat_lt stratum stratum_limit && nat_lt leap leap_limit then Ok
    (record { ta = ta; tb = of_nanos tb.sec tb.nanos; te = of_nanos te.sec te.nanos; tf = tf; stratum = stratum; leap = leap }) else Err why.Range

-- a counter, two times, and three numbers
abbrev pub stamp_of_numbers : Option ℕ → Option Written → Option Written → Option ℕ → Option ℕ → Option ℕ → Result Stamp Why
stamp_of_numbers (Some ta) (Some tb) (Some te) (Some tf) (Some stratum) (Some leap) = stamp_within ta tb te tf stratum leap
stamp_of_numbers _ _ _ _ _ _ = Err why.Digits

abbrev pub is_empty : List ℕ → Bool
is_empty [] = true
is_empty (b ∷ bs) = false

-- six pieces, none of them empty
abbrev pub stamp_of_pieces : List (List ℕ) → Result Stamp Why
stamp_of_pieces (a ∷ b ∷ c ∷ d ∷ e ∷ f ∷ []) = if is_empty a || is_empty b || is_empty c || is_empty d || is_empty e
    || is_empty f then Err why.Columns else stamp_of_numbers (number_in a) (time_in b) (time_in c) (number_in d) (number_in e) (number_in f)
stamp_of_pieces _ = Err why.Columns

-- a line of version 1 has four pieces: its stratum is 1, and its leap 0
abbrev pub with_rest : List (List ℕ) → List (List ℕ)
with_rest pieces = pieces ++ codes "1" ∷ codes "0" ∷ []

-- what a stamp line of version 1 says
unfoldable pub stamp_in : List ℕ → Result Stamp Why
stamp_in line = stamp_of_pieces (with_rest (pieces_of line))
