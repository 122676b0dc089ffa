-- Numbers as they are written: `0`, or a digit from 1 to 9 followed by digits.
use Rattle.std.specs.Prelude.{ℕ, ◌+◌, ◌-◌, ◌*◌, List, [], ◌∷◌, Bool, ◌&&◌, not, nat_le, if◌then◌else◌, ◌==◌, Option, None, Some}
use Rattle.std.specs.List.{list_all}
use Rattle.stamp_text.specs.Format.{digit_0, digit_9}

-- a byte is a digit
abbrev pub is_digit : ℕ → Bool
is_digit b = nat_le digit_0 b && nat_le b digit_9

abbrev pub all_digits : List ℕ → Bool
all_digits text = list_all is_digit text

-- the number that digits are, behind those of n
abbrev pub value_from : ℕ → List ℕ → ℕ
value_from n [] = n
value_from n (d ∷ ds) = value_from (n * 10 + (d - digit_0)) ds

-- a digit and what follows it are a number
abbrev pub is_number : ℕ → List ℕ → Bool
is_number b [] = is_digit b
is_number b (c ∷ cs) = not (b == digit_0) && is_digit b && all_digits (c ∷ cs)

-- the number that a text is, if it is one
abbrev pub number_in : List ℕ → Option ℕ
number_in [] = None
number_in (b ∷ bs) = if is_number b bs then Some (value_from 0 (b ∷ bs)) else None
