-- Times as they are written: a number of seconds, and one to nine digits behind a point, if there is one.
use Rattle.std.specs.Prelude.{ℕ, ◌-◌, ◌^◌, min, List, ◌++◌, Bool, ◌&&◌, nat_le, if◌then◌else◌, ◌==◌, Option, None, Some, length, replicate}
use Rattle.std.specs.List.{list_any, before_first, after_first}
use Rattle.stamp_text.specs.Format.{point, digit_0}
use Rattle.stamp_text.specs.Digits.{all_digits, value_from, number_in}
use Rattle.stamp_text.specs.declared.numbers.Written.{Written}

-- one to nine digits
abbrev pub is_fraction : List ℕ → Bool
is_fraction digits = nat_le 1 (length digits) && nat_le (length digits) 9 && all_digits digits

-- digits behind a point, filled up with zeros on the right to nine: nanoseconds
abbrev pub nanos_of : List ℕ → ℕ
nanos_of digits = value_from 0 (digits ++ replicate (9 - length digits) digit_0)

abbrev pub nanos_in : List ℕ → Option ℕ
nanos_in digits = if is_fraction digits then Some (nanos_of digits) else None

-- seconds and nanoseconds, where both are told
abbrev pub written_of : Option ℕ → Option ℕ → Option Written
written_of (Some sec) (Some nanos) = Some (record { sec = sec; nanos = nanos })
written_of _ _ = None

abbrev pub is_point : ℕ → Bool
is_point b = b == point

-- the time that a text is: a number, or a number, the first point and one to nine digits
abbrev pub time_in : List ℕ → Option Written
time_in text = if list_any is_point text then written_of (number_in (before_first is_point text))
    (nanos_in (after_first is_point text)) else written_of (number_in text) (Some 0)

-- a time with its seconds, or with the greatest number of 64 bits where they are more
abbrev pub capped : Written → Written
capped t = record { sec = min t.sec (2 ^ 64 - 1); nanos = t.nanos }
