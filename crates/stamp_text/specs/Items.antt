-- What a line of version 2 says: a stamp, a set or a leap second.
use Rattle.std.specs.Prelude.{ℕ, ℤ, pos, negsuc, List, [], ◌∷◌, Bool, ◌&&◌, ◌||◌, nat_lt, if◌then◌else◌, Option, None, Some, Result, Ok, Err, codes}
use Rattle.std.specs.Str.{bytes_eq}
use Rattle.ff_grain.specs.Grains.{of_nanos}
use Rattle.stamp_text.specs.Format.{count_limit, second_limit}
use Rattle.stamp_text.specs.Digits.{number_in}
use Rattle.stamp_text.specs.Times.{time_in}
use Rattle.stamp_text.specs.Stamps.{pieces_of, is_empty, stamp_of_pieces, stamp_in}
use Rattle.stamp_text.specs.declared.lines.Item.{Item}
use Rattle.stamp_text.specs.declared.lines.Item.TheVariants as item
use Rattle.stamp_text.specs.declared.lines.Stamp.{Stamp}
use Rattle.stamp_text.specs.declared.lines.Why.{Why}
use Rattle.stamp_text.specs.declared.lines.Why.TheVariants as why
use Rattle.stamp_text.specs.declared.numbers.Written.{Written}

-- a leap second is put in, or left out
abbrev pub sign_in : List ℕ → Option ℤ
sign_in text = if bytes_eq text (codes "1") then Some (pos 1) else if bytes_eq text (codes "-1") then Some (negsuc 0) else None

-- a counter and a time
abbrev pub set_of : Option ℕ → Option Written → Result Item Why
set_of (Some count) (Some at) = if nat_lt count count_limit && nat_lt at.sec second_limit then Ok (item.Set count (of_nanos at.sec at.nanos)) else Err why.Range
set_of _ _ = Err why.Digits

-- a counter and a sign
abbrev pub leap_of : Option ℕ → Option ℤ → Result Item Why
leap_of (Some count) (Some leap) = if nat_lt count count_limit then Ok (item.Leap count leap) else Err why.Range
leap_of _ _ = Err why.Digits

-- two pieces, none of them empty
abbrev pub two_of : List (List ℕ) → Option (List ℕ × List ℕ)
two_of (a ∷ b ∷ []) = if is_empty a || is_empty b then None else Some (a, b)
two_of _ = None

-- what they are behind the word of a set, and behind that of a leap second
abbrev pub set_says : Option (List ℕ × List ℕ) → Result Item Why
set_says None = Err why.Columns
set_says (Some p) = set_of (number_in p.0) (time_in p.1)

abbrev pub leap_says : Option (List ℕ × List ℕ) → Result Item Why
leap_says None = Err why.Columns
leap_says (Some p) = leap_of (number_in p.0) (sign_in p.1)

abbrev pub stamp_item : Result Stamp Why → Result Item Why
stamp_item (Ok stamp) = Ok (item.Stamp stamp)
stamp_item (Err w) = Err w

-- the word of a kind and two pieces, or a stamp
abbrev pub item_of_pieces : List (List ℕ) → Result Item Why
item_of_pieces [] = Err why.Columns
item_of_pieces (word ∷ rest) =
    if bytes_eq word (codes "set") then set_says (two_of rest)
    else if bytes_eq word (codes "leap") then leap_says (two_of rest)
    else stamp_item (stamp_of_pieces (word ∷ rest))

-- what a line says, in a file of version 2 or of version 1
unfoldable pub item_in : Bool → List ℕ → Result Item Why
item_in second line = if second then item_of_pieces (pieces_of line) else stamp_item (stamp_in line)
