-- What a text begins with: digits, a piece that is a number or a time, a stamp line. No public clause cites this: it
-- is a step of the proof that a line is read in one walk.
use Rattle.std.specs.Prelude.{◌≡◌, ◌<◌, ◌≤◌, ◌^◌, ℕ, List, ◌∷◌, ◌++◌, Bool, true, false, Some, Result, length, take}
use Rattle.std.specs.List.{All}
use Rattle.stamp_text.specs.Format.{space, point, line_limit}
use Rattle.stamp_text.specs.Digits.{all_digits, value_from, number_in}
use Rattle.stamp_text.specs.Times.{time_in}
use Rattle.stamp_text.specs.Stamps.{stamp_in}
use Rattle.stamp_text.specs.Items.{stamp_item}
use Rattle.stamp_text.specs.Grammar.{short_says, item_at}
use Rattle.stamp_text.specs.declared.lines.Stamp.{Stamp}
use Rattle.stamp_text.specs.declared.lines.Why.{Why}
use Rattle.stamp_text.specs.declared.numbers.Written.{Written}

-- the first bytes, so many, are digits of this value
pub record BeginsWithDigits (text : List ℕ) (n count : ℕ) : Type 0 where
  pub within : count ≤ length text
  pub few : count ≤ 19
  pub digits : all_digits (take count text) ≡ true
  pub value : n ≡ value_from 0 (take count text)
  pub below : n < 10 ^ count

-- the first bytes, so many, are the digits of this number
pub record BeginsWithNumber (text : List ℕ) (n count : ℕ) : Type 0 where
  pub within : count ≤ length text
  pub few : count ≤ 19
  pub some : 0 < count
  pub digits : all_digits (take count text) ≡ true
  pub number : number_in (take count text) ≡ Some n

-- a piece, and the rest behind its space; no byte of the piece is below a point, so none is a space or ends a line
pub record IsFirstPiece (text piece rest : List ℕ) : Type 0 where
  pub split : text ≡ piece ++ space ∷ rest
  pub plain : All (λ b. point ≤ b) piece
  pub some : 0 < length piece
  pub short : length piece ≤ 29

-- the first piece is this number
pub record IsNumberPiece (text : List ℕ) (n : ℕ) (rest : List ℕ) : Type 0 where
  pub piece : List ℕ
  pub first : IsFirstPiece text piece rest
  pub number : number_in piece ≡ Some n

-- the first piece is this time
pub record IsTimePiece (text : List ℕ) (t : Written) (rest : List ℕ) : Type 0 where
  pub piece : List ℕ
  pub first : IsFirstPiece text piece rest
  pub time : time_in piece ≡ Some t

-- the first bytes, so many, are a line of such a file that says this stamp; none of them ends a line
pub record BeginsWithLine (second : Bool) (text : List ℕ) (r : Result Stamp Why) (count : ℕ) : Type 0 where
  pub within : count ≤ length text
  pub room : count ≤ line_limit
  pub inner : All (λ b. space ≤ b) (take count text)
  pub says : (n : ℕ) → 2 < n → short_says second n (take count text) ≡ item_at n (stamp_item r)

-- the same of version 1, with what a stamp line says
pub record BeginsWithStamp (text : List ℕ) (r : Result Stamp Why) (count : ℕ) : Type 0 where
  pub within : count ≤ length text
  pub room : count ≤ line_limit
  pub inner : All (λ b. space ≤ b) (take count text)
  pub stamp : r ≡ stamp_in (take count text)
  pub says : (n : ℕ) → 2 < n → short_says false n (take count text) ≡ item_at n (stamp_item r)
