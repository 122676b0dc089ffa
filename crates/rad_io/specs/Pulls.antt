-- What pulls one after the other took.
use Rattle.std.specs.Prelude.{◌≡◌, ℕ, ◌<◌, List, [], ◌++◌, length, take, Option, Result, Ok, Err}
use Rattle.std.specs.Io.KnownBytes.{Consumes}
use Rattle.rad_io.specs.declared.Failed.{Failed}

-- the bytes that a pull put into the front of its room
abbrev pub front_of : Result ℕ Failed → List ℕ → List ℕ
front_of (Ok n) room = take n room
front_of (Err e) room = []

-- one pull into a room of so many bytes, with its answer and the bytes that it gave
pub record Pulled {S : Type 0} (pull : S → List ℕ → Result ℕ Failed → List ℕ → S → Type 0) (size : ℕ) (old : S) (result : Result ℕ Failed)
    (piece : List ℕ) (new : S) : Type 0 where
  pub room : List ℕ
  pub filled : List ℕ
  pub sized : length room ≡ size
  pub gives : pull old room result filled new
  pub front : piece ≡ front_of result filled

-- pulls one after the other, each of which gave bytes, and the text of all their bytes
pub data Pulls {S : Type 0} (pull : S → List ℕ → Result ℕ Failed → List ℕ → S → Type 0) (size : ℕ) (old : S) : List ℕ → S → Type 0 where
  no_pull : Pulls pull size old [] old
  one_more : (text piece : List ℕ) (n : ℕ) (mid new : S) → Pulls pull size old text mid → 0 < n → Pulled pull size mid (Ok n) piece new
      → Pulls pull size old (text ++ piece) new

-- the text was taken by such pulls from what was left, and no fault was counted
pub record Took {S : Type 0} (left : S → Option (List ℕ)) (faults : S → ℕ) (pull : S → List ℕ → Result ℕ Failed → List ℕ → S → Type 0) (size : ℕ)
    (old : S) (text : List ℕ) (new : S) : Type 0 where
  pub pulls : Pulls pull size old text new
  pub bytes : Consumes (left old) (left new) text
  pub same : faults new ≡ faults old
