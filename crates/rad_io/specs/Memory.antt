-- What contracts see of the source and the sink in memory, and what a call does to them.
use Rattle.std.specs.Prelude.{◌≡◌, ℕ, ◌+◌, ◌/◌, ◌<◌, ◌⊎◌, ◌↔◌, List, [], ◌++◌, length, take, min, Contains, Result, IsErr, IfOk, OnErr, Some, if◌then◌else◌, nat_lt}
use Rattle.std.specs.Io.{ReadsAtMost}
use Rattle.std.specs.Io.KnownBytes.{ReadConsumes}
use Rattle.rad_io.specs.Bytes.{PushAppends}
use Rattle.rad_io.specs.Causes.{counted_on, HasCause}
use Rattle.rad_io.specs.declared.Failed.{Failed}

-- what is left, the most bytes of a pull, the numbers of the pulls that fail, the number of the
-- next pull, and the faults so far
pub record Supply : Type 0 where
  pub left : List ℕ
  pub step : ℕ
  pub failing : List ℕ
  pub pulls : ℕ
  pub faults : ℕ

-- how many bytes a pull gives that does not fail
abbrev pub count_of : Supply → List ℕ → ℕ
count_of s room = min s.step (min (length room) (length s.left))

-- a pull fails exactly where its number is one of those, and gives the bytes in front
pub record SupplyGives (old : Supply) (room : List ℕ) (result : Result ℕ Failed) (room' : List ℕ) (new : Supply) : Type 0 where
  pub fails : IsErr result ↔ Contains old.failing old.pulls
  pub count : IfOk result (λ n. n ≡ count_of old room)
  pub within : ReadsAtMost result room'
  pub bytes : ReadConsumes (Some old.left) (Some new.left) result room'
  pub cause : HasCause old.faults new.faults result
  pub rose : OnErr result (new.faults ≡ counted_on old.faults)
  pub number : new.pulls ≡ counted_on old.pulls
  pub step : new.step ≡ old.step
  pub failing : new.failing ≡ old.failing

-- what is written, the most bytes of that, the numbers of the pushes that fail, the number of the
-- next push, and the faults so far
pub record Store : Type 0 where
  pub written : List ℕ
  pub room : ℕ
  pub failing : List ℕ
  pub pushes : ℕ
  pub faults : ℕ

-- a piece of this length does not fit, or the push is one of those that fail
abbrev pub Refuses : Store → ℕ → Type 0
Refuses s len = (s.room < length s.written + len) ⊎ Contains s.failing s.pushes

-- what a failing push appends: nothing where the piece does not fit, and else its first half
abbrev pub part_of : Store → List ℕ → List ℕ
part_of s piece = if nat_lt s.room (length s.written + length piece) then [] else take (length piece / 2) piece

-- a push fails exactly where the sink refuses it
pub record StoreGives (old : Store) (piece : List ℕ) (result : Result (Unit {0}) Failed) (new : Store) : Type 0 where
  pub fails : IsErr result ↔ Refuses old (length piece)
  pub bytes : PushAppends (Some old.written) (Some new.written) result piece
  pub part : OnErr result (new.written ≡ old.written ++ part_of old piece)
  pub cause : HasCause old.faults new.faults result
  pub rose : OnErr result (new.faults ≡ counted_on old.faults)
  pub number : new.pushes ≡ counted_on old.pushes
  pub room : new.room ≡ old.room
  pub failing : new.failing ≡ old.failing
