-- What a call does to the adapters of streams: which reads and writes it makes, and what it makes of
-- their answers. Of the bytes it tells what the stream tells.
use Rattle.std.specs.Prelude.{◌≡◌, ◌↔◌, ℕ, ◌<◌, List, [], length, drop, Option, Result, Ok, MatchResult, ⊤, IsOk, IsErr, IfOk, OnErr}
use Rattle.std.specs.Io.{ReadsAtMost}
use Rattle.std.specs.Io.KnownBytes.{ReadConsumes}
use Rattle.rad_io.specs.Bytes.{PushAppends}
use Rattle.rad_io.specs.Causes.{counted_on, HasCause}
use Rattle.rad_io.specs.declared.Failed.{Failed}

-- a write failed, or took no bytes
abbrev pub TakesNothing : {E : Type 0} → Result ℕ E → Type 0
TakesNothing answer = MatchResult answer (λ n. n ≡ 0) (λ _. ⊤)

-- what is made of a stream's answer: one of the faults fails, and raises the count by one, and the
-- count of any other is handed on
pub record Settles {E : Type 0} (IsFault : Result ℕ E → Type 0) (answer : Result ℕ E) (before now : ℕ) (result : Result ℕ Failed) : Type 0 where
  pub fails : IsErr result ↔ IsFault answer
  pub count : IfOk result (λ n. answer ≡ Ok n)
  pub cause : HasCause before now result
  pub rose : OnErr result (now ≡ counted_on before)

-- a pull: one read, whose error alone is a fault
pub record ReaderGives {R E : Type 0} (left : R → Option (List ℕ)) (reads : R → List ℕ → Result ℕ E → List ℕ → R → Type 0) (old : R) (room : List ℕ)
    (faults faults' : ℕ) (result : Result ℕ Failed) (room' : List ℕ) (new : R) : Type 0 where
  pub answer : Result ℕ E
  pub read : reads old room answer room' new
  pub settled : Settles IsErr answer faults faults' result
  pub within : ReadsAtMost result room'
  pub bytes : ReadConsumes (left old) (left new) result room'

-- writes one after the other, the first of the whole piece and each other of what was left, all of
-- which took bytes; and what is left then
pub data Taken {W E : Type 0} (writes : W → List ℕ → Result ℕ E → W → Type 0) (old : W) (piece : List ℕ) : List ℕ → W → Type 0 where
  no_write : Taken writes old piece piece old
  one_more : (rest : List ℕ) (n : ℕ) (mid new : W) → Taken writes old piece rest mid → 0 < n → writes mid rest (Ok n) new
      → Taken writes old piece (drop n rest) new

-- then one more write of what was left, which failed or took nothing
pub record Halted {W E : Type 0} (writes : W → List ℕ → Result ℕ E → W → Type 0) (old : W) (piece : List ℕ) (new : W) : Type 0 where
  pub rest : List ℕ
  pub mid : W
  pub answer : Result ℕ E
  pub before : Taken writes old piece rest mid
  pub some : 0 < length rest
  pub last : writes mid rest answer new
  pub stop : TakesNothing answer

-- a push: writes until the whole piece is taken, or one fails or takes nothing
pub record WriterGives {W E : Type 0} (written : W → Option (List ℕ)) (writes : W → List ℕ → Result ℕ E → W → Type 0) (old : W) (piece : List ℕ)
    (faults faults' : ℕ) (result : Result (Unit {0}) Failed) (new : W) : Type 0 where
  pub made : MatchResult result (λ _. Taken writes old piece [] new) (λ _. Halted writes old piece new)
  pub empty : piece ≡ [] → IsOk result
  pub bytes : PushAppends (written old) (written new) result piece
  pub cause : HasCause faults faults' result
  pub rose : OnErr result (faults' ≡ counted_on faults)
