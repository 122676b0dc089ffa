-- What a sink does that gathers what is pushed into blocks.
use Rattle.std.specs.Prelude.{◌≡◌, ℕ, ◌<◌, ◌≤◌, ◌⊎◌, List, [], ◌++◌, length, Option, None, Result, MatchResult, OnErr, IsErr}
use Rattle.std.specs.List.{concat, All}
use Rattle.rad_io.specs.Bytes.{PushAppends}
use Rattle.rad_io.specs.Causes.{counted_on, HasCause}
use Rattle.rad_io.specs.Pushes.{Wrote, Broke, Writes}
use Rattle.rad_io.specs.declared.Failed.{Failed}

-- the sink behind, what is held for it, and the faults so far
pub record Gathering (K : Type 0) : Type 0 where
  pub sink : K
  pub block : List ℕ
  pub faults : ℕ

-- nothing is held, and nothing failed
pub record IsFresh {K : Type 0} (sink : K) (g : Gathering K) : Type 0 where
  pub behind : g.sink ≡ sink
  pub block : g.block ≡ []
  pub faults : g.faults ≡ 0

-- the bytes of a block
abbrev pub block_bytes : ℕ
block_bytes = 65536

abbrev pub IsBlock : List ℕ → Type 0
IsBlock block = length block ≡ block_bytes

-- a push of no more bytes than a block has
abbrev pub Short : {K : Type 0} → (K → List ℕ → Result (Unit {0}) Failed → K → Type 0) → K → List ℕ → Result (Unit {0}) Failed → K → Type 0
Short push old piece result new = (length piece ≤ block_bytes) × push old piece result new

-- whole blocks of what was held and of the piece were handed on, each by one push, none of which
-- failed, and the rest is held
pub record HandsOn {K : Type 0} (written : K → Option (List ℕ)) (faults : K → ℕ) (push : K → List ℕ → Result (Unit {0}) Failed → K → Type 0)
    (old : Gathering K) (piece : List ℕ) (new : Gathering K) : Type 0 where
  pub blocks : List (List ℕ)
  pub whole : All IsBlock blocks
  pub wrote : Wrote written faults push old.sink blocks new.sink
  pub bytes : old.block ++ piece ≡ concat blocks ++ new.block
  pub sound : old.faults ≡ 0
  pub same : new.faults ≡ 0

-- the push of such a block failed, and was the last one
pub record StopsAt {K : Type 0} (written : K → Option (List ℕ)) (faults : K → ℕ) (push : K → List ℕ → Result (Unit {0}) Failed → K → Type 0)
    (old : Gathering K) (piece : List ℕ) (new : Gathering K) : Type 0 where
  pub blocks : List (List ℕ)
  pub broke : Broke written faults push old.sink blocks new.sink
  pub bytes : old.block ++ piece ≡ concat blocks
  pub sound : old.faults ≡ 0
  pub first : new.faults ≡ 1

-- nothing is handed on behind a push that failed
pub record Refuses {K : Type 0} (old new : Gathering K) : Type 0 where
  pub failed : 0 < old.faults
  pub same : new.sink ≡ old.sink

-- a push: where it fails, the count of faults rises by one
pub record BlockGives {K : Type 0} (written : K → Option (List ℕ)) (faults : K → ℕ) (push : K → List ℕ → Result (Unit {0}) Failed → K → Type 0)
    (old : Gathering K) (piece : List ℕ) (result : Result (Unit {0}) Failed) (new : Gathering K) : Type 0 where
  pub cause : HasCause old.faults new.faults result
  pub rose : OnErr result (new.faults ≡ counted_on old.faults)
  pub untold : PushAppends None None result piece
  pub hands : MatchResult result (λ _. HandsOn written faults push old piece new) (λ _. Refuses old new ⊎ StopsAt written faults push old piece new)

-- what is held is handed on as the last block, where there is some and nothing failed
pub record Closes {K : Type 0} (written : K → Option (List ℕ)) (faults : K → ℕ) (push : K → List ℕ → Result (Unit {0}) Failed → K → Type 0)
    (old : Gathering K) (result : Result (Unit {0}) Failed) (new : K) : Type 0 where
  pub sound : old.faults ≡ 0 → (blocks : List (List ℕ)) × (concat blocks ≡ old.block) × Writes written faults push old.sink blocks result new
  pub failed : 0 < old.faults → IsErr result × (new ≡ old.sink)

-- lines were written in blocks: each block by one push
pub record InBlocks {K T : Type 0} (written : K → Option (List ℕ)) (faults : K → ℕ) (push : K → List ℕ → Result (Unit {0}) Failed → K → Type 0)
    (old : K) (lines : List (List ℕ)) (result : Result T Failed) (new : K) : Type 0 where
  pub blocks : List (List ℕ)
  pub bytes : concat blocks ≡ concat lines
  pub writes : Writes written faults push old blocks result new
