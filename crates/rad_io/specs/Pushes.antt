-- What pushes one after the other wrote.
use Rattle.std.specs.Prelude.{◌≡◌, ℕ, ◌≤◌, List, [], ◌∷◌, ◌++◌, Option, Result, Ok, Err, MatchResult}
use Rattle.std.specs.List.{concat}
use Rattle.std.specs.Io.KnownBytes.{Appends}
use Rattle.rad_io.specs.Bytes.{AppendsFront}
use Rattle.rad_io.specs.Causes.{Rose}
use Rattle.rad_io.specs.declared.Failed.{Failed}

-- pushes one after the other, one for each piece, none of which failed
pub data Pushes {K : Type 0} (push : K → List ℕ → Result (Unit {0}) Failed → K → Type 0) (old : K) : List (List ℕ) → K → Type 0 where
  no_push : Pushes push old [] old
  one_more : (pieces : List (List ℕ)) (piece : List ℕ) (mid new : K) → Pushes push old pieces mid → push mid piece (Ok tt) new
      → Pushes push old (pieces ++ piece ∷ []) new

-- all pieces were written, each by one push, and no fault was counted
pub record Wrote {K : Type 0} (written : K → Option (List ℕ)) (faults : K → ℕ) (push : K → List ℕ → Result (Unit {0}) Failed → K → Type 0) (old : K)
    (pieces : List (List ℕ)) (new : K) : Type 0 where
  pub pushes : Pushes push old pieces new
  pub bytes : Appends (written old) (written new) (concat pieces)
  pub same : faults new ≡ faults old

-- the push of one of the pieces failed, and was the last push
pub record Broke {K : Type 0} (written : K → Option (List ℕ)) (faults : K → ℕ) (push : K → List ℕ → Result (Unit {0}) Failed → K → Type 0) (old : K)
    (pieces : List (List ℕ)) (new : K) : Type 0 where
  pub front : List (List ℕ)
  pub failed : List ℕ
  pub rest : List (List ℕ)
  pub cut : pieces ≡ front ++ failed ∷ rest
  pub mid : K
  pub pushes : Pushes push old front mid
  pub last : push mid failed (Err (record {})) new
  pub bytes : AppendsFront (written old) (written new) (concat pieces)
  pub later : faults old ≤ faults new
  pub rose : Rose (faults old) (faults new)

-- the pieces were written, or one of the pushes failed
abbrev pub Writes : {K T : Type 0} (written : K → Option (List ℕ)) (faults : K → ℕ) (push : K → List ℕ → Result (Unit {0}) Failed → K → Type 0)
    (old : K) (pieces : List (List ℕ)) (result : Result T Failed) (new : K) → Type 0
Writes written faults push old pieces result new = MatchResult result (λ _. Wrote written faults push old pieces new)
    (λ _. Broke written faults push old pieces new)
