-- What holds of each call of a relation.
use Rattle.std.specs.Prelude.{ℕ, List, Result}

-- from a stream and a room, each answer, room and stream that a read may give
abbrev pub EachRead : {S E : Type 0} → (S → List ℕ → Result ℕ E → List ℕ → S → Type 0) → (S → S → Result ℕ E → List ℕ → Type 0) → Type 0
EachRead {S} {E} gives Holds = (old new : S) (room room' : List ℕ) (r : Result ℕ E) → gives old room r room' new → Holds old new r room'

-- from a stream and bytes, each answer and stream that a write may give
abbrev pub EachWrite : {S T E : Type 0} → (S → List ℕ → Result T E → S → Type 0) → (S → S → List ℕ → Result T E → Type 0) → Type 0
EachWrite {S} {T} {E} gives Holds = (old new : S) (bytes : List ℕ) (r : Result T E) → gives old bytes r new → Holds old new bytes r
