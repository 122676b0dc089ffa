-- A text that is read piece by piece.
use Rattle.std.proofs.Common.{◌≡◌, ℕ, ◌+◌, ◌-◌, ◌≤◌, Bool, List, ◌++◌, length, take, drop, sym, ap, ◌∙◌, append_assoc, Some, arith, length-append, length-take, length-drop}
use Rattle.std.proofs.lemmas.List.{take_all, take-append-drop}
use Rattle.std.proofs.Math.Seq.{take-add}
use Rattle.radclock_input.specs.declared.stops.Stop.{Stop}
use Rattle.radclock_input.specs.Inputs.{stop_within}
use Rattle.radclock_input.proofs.Stopping.{stop_within-stays}

-- what stops a text behind the first bytes of a piece stops it with the whole piece
pub front-stops : (limited : Bool) (text piece : List ℕ) (n : ℕ) (s : Stop) → stop_within limited (text ++ take n piece) ≡ Some s
    → stop_within limited (text ++ piece) ≡ Some s
front-stops limited text piece n s found =
    ap (stop_within limited) (sym (append_assoc text (take n piece) (drop n piece) ∙ ap (λ (r : List ℕ). text ++ r) (take-append-drop n piece)))
    ∙ stop_within-stays limited (text ++ take n piece) (drop n piece) s found

-- the rest of a piece, as it is passed
rest_of : (piece : List ℕ) (i : ℕ) → take (length piece - i) (drop i piece) ≡ drop i piece
rest_of piece i = take_all (length piece - i) (drop i piece) (omega (arith, length-drop i piece))

-- the front of a piece, and the first bytes of its rest
pub more_read : (text piece : List ℕ) (i n : ℕ) → (text ++ take i piece) ++ take n (take (length piece - i) (drop i piece)) ≡ text ++ take (i + n) piece
more_read text piece i n = append_assoc text (take i piece) _
    ∙ ap (λ (bs : List ℕ). text ++ bs) (ap (λ (bs : List ℕ). take i piece ++ take n bs) (rest_of piece i) ∙ sym (take-add i n piece))

-- the front of a piece, and its rest
pub all_read : (text piece : List ℕ) (i : ℕ) → (text ++ take i piece) ++ take (length piece - i) (drop i piece) ≡ text ++ piece
all_read text piece i = append_assoc text (take i piece) _ ∙ ap (λ (bs : List ℕ). text ++ bs)
    (ap (λ (bs : List ℕ). take i piece ++ bs) (rest_of piece i) ∙ take-append-drop i piece)

-- they are as long as the text and the piece
pub as_long : (text piece : List ℕ) (i : ℕ) → i ≤ length piece → length (text ++ take i piece)
    + length (take (length piece - i) (drop i piece)) ≡ length text + length piece
as_long text piece i h = omega (
  arith,
  length-append text (take i piece),
  length-take i piece,
  length-take (length piece - i) (drop i piece),
  length-drop i piece,
)
