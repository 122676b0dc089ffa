-- A text that is read piece by piece.
use Rattle.std.proofs.Common.{◌≡◌, ℕ, ◌+◌, ◌-◌, ◌≤◌, List, ◌++◌, Option, Result, Ok, Err, OnOk, length, take, drop, sym, ap, ◌∙◌, append_assoc, arith, length-append, length-take, length-drop}
use Rattle.std.proofs.lemmas.List.{take_all, take-append-drop}
use Rattle.std.proofs.Math.Seq.{take-add}
use Rattle.rad_io.specs.Pushes.{Wrote, Writes}
use Rattle.rad_io.specs.declared.Failed.{Failed}
use Rattle.rad_io.proofs.Joining.{wrote-on, broke-on}
use Rattle.capture_text.specs.Readings.{IsInputStop}
use Rattle.capture_text.specs.declared.inputs.CaptureStop.{CaptureStop}
use Rattle.capture_text.specs.declared.inputs.CaptureStop.TheVariants as stop

-- the rest of a piece, as it is passed
rest_of : (piece : List ℕ) (i : ℕ) → take (length piece - i) (drop i piece) ≡ drop i piece
rest_of piece i = take_all (length piece - i) (drop i piece) (omega (arith, length-drop i piece))

-- the front of a piece, and the first bytes of its rest
pub more_read : (text piece : List ℕ) (i n : ℕ) → (text ++ take i piece) ++ take n (take (length piece - i) (drop i piece)) ≡ text ++ take (i + n) piece
more_read text piece i n = append_assoc text (take i piece) _ ∙ ap (λ (bs : List ℕ). text ++ bs) (ap (λ (bs : List ℕ). take i piece ++ take n bs) (rest_of piece i) ∙ sym (take-add i n piece))

-- the front of a piece, and its rest
pub all_read : (text piece : List ℕ) (i : ℕ) → (text ++ take i piece) ++ take (length piece - i) (drop i piece) ≡ text ++ piece
all_read text piece i = append_assoc text (take i piece) _ ∙ ap (λ (bs : List ℕ). text ++ bs) (ap (λ (bs : List ℕ). take i piece ++ bs) (rest_of piece i) ∙ take-append-drop i piece)

-- they are as long as the text and the piece
pub as_long : (text piece : List ℕ) (i : ℕ) → i ≤ length piece → length (text ++ take i piece) + length (take (length piece - i) (drop i piece)) ≡ length text + length piece
as_long text piece i h = omega (arith, length-append text (take i piece), length-take i piece, length-take (length piece - i) (drop i piece), length-drop i piece)

-- a stop with a property has what follows from it
pub stop-weaker : (s : CaptureStop) (P Q : Type 0) → (P → Q) → IsInputStop s P → IsInputStop s Q
stop-weaker stop.Memory P Q f h = tt
stop-weaker stop.ManyExchanges P Q f h = f h
stop-weaker (stop.Fault fault) P Q f h = f h

-- four facts on success are one
pub on-ok : (A B C D P : Type 0) (r : Result (Unit {0}) CaptureStop) → OnOk r A → OnOk r B → OnOk r C → OnOk r D → (A → B → C → D → P) → OnOk r P
on-ok A B C D P (Ok o) a b c d f = f a b c d
on-ok A B C D P (Err e) a b c d f = tt

-- lines behind those that were written
pub writes-on : {K : Type 0} (written : K → Option (List ℕ)) (faults : K → ℕ) (push : K → List ℕ → Result (Unit {0}) Failed → K → Type 0) (old mid new : K) (front rest : List (List ℕ)) (r : Result (Unit {0}) Failed) → Wrote written faults push old front mid → Writes written faults push mid rest r new → Writes written faults push old (front ++ rest) r new
writes-on written faults push old mid new front rest (Ok o) first later = wrote-on written faults push old mid new front rest first later
writes-on written faults push old mid new front rest (Err e) first later = broke-on written faults push old mid new front rest first later
