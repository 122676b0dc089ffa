use Rattle.std.proofs.Common.{◌+◌, ◌-◌, ◌^◌, ◌<◌, ◌≤◌, ℕ, List, ◌++◌, length, take}
use Rattle.capture_text.specs.Readings.{Reads}
use Rattle.capture_text.proofs.keeps.take_piece.Given as goal

abbrev pub invariant-loop-read : goal.invariant-loop-read
invariant-loop-read l = record {
  within : l.read ≤ length l.piece;
  reads : (text : List ℕ) → length text + length l.piece < 2 ^ 62 → Reads l.initial.capture l.initial.matcher l.initial.file text → Reads l.capture l.matcher l.file (text ++ take l.read l.piece);
}

abbrev pub decreases-loop-read : goal.decreases-loop-read
decreases-loop-read l = length l.piece - l.read
