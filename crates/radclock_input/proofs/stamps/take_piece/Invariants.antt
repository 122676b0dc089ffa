use Rattle.std.proofs.Common.{◌+◌, ◌-◌, ◌^◌, ◌<◌, ◌≤◌, ℕ, Bool, List, ◌++◌, length, take}
use Rattle.radclock_input.specs.Readings.{Reads}
use Rattle.radclock_input.proofs.stamps.take_piece.Given as goal

abbrev pub invariant-loop-read : goal.invariant-loop-read
invariant-loop-read l = record {
  within : l.read ≤ length l.piece;
  reads : (limited : Bool) (text : List ℕ) → length text + length l.piece < 2 ^ 62 → Reads limited l.initial.feed l.initial.file l.initial.quota text
      → Reads limited l.feed l.file l.quota (text ++ take l.read l.piece);
}

abbrev pub decreases-loop-read : goal.decreases-loop-read
decreases-loop-read l = length l.piece - l.read
