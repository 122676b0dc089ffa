use Rattle.std.proofs.Common.{◌-◌, length}
use Rattle.stamp_text.proofs.DigitLaws.{DigitsSoFar}
use Rattle.stamp_text.proofs.numbers.digits_ahead.Given as goal

abbrev pub invariant-loop-count : goal.invariant-loop-count
invariant-loop-count l = DigitsSoFar l.text l.value l.count

abbrev pub decreases-loop-count : goal.decreases-loop-count
decreases-loop-count l = length l.text - l.count
