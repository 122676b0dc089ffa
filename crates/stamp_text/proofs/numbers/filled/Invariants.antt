use Rattle.std.proofs.Common.{◌≡◌, ◌-◌, ◌^◌, ◌<◌, replicate}
use Rattle.stamp_text.specs.Digits.{value_from}
use Rattle.stamp_text.proofs.numbers.filled.Given as goal

abbrev pub invariant-loop-place : goal.invariant-loop-place
invariant-loop-place l = record {
  below : l.filled < 10 ^ l._place;
  value : value_from l.filled (replicate (9 - l._place) 48) ≡ value_from l.value (replicate (9 - l.digits) 48);
}
