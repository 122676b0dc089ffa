use Rattle.std.proofs.Common.{List, ◌++◌, ◌+◌, ◌≤◌, take}
use Rattle.stamp_text.specs.declared.lines.Stamp.{Stamp}
use Rattle.ff_estimator.specs.Weighings.{AreSums, IsBounded}
use Rattle.ff_estimator.proofs.weighings.weigh_all.Given as goal

abbrev pub invariant-loop-s : goal.invariant-loop-s
invariant-loop-s l = record {
  few : l.sums.added ≤ l.fn.sums.added + l.s-index;
  bounded : IsBounded l.sums;
  stands : (before : List Stamp) → AreSums l.freq l.base l.now l.fn.sums before → AreSums l.freq l.base l.now l.sums (before ++ take l.s-index l.stamps);
}
