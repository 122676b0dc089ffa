use Rattle.std.proofs.Common.{◌++◌, ap, subst, arith}
use Rattle.std.proofs.lemmas.List.{take_all}
use Rattle.ff_estimator.specs.Weighings.{AreSums}
use Rattle.ff_estimator.proofs.WeighingLaws.{long_weightless, more_stamps, weightless_more}
use Rattle.ff_estimator.proofs.weighings.weigh_all.Goals as goal

pub loop-s-preserved : goal.loop-s-preserved
loop-s-preserved c = record {
  few = omega arith;
  bounded = c.weigh.ensures.bounded;
  stands = λ before was. subst (AreSums c.args.freq c.args.base c.args.now c.weigh.new.sums)
      (more_stamps before c.args.stamps.now c.loop-s.s-index _ c.loop-s-test.true) (c.weigh.ensures.stands _ (c.loop-s.invariant.stands before was));
}

pub loop-s-preserved-then-s-longest : goal.loop-s-preserved-then-s-longest
loop-s-preserved-then-s-longest c =
    let none = long_weightless c.args.freq c.args.base c.args.now c.weightless_from.result c.saturating_add-longest.result _
    c.weightless_from.ensures c.saturating_add-longest.ensures c.if-s-longest.true (c.requires.timed c.loop-s.s-index _ c.loop-s-test.true) in
    record {
      few = omega arith;
      bounded = c.loop-s.invariant.bounded;
      stands = λ before was. subst (AreSums c.args.freq c.args.base c.args.now c.loop-s.sums)
          (more_stamps before c.args.stamps.now c.loop-s.s-index _ c.loop-s-test.true)
          (weightless_more c.args.freq c.args.base c.args.now c.loop-s.sums _ _ none (c.loop-s.invariant.stands before was));
    }

pub returns-clause-stands : goal.returns-clause-stands
returns-clause-stands c before was =
    subst (AreSums c.args.freq c.args.base c.args.now c.loop-s.sums)
    (ap (λ xs. before ++ xs) (take_all c.loop-s.s-index c.args.stamps.now c.loop-s-test.false)) (c.loop-s.invariant.stands before was)
