use Rattle.std.proofs.Common.{◌≡◌, refl, arith}
use Rattle.min_lists.specs.Lists.{nothing, lows, credit_in}
use Rattle.min_lists.specs.declared.which.Which.{Which}
use Rattle.min_lists.specs.declared.which.Which.TheVariants.{Base, Recent, WideOld, WideNew, NearOld, NearNew}
use Rattle.min_lists.proofs.WholeRuns.{run_cost}
use Rattle.min_lists.proofs.laws.an_index_takes_two_steps.Goals as goal

no_credit : (which : Which) → credit_in nothing which ≡ 0
unfolding credit_in lows
no_credit Base = refl
no_credit Recent = refl
no_credit WideOld = refl
no_credit WideNew = refl
no_credit NearOld = refl
no_credit NearNew = refl

pub returns : goal.returns
returns c = λ calls last which run. omega (arith, run_cost calls nothing last which run, no_credit which)
