-- The steps of a whole run.
use Rattle.std.proofs.Common.{◌+◌, ◌*◌, ◌≤◌, List, [], ◌∷◌, sum_by, count_by, subst, ap, arith, inl, inr}
use Rattle.std.proofs.lemmas.Bool.{cases_Bool}
use Rattle.std.proofs.lemmas.Bool.Decides.{nat_tests}
use Rattle.std.proofs.lemmas.Grind.{common_steps}
use Rattle.min_lists.specs.declared.which.Which.{Which}
use Rattle.min_lists.specs.Lists.{is_same, Kept, credit_in}
use Rattle.min_lists.specs.Runs.{Call, Add, Enter, Cut, Run, enters, raised}
use Rattle.min_lists.proofs.Places.{is_same-is, is_same-not}

-- what the ledger was raised by for a window and its credit are at most two for each entry and the credit before
pub run_cost : (calls : List Call) (old last : Kept) (which : Which) → Run old calls last → sum_by (raised which) calls
    + credit_in last which ≤ credit_in old which + 2 * count_by (enters which) calls
run_cost [] old last which run = omega (arith, ap (λ k. credit_in k which) run)
run_cost (Add rtt ∷ calls) old last which run = omega (arith, run.1 which, run_cost calls run.0 last which run.2)
run_cost (Cut other from ∷ calls) old last which run = omega (arith, run.1 which, run_cost calls run.0 last which run.2)
run_cost (Enter other before after ∷ calls) old last which run =
    let rest = run_cost calls run.0 last which run.2 in
    elim (cases_Bool (is_same other which)) [
      | inl e ↦
          let own : after + credit_in run.0 which ≤ before + credit_in old which
          + 2 = subst (λ w. after + credit_in run.0 w ≤ before + credit_in old w + 2) (is_same-is other which e) run.1.1 in
          let forward : before ≤ after = run.1.0 in
          grind (arith, nat_tests, common_steps)
      | inr ne ↦
          let same = run.1.2 which (is_same-not other which ne) in
          grind (arith, nat_tests, common_steps)
    ]
