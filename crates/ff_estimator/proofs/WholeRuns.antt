-- The steps of whole runs.
use Rattle.std.proofs.Common.{ℕ, ◌+◌, ◌*◌, ◌≤◌, List, [], ◌∷◌, length, sum_by, ap, arith}
use Rattle.std.proofs.lemmas.List.Sums.{sum_by-cons}
use Rattle.rtt_window.proofs.Listed.{credit-none}
use Rattle.ff_estimator.specs.Daemons.{Kept, StandsFor, credit}
use Rattle.ff_estimator.specs.Runs.{FeedCost, ArePaid, raised}

-- what the ledger was raised by and the credit are at most twelve for each feed and the credit before
run_cost : (costs : List FeedCost) (old last : Kept) → ArePaid old costs last → sum_by raised costs + credit last ≤ credit old + 12 * length costs
run_cost [] old last paid = omega (arith, ap credit paid)
run_cost (cost ∷ costs) old last paid = omega (arith, paid.1, sum_by-cons raised cost costs, run_cost costs paid.0 last paid.2)

pub steps-of-new : (freq : ℕ) (costs : List FeedCost) (new last : Kept) → StandsFor new freq [] → ArePaid new costs last
    → sum_by raised costs ≤ 12 * length costs
steps-of-new freq costs new last none paid = omega (arith, run_cost costs new last paid, credit-none new.window freq none.window)
