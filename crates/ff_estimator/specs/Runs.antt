-- Whole runs of feeds, and the steps that they take.
use Rattle.std.specs.Prelude.{◌≡◌, ℕ, ◌+◌, ◌-◌, ◌≤◌, List, [], ◌∷◌}
use Rattle.ff_estimator.specs.Daemons.{Kept, credit}

-- what the ledger counted before and after a feed
pub record FeedCost : Type 0 where
  pub before : ℕ
  pub after : ℕ

-- a feed is paid for: the ledger and the daemon's credit together rise by twelve at most
abbrev pub IsPaid : Kept → FeedCost → Kept → Type 0
IsPaid old cost new = (cost.before ≤ cost.after) × (cost.after + credit new ≤ cost.before + credit old + 12)

-- feeds of these costs, each paid for, lead from the one daemon to the other
abbrev pub ArePaid : Kept → List FeedCost → Kept → Type 0
ArePaid old [] new = old ≡ new
ArePaid old (cost ∷ costs) new = (next : Kept) × IsPaid old cost next × ArePaid next costs new

-- by how much a feed raised the ledger
abbrev pub raised : FeedCost → ℕ
raised cost = cost.after - cost.before
