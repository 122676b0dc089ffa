-- Whole runs of calls, and the steps that they take.
use Rattle.std.specs.Prelude.{◌≡◌, ◌≢◌, ℕ, ◌+◌, ◌-◌, ◌≤◌, Bool, false, if◌then◌else◌, List, [], ◌∷◌}
use Rattle.min_lists.specs.declared.which.Which.{Which}
use Rattle.min_lists.specs.Lists.{Kept, is_same, credit_in}

-- a call; one that lets an index enter a window comes with the ledger before and after it
pub data Call : Type 0 where
  Add : (rtt : ℕ) → Call
  Enter : (which : Which) (before after : ℕ) → Call
  Cut : (which : Which) (from : ℕ) → Call

-- what a call does to the credits of the windows: only an entry may add to one, and the ledger and
-- the credit of its window together rise by two at most
abbrev pub Does : Kept → Call → Kept → Type 0
Does old (Add rtt) new = (which : Which) → credit_in new which ≡ credit_in old which
Does old (Enter which before after) new =
    (before ≤ after)
    × (after + credit_in new which ≤ before + credit_in old which + 2)
    × ((other : Which) → other ≢ which → credit_in new other ≡ credit_in old other)
Does old (Cut which from) new = (other : Which) → credit_in new other ≤ credit_in old other

-- these calls lead from the one to the other
abbrev pub Run : Kept → List Call → Kept → Type 0
Run old [] new = old ≡ new
Run old (call ∷ calls) new = (next : Kept) × Does old call next × Run next calls new

-- a call lets an index enter this window
abbrev pub enters : Which → Call → Bool
enters which (Enter other before after) = is_same other which
enters which _ = false

-- by how much a call for this window raised the ledger
abbrev pub raised : Which → Call → ℕ
raised which (Enter other before after) = if is_same other which then after - before else 0
raised which _ = 0
