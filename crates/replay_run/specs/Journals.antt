-- The journal of ticks that steps make, and what a journal that they made has.
use Rattle.std.specs.Prelude.{◌≡◌, ℕ, ◌+◌, ◌≤◌, Bool, false, max, List, [], ◌∷◌, length, slice_get, Some}
use Rattle.ff_hands.specs.Journals.{order_of, IsJournal}
use Rattle.ff_hands.specs.Windups.{cold, wind_of}
use Rattle.ff_hands.specs.declared.estimates.Estimate.{Estimate}
use Rattle.ff_hands.specs.declared.hands.Hands.{Hands}
use Rattle.ff_hands.specs.declared.hands.Order.{Order}
use Rattle.ff_hands.specs.declared.hands.Order.TheVariants as order
use Rattle.replay_run.specs.declared.plan.PlanStep.{PlanStep}

-- the hands that steps make behind given ones, each at its own count
abbrev pub ticks_from : Hands → List PlanStep → List Hands
ticks_from h [] = []
ticks_from h (s ∷ ss) = wind_of h s.to s.order ∷ ticks_from (wind_of h s.to s.order) ss

-- the cold hands, and a tick for each step
unfoldable pub journal_of : List PlanStep → List Hands
journal_of steps = cold ∷ ticks_from cold steps

-- the greatest count of the steps
abbrev pub greatest : List PlanStep → ℕ
greatest [] = 0
greatest (s ∷ ss) = max s.to (greatest ss)

-- the estimates that these orders take
abbrev pub taken_in : List Order → List Estimate
taken_in [] = []
taken_in (order.Plain ∷ os) = taken_in os
taken_in (order.Take e ∷ os) = e ∷ taken_in os
taken_in (order.Reset e ∷ os) = taken_in os

-- the orders among these that are not plain
abbrev pub moves_in : List Order → List Order
moves_in [] = []
moves_in (order.Plain ∷ os) = moves_in os
moves_in (order.Take e ∷ os) = order.Take e ∷ moves_in os
moves_in (order.Reset e ∷ os) = order.Reset e ∷ moves_in os

-- a tick that a step made. Where the counter is raised beside the driver too, it may be past the step's
-- count
pub record IsTickOf (beside : Bool) (s : PlanStep) (h : Hands) : Type 0 where
  pub order : order_of h ≡ s.order
  pub reached : s.to ≤ h.count
  pub exact : beside ≡ false → h.count ≡ s.to

-- each step made its tick
abbrev pub AreTicksOf : Bool → List PlanStep → List Hands → Type 0
AreTicksOf beside steps ticks = (k : ℕ) (s : PlanStep) (h : Hands) → slice_get steps k ≡ Some s → slice_get ticks (k + 1) ≡ Some h → IsTickOf beside s h

-- a legal journal with the orders of the steps, and with their counts, or, where the counter is raised
-- beside the driver too, with counts from the step's to the greatest one
pub record IsJournalOf (beside : Bool) (steps : List PlanStep) (ticks : List Hands) : Type 0 where
  pub journal : IsJournal ticks
  pub many : length ticks ≡ 1 + length steps
  pub each : AreTicksOf beside steps ticks
  pub most : (n : ℕ) (h : Hands) → slice_get ticks n ≡ Some h → h.count ≤ greatest steps
