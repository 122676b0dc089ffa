-- Plans that a clock can be wound by, step after step.
use Rattle.std.specs.Prelude.{◌≡◌, ℕ, ◌^◌, ◌<◌, ◌≤◌, true, List, [], ◌∷◌}
use Rattle.ff_hands.specs.Orders.{is_sane}
use Rattle.ff_hands.specs.declared.hands.Order.{Order}
use Rattle.ff_hands.specs.declared.hands.Order.TheVariants as order
use Rattle.replay_run.specs.declared.plan.PlanStep.{PlanStep}

-- the count of a clock's estimate after an order
abbrev pub update_after : ℕ → Order → ℕ
update_after update order.Plain = update
update_after update (order.Take e) = e.update_ffcount
update_after update (order.Reset e) = e.update_ffcount

-- the estimate of an order is not of a later count than the step, and one to take is of a later count
-- than the clock's
abbrev pub IsInTime : ℕ → ℕ → Order → Type 0
IsInTime update to order.Plain = Unit {0}
IsInTime update to (order.Take e) = (update < e.update_ffcount) × (e.update_ffcount ≤ to)
IsInTime update to (order.Reset e) = e.update_ffcount ≤ to

-- a step fits a clock that was last wound at the count `before`, and whose estimate is of the count
-- `update`
pub record StepFits (before update : ℕ) (s : PlanStep) : Type 0 where
  pub later : before ≤ s.to
  pub most : s.to < 2 ^ 62
  pub sane : is_sane s.order ≡ true
  pub in_time : IsInTime update s.to s.order

-- each step fits the clock as the steps before it leave it
abbrev pub PlanFits : ℕ → ℕ → List PlanStep → Type 0
PlanFits before update [] = Unit {0}
PlanFits before update (s ∷ ss) = StepFits before update s × PlanFits s.to (update_after update s.order) ss
