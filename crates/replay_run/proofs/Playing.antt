-- A step that fits a clock is not refused.
use Rattle.std.proofs.Common.{◌≡◌, ℕ, ◌^◌, ◌<◌, ◌≤◌, Bool, true, false, cond, refl, arith}
use Rattle.std.proofs.lemmas.Bool.Decides.{nat_tests}
use Rattle.ff_hands.specs.Orders.{is_in_time, fits}
use Rattle.ff_hands.specs.Windups.{jumps, take_jump, take_on, wind_of}
use Rattle.ff_hands.specs.declared.hands.Hands.{Hands}
use Rattle.ff_hands.specs.declared.hands.Order.{Order}
use Rattle.ff_hands.specs.declared.hands.Order.TheVariants as order
use Rattle.replay_run.specs.Fitting.{update_after, IsInTime, StepFits}
use Rattle.replay_run.specs.declared.plan.PlanStep.{PlanStep}
use Rattle.ff_estimator.proofs.Taken.{and_both}

-- the order is in time at its step's count, and so at a later one
in-time : (h : Hands) (count to : ℕ) (o : Order) → IsInTime h.est.update_ffcount to o → to ≤ count → is_in_time h count o ≡ true
in-time h count to order.Plain is reached = refl
in-time h count to (order.Take e) is reached = (let newer = is.0 in let not_later = is.1 in grind (arith, nat_tests))
in-time h count to (order.Reset e) is reached = grind (arith, nat_tests)

-- a step that fits may be played at a count that has reached it
pub step-fits : (h : Hands) (count before : ℕ) (s : PlanStep) → StepFits before h.est.update_ffcount s → s.to ≤ count → h.count ≤ count
    → count < 2 ^ 62 → fits h count s.order ≡ true
step-fits h count before s step reached later most =
    and_both _ _ (and_both _ _ (and_both _ _ step.sane (grind (arith, nat_tests))) (grind (arith, nat_tests)))
    (in-time h count s.to s.order step.in_time reached)

-- the count of the estimate after a windup
pub update-wound : (h : Hands) (count : ℕ) (o : Order) → (wind_of h count o).est.update_ffcount ≡ update_after h.est.update_ffcount o
unfolding wind_of
update-wound h count order.Plain = refl
update-wound h count (order.Take e) = by_test (jumps h e)
  where
    by_test : (b : Bool) → (cond b (take_jump h count e) (take_on h count e)).est.update_ffcount ≡ e.update_ffcount
    by_test true = refl
    by_test false = refl
update-wound h count (order.Reset e) = refl
