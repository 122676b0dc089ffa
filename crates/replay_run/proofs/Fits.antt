-- A plan fits a clock, step after step.
use Rattle.std.proofs.Common.{◌≡◌, ℕ, zero, suc, ◌+◌, ◌-◌, ◌*◌, ◌/◌, ◌^◌, ◌<◌, ◌≤◌, true, List, [], ◌∷◌, ◌++◌, map, length, get_or, refl, sym, subst, ap, arith}
use Rattle.std.specs.Prelude.{⊤}
use Rattle.std.specs.List.{range_with_len}
use Rattle.std.proofs.Math.Nat.{div-le_of_le-mul, div-mul-le_self, mul-le-mul_right}
use Rattle.std.proofs.lemmas.Nat.{le-div}
use Rattle.std.proofs.lemmas.Bool.Decides.{nat_tests}
use Rattle.ff_grain.specs.Periods.{nominal_period}
use Rattle.ff_hands.specs.Orders.{is_sane, is_sane_estimate}
use Rattle.ff_hands.specs.Windups.{start_time, reset_estimate}
use Rattle.ff_hands.proofs.Orders.{sane-is}
use Rattle.ff_estimator.specs.Events.{AreOf, IsLate, AreInTurn, count_of_event, order_of_event}
use Rattle.ff_estimator.specs.declared.fulls.Event.{Event}
use Rattle.ff_estimator.specs.declared.fulls.Event.TheVariants as event
use Rattle.ff_estimator.proofs.Events.{of-turn, of-rises}
use Rattle.stamp_text.specs.declared.lines.Item.{Item}
use Rattle.replay_run.specs.Plans.{event_step, count_between, plain_step, steps_between, steps_from, plan_of}
use Rattle.replay_run.specs.Fitting.{update_after, IsInTime, StepFits, PlanFits}
use Rattle.replay_run.specs.declared.plan.PlanStep.{PlanStep}

-- the parts end in order, and the last one at the end
between-later : (ticks from to m : ℕ) → count_between ticks from to m ≤ count_between ticks from to (m + 1)
between-later ticks from to m =
    let most : m * (to - from) / (ticks + 1) * (ticks + 1) ≤ m * (to - from) = div-mul-le_self (m * (to - from)) (ticks + 1) in
    let more : m * (to - from) ≤ (m + 1) * (to - from) = mul-le-mul_right (to - from) (omega arith) in
    let part : m * (to - from) / (ticks + 1) ≤ (m + 1) * (to - from) / (ticks + 1) = le-div _ _ _ (omega arith) (omega arith) in
    omega arith

between-within : (ticks from to m : ℕ) → from ≤ to → m ≤ ticks + 1 → count_between ticks from to m ≤ to
between-within ticks from to m order few =
    let most : m * (to - from) ≤ (ticks + 1) * (to - from) = mul-le-mul_right (to - from) few in
    let part : m * (to - from) / (ticks + 1) ≤ to - from = div-le_of_le-mul (ticks + 1) most in
    omega arith

-- steps at which the clock goes on fit, where what follows fits whenever they end
pub between-fits : (ticks from to update n m before : ℕ) (rest : List PlanStep) → from ≤ to → to < 2 ^ 62 → m + n ≤ ticks + 1
    → before ≤ count_between ticks from to m
    → ((count : ℕ) → count ≤ to → PlanFits count update rest) → PlanFits before update (map (plain_step ticks from to) (range_with_len m n) ++ rest)
between-fits ticks from to update zero m before rest order most few later then =
    let end = between-within ticks from to m order (omega arith) in
    then before (omega arith)
between-fits ticks from to update (suc n) m before rest order most few later then =
    let end = between-within ticks from to m order (omega arith) in
    let next = between-later ticks from to m in (
      record { later = later; most = omega arith; sane = refl; in_time = tt },
      between-fits ticks from to update n (m + 1) (count_between ticks from to m) rest order most (omega arith) next then,
    )

-- the events behind the first one
pub tail-turn : (freq : ℕ) (e : Event) (es : List Event) → AreInTurn freq (e ∷ es) → AreInTurn freq es
tail-turn freq e es are = record {
  sane = λ k d within. are.sane (suc k) d (omega arith);
  late = λ k d within. are.late (suc k) d (omega arith);
  rising = λ i j d order within. are.rising (suc i) (suc j) d (omega arith) (omega arith);
}

-- an estimate is of a later count than the clock's
abbrev pub IsNewer : ℕ → Event → Type 0
IsNewer update (event.Estimate f) = update < f.est.update_ffcount
IsNewer update (event.Set count at) = ⊤

pub newer-by : (update : ℕ) (e : Event) → update < count_of_event e → IsNewer update e
newer-by update (event.Estimate f) h = h
newer-by update (event.Set count at) h = tt

pub first-newer : (e : Event) → IsLate e → IsNewer 0 e
first-newer (event.Estimate f) h = h
first-newer (event.Set count at) h = tt

pub count-most : (freq : ℕ) (e : Event) → is_sane (order_of_event freq e) ≡ true → count_of_event e < 2 ^ 62
count-most freq (event.Estimate f) sane = (sane-is f.est sane).update
count-most freq (event.Set count at) sane = (sane-is (reset_estimate at count freq) sane).update

pub update-is : (freq update : ℕ) (e : Event) → update_after update (order_of_event freq e) ≡ count_of_event e
update-is freq update (event.Estimate f) = refl
update-is freq update (event.Set count at) = refl

pub event-in_time : (freq update : ℕ) (e : Event) → IsNewer update e → IsInTime update (count_of_event e) (order_of_event freq e)
event-in_time freq update (event.Estimate f) newer = (newer, omega arith)
event-in_time freq update (event.Set count at) newer = omega arith

event-fits : (freq : ℕ) (e : Event) (es : List Event) (before update : ℕ) → AreInTurn freq (e ∷ es) → before ≤ count_of_event e → IsNewer update e
    → StepFits before update (event_step freq e)
event-fits freq e es before update are later newer =
    let sane : is_sane (order_of_event freq e) ≡ true = are.sane 0 e (omega arith) in
    record { later = later; most = count-most freq e sane; sane = sane; in_time = event-in_time freq update e newer }

-- the clock was last wound before the first event, and has an older estimate
from-fits : (freq : ℕ) (e : Event) (es : List Event) (ticks before update : ℕ) → AreInTurn freq (e ∷ es) → before ≤ count_of_event e
    → IsNewer update e → PlanFits before update (steps_from freq (e ∷ es) ticks)
from-fits freq e [] ticks before update are later newer = (event-fits freq e [] before update are later newer, tt)
from-fits freq e (next ∷ es) ticks before update are later newer =
    let from : ℕ = count_of_event e in
    let to : ℕ = count_of_event next in
    let rises : from < to = are.rising 0 1 e (omega arith) (omega arith) in
    let most : to < 2 ^ 62 = count-most freq next (are.sane 1 e (omega arith)) in
    let rest : List PlanStep = steps_between ticks from to ++ steps_from freq (next ∷ es) ticks in
    let fits : PlanFits from from rest = between-fits ticks from to from ticks 1 from (steps_from freq (next ∷ es) ticks) (omega arith) most
    (omega arith) (omega arith) (λ count within. from-fits freq next es ticks count from (tail-turn freq e (next ∷ es) are) within
    (newer-by from next rises)) in
    (event-fits freq e (next ∷ es) before update are later newer, subst (λ u. PlanFits from u rest) (sym (update-is freq update e)) fits)

pub reset-sane : (freq : ℕ) → 1000000 ≤ freq → is_sane_estimate (reset_estimate start_time 0 freq) ≡ true
unfolding nominal_period
reset-sane freq low =
    let most : 9223372036854775808 / freq ≤ 9223372036855 = div-le_of_le-mul freq (omega arith) in
    grind (arith, nat_tests)

-- the plan for events that come in turn fits a clock that was never set
pub plan-fits : (freq : ℕ) (es : List Event) (ticks : ℕ) → 1000000 ≤ freq → AreInTurn freq es → PlanFits 0 0 (plan_of freq es ticks)
unfolding plan_of
plan-fits freq [] ticks low are = (record { later = omega arith; most = omega arith; sane = reset-sane freq low; in_time = omega arith }, tt)
plan-fits freq (e ∷ es) ticks low are = (
  record { later = omega arith; most = omega arith; sane = reset-sane freq low; in_time = omega arith },
  from-fits freq e es ticks 0 0 are (omega arith) (first-newer e (are.late 0 e (omega arith))),
)

-- so does that for the events of a daemon
pub of-plan-fits : (freq : ℕ) (events : List Event) (items : List Item) (ticks : ℕ) → 1000000 ≤ freq → AreOf events freq items
    → PlanFits 0 0 (plan_of freq events ticks)
of-plan-fits freq events items ticks low are = plan-fits freq events ticks low (of-turn events freq items low are)

-- the counts of an event and of the next one
pub counts-rise : (freq : ℕ) (events : List Event) (items : List Item) (i to : ℕ) (d : Event) (s : PlanStep) → 1000000 ≤ freq
    → AreOf events freq items → i + 1 < length events → s ≡ event_step freq (get_or events i d) → to ≡ count_of_event (get_or events (i + 1) d) → s.to ≤ to
counts-rise freq events items i to d s low are within is is_to =
    let rises = of-rises events freq items i d low are within in
    let from = ap (λ (s : PlanStep). s.to) is in
    omega (arith, rises, from, is_to)
