-- The counts of the steps of a plan, and the estimates that it takes.
use Rattle.std.proofs.Common.{◌≡◌, ℕ, zero, suc, ◌+◌, ◌-◌, ◌<◌, ◌≤◌, List, [], ◌∷◌, ◌++◌, length, map, get_or, slice_get, Some, refl, sym, ap, ◌∙◌, arith}
use Rattle.std.specs.List.{range_with_len}
use Rattle.std.specs.List.Sorted.{IsNonDecreasingBy}
use Rattle.std.proofs.lemmas.List.{map-append}
use Rattle.std.proofs.lemmas.Option.{slice_get_within, get_or_from_slice_get}
use Rattle.ff_hands.specs.declared.estimates.Estimate.{Estimate}
use Rattle.ff_hands.specs.declared.hands.Order.{Order}
use Rattle.ff_estimator.specs.Events.{count_of_event, order_of_event, fulls_of}
use Rattle.ff_estimator.specs.Folds.{estimates_of}
use Rattle.ff_estimator.specs.declared.fulls.Event.{Event}
use Rattle.ff_estimator.specs.declared.fulls.Event.TheVariants as event
use Rattle.replay_run.specs.Fitting.{PlanFits, update_after}
use Rattle.replay_run.specs.Journals.{greatest, moves_in, taken_in}
use Rattle.replay_run.specs.Plans.{start_step, plain_step, steps_between, steps_from, plan_of}
use Rattle.replay_run.specs.declared.plan.PlanStep.{PlanStep}

-- no step's count is above the greatest
pub to-greatest : (steps : List PlanStep) (k : ℕ) (s : PlanStep) → slice_get steps k ≡ Some s → s.to ≤ greatest steps
to-greatest [] k s at = absurd (let w = slice_get_within [] k s at in omega arith)
to-greatest (t ∷ steps) zero s at = (let e = ap (λ (s : PlanStep). s.to) (get_or_from_slice_get (t ∷ steps) 0 s t at) in omega arith)
to-greatest (t ∷ steps) (suc k) s at = (let w = to-greatest steps k s at in omega arith)

-- no step that fits is before the count at which the clock was wound last
fits-later : (steps : List PlanStep) (before update : ℕ) → PlanFits before update steps → (k : ℕ) (d : PlanStep) → k < length steps
    → before ≤ (get_or steps k d).to
fits-later [] before update plan k d within = absurd (omega arith)
fits-later (s ∷ steps) before update plan zero d within = plan.0.later
fits-later (s ∷ steps) before update plan (suc k) d within =
    let later = plan.0.later in
    let rest = fits-later steps s.to (update_after update s.order) plan.1 k d (omega arith) in
    omega arith

-- so their counts never fall
pub targets-rise : (steps : List PlanStep) (before update : ℕ) → PlanFits before update steps → IsNonDecreasingBy (λ s. s.to) steps
targets-rise [] before update plan i j d order within = absurd (omega arith)
targets-rise (s ∷ steps) before update plan zero zero d order within = omega arith
targets-rise (s ∷ steps) before update plan zero (suc j) d order within = fits-later steps s.to (update_after update s.order) plan.1 j d (omega arith)
targets-rise (s ∷ steps) before update plan (suc i) zero d order within = absurd (omega arith)
targets-rise (s ∷ steps) before update plan (suc i) (suc j) d order within =
    targets-rise steps s.to (update_after update s.order) plan.1 i j d (omega arith) (omega arith)

-- and the last one is the greatest
pub greatest-last : (steps : List PlanStep) (before update : ℕ) (s : PlanStep) → PlanFits before update steps
    → slice_get steps (length steps - 1) ≡ Some s → greatest steps ≡ s.to
greatest-last [] before update s plan at = absurd (let w = slice_get_within [] 0 s at in omega arith)
greatest-last (t ∷ []) before update s plan at = (let e = ap (λ (s : PlanStep). s.to) (get_or_from_slice_get (t ∷ []) 0 s t at) in omega arith)
greatest-last (t ∷ (u ∷ steps)) before update s plan at =
    let place : length (t ∷ (u ∷ steps)) - 1 ≡ suc (length (u ∷ steps) - 1) = omega arith in
    let there : slice_get (u ∷ steps) (length (u ∷ steps) - 1) ≡ Some s = ap (slice_get (t ∷ (u ∷ steps))) (sym place) ∙ at in
    let rest = greatest-last (u ∷ steps) t.to (update_after update t.order) s plan.1 there in
    let later = plan.1.0.later in
    omega arith

-- plain steps take nothing
between-takes : (ticks from to n m : ℕ) (os : List Order) → taken_in
    (map (λ (s : PlanStep). s.order) (map (plain_step ticks from to) (range_with_len m n)) ++ os) ≡ taken_in os
between-takes ticks from to zero m os = refl
between-takes ticks from to (suc n) m os = between-takes ticks from to n (m + 1) os

steps-take : (freq : ℕ) (es : List Event) (ticks : ℕ) → taken_in (map (λ (s : PlanStep). s.order) (steps_from freq es ticks)) ≡ estimates_of (fulls_of es)
steps-take freq [] ticks = refl
steps-take freq (event.Estimate f ∷ []) ticks = refl
steps-take freq (event.Set count at ∷ []) ticks = refl
steps-take freq (event.Estimate f ∷ (next ∷ es)) ticks =
    let from : ℕ = f.est.update_ffcount in
    let between : List PlanStep = steps_between ticks from (count_of_event next) in
    let rest : List PlanStep = steps_from freq (next ∷ es) ticks in
    ap (λ (es : List Estimate). f.est ∷ es) (ap taken_in (map-append (λ (s : PlanStep). s.order) between rest)
    ∙ between-takes ticks from (count_of_event next) ticks 1 (map (λ (s : PlanStep). s.order) rest) ∙ steps-take freq (next ∷ es) ticks)
steps-take freq (event.Set count at ∷ (next ∷ es)) ticks =
    let between : List PlanStep = steps_between ticks count (count_of_event next) in
    let rest : List PlanStep = steps_from freq (next ∷ es) ticks in
    ap taken_in (map-append (λ (s : PlanStep). s.order) between rest)
    ∙ between-takes ticks count (count_of_event next) ticks 1 (map (λ (s : PlanStep). s.order) rest) ∙ steps-take freq (next ∷ es) ticks

-- a plan takes each estimate once, in order
pub plan-takes : (freq : ℕ) (es : List Event) (ticks : ℕ) → taken_in (map (λ (s : PlanStep). s.order) (plan_of freq es ticks)) ≡ estimates_of (fulls_of es)
unfolding plan_of
plan-takes freq es ticks = steps-take freq es ticks

-- plain steps are no moves
between-moves : (ticks from to n m : ℕ) (os : List Order) → moves_in
    (map (λ (s : PlanStep). s.order) (map (plain_step ticks from to) (range_with_len m n)) ++ os) ≡ moves_in os
between-moves ticks from to zero m os = refl
between-moves ticks from to (suc n) m os = between-moves ticks from to n (m + 1) os

move-first : (freq : ℕ) (e : Event) (os : List Order) → moves_in (order_of_event freq e ∷ os) ≡ order_of_event freq e ∷ moves_in os
move-first freq (event.Estimate f) os = refl
move-first freq (event.Set count at) os = refl

steps-move : (freq : ℕ) (es : List Event) (ticks : ℕ) → moves_in (map (λ (s : PlanStep). s.order) (steps_from freq es ticks)) ≡ map (order_of_event freq) es
steps-move freq [] ticks = refl
steps-move freq (e ∷ []) ticks = move-first freq e []
steps-move freq (e ∷ (next ∷ es)) ticks =
    let between : List PlanStep = steps_between ticks (count_of_event e) (count_of_event next) in
    let rest : List PlanStep = steps_from freq (next ∷ es) ticks in
    move-first freq e (map (λ (s : PlanStep). s.order) (between ++ rest))
    ∙ ap (λ (os : List Order). order_of_event freq e ∷ os) (ap moves_in (map-append (λ (s : PlanStep). s.order) between rest)
    ∙ between-moves ticks (count_of_event e) (count_of_event next) ticks 1 (map (λ (s : PlanStep). s.order) rest) ∙ steps-move freq (next ∷ es) ticks)

-- a plan goes by each event once, in order
pub plan-moves : (freq : ℕ) (es : List Event) (ticks : ℕ) → moves_in (map (λ (s : PlanStep). s.order) (plan_of freq es ticks))
    ≡ (start_step freq).order ∷ map (order_of_event freq) es
unfolding plan_of
plan-moves freq es ticks = ap (λ (os : List Order). (start_step freq).order ∷ os) (steps-move freq es ticks)
