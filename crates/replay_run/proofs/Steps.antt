-- The steps of a plan, from an event on.
use Rattle.std.proofs.Common.{◌≡◌, ℕ, zero, suc, ◌+◌, ◌-◌, ◌*◌, ◌<◌, ◌≤◌, List, [], ◌∷◌, ◌++◌, length, map, drop, get_or, refl, sym, ap, ◌∙◌, arith, append_assoc, add-one, length-append}
use Rattle.std.proofs.Math.ListN.{drop_of_length-le}
use Rattle.std.proofs.lemmas.List.{append-nil}
use Rattle.std.specs.List.{range_with_len}
use Rattle.std.proofs.lemmas.List.FromFn.{length-map-range_with_len, map-range_with_len_more}
use Rattle.ff_estimator.specs.Events.{count_of_event}
use Rattle.ff_estimator.specs.declared.fulls.Event.{Event}
use Rattle.replay_run.specs.Plans.{event_step, plain_step, steps_between, start_step, steps_from, plan_of}
use Rattle.replay_run.specs.declared.plan.PlanStep.{PlanStep}

-- one more step between two counts
pub steps_between-more : (steps old new : List PlanStep) (s : PlanStep) (ticks from to m : ℕ) → steps ≡ old
    ++ map (plain_step ticks from to) (range_with_len 1 m) → new ≡ steps ++ s ∷ [] → s ≡ plain_step ticks from to (m + 1) → new ≡ old
    ++ map (plain_step ticks from to) (range_with_len 1 (m + 1))
steps_between-more steps old new s ticks from to m so_far push is =
    let more = map-range_with_len_more (plain_step ticks from to) 1 m (m + 1) (omega arith) in
    let front = append_assoc old (map (plain_step ticks from to) (range_with_len 1 m)) (s ∷ []) in
    cc

-- a plan begins with the reset
pub plan_of-starts : (steps : List PlanStep) (freq : ℕ) (es : List Event) (ticks : ℕ) → steps ≡ start_step freq ∷ [] → steps
    ++ steps_from freq es ticks ≡ plan_of freq es ticks
unfolding plan_of
plan_of-starts steps freq es ticks is = ap (λ (ss : List PlanStep). ss ++ steps_from freq es ticks) is

-- from an event on that another one follows
steps_from-more : (freq : ℕ) (es : List Event) (i ticks : ℕ) (d : Event) → suc i < length es
    → steps_from freq (drop i es) ticks ≡ event_step freq (get_or es i d)
    ∷ (steps_between ticks (count_of_event (get_or es i d)) (count_of_event (get_or es (suc i) d)) ++ steps_from freq (drop (suc i) es) ticks)
steps_from-more freq [] i ticks d more = absurd (omega arith)
steps_from-more freq (e ∷ []) i ticks d more = absurd (omega arith)
steps_from-more freq (e ∷ (next ∷ es)) zero ticks d more = refl
steps_from-more freq (e ∷ (next ∷ es)) (suc i) ticks d more = steps_from-more freq (next ∷ es) i ticks d (omega arith)

-- from the last event on
steps_from-last : (freq : ℕ) (es : List Event) (i ticks : ℕ) (d : Event) → i + 1 ≡ length es
    → steps_from freq (drop i es) ticks ≡ event_step freq (get_or es i d) ∷ []
steps_from-last freq [] i ticks d last = absurd (omega arith)
steps_from-last freq (e ∷ []) zero ticks d last = refl
steps_from-last freq (e ∷ []) (suc i) ticks d last = absurd (omega arith)
steps_from-last freq (e ∷ (next ∷ es)) zero ticks d last = absurd (omega arith)
steps_from-last freq (e ∷ (next ∷ es)) (suc i) ticks d last = steps_from-last freq (next ∷ es) i ticks d (omega arith)

-- an event that another one follows has its step, and the clock goes on up to that one
pub taken-more : (so_far taken steps plan : List PlanStep) (s : PlanStep) (freq : ℕ) (es : List Event) (i ticks to : ℕ) (d : Event) → so_far
    ++ steps_from freq (drop i es) ticks ≡ plan → s ≡ event_step freq (get_or es i d) → to ≡ count_of_event (get_or es (i + 1) d) → taken ≡ so_far ++ s ∷ []
    → steps ≡ taken ++ steps_between ticks s.to to → i + 1 < length es → steps ++ steps_from freq (drop (i + 1) es) ticks ≡ plan
taken-more so_far taken steps plan s freq es i ticks to d whole is is_to take on more =
    let place : i + 1 ≡ suc i = add-one i in
    let rest = steps_from-more freq es i ticks d (omega arith) in
    let next : count_of_event (get_or es (suc i) d) ≡ to = ap (λ n. count_of_event (get_or es n d)) (sym place) ∙ sym is_to in
    let between : List PlanStep = steps_between ticks (count_of_event (get_or es i d)) (count_of_event (get_or es (suc i) d)) in
    let on' : steps ≡ taken ++ between = on ∙ ap (λ n. taken ++ steps_between ticks n to) (ap (λ (s : PlanStep). s.to) is)
    ∙ ap (λ n. taken ++ steps_between ticks (count_of_event (get_or es i d)) n) (sym next) in
    let take' : taken ≡ so_far ++ event_step freq (get_or es i d) ∷ [] = take ∙ ap (λ (s : PlanStep). so_far ++ s ∷ []) is in
    let after : List PlanStep = steps_from freq (drop (suc i) es) ticks in
    let first = append_assoc taken between after in
    let second = append_assoc so_far (event_step freq (get_or es i d) ∷ []) (between ++ after) in
    let here : steps ++ after ≡ plan = cc in
    ap (λ n. steps ++ steps_from freq (drop n es) ticks) place ∙ here

-- the last event has its step
pub taken-last : (so_far steps plan : List PlanStep) (s : PlanStep) (freq : ℕ) (es : List Event) (i ticks : ℕ) (d : Event) → so_far
    ++ steps_from freq (drop i es) ticks ≡ plan → s ≡ event_step freq (get_or es i d) → steps ≡ so_far ++ s ∷ []
    → i < length es → length es ≤ i + 1 → steps ++ steps_from freq (drop (i + 1) es) ticks ≡ plan
taken-last so_far steps plan s freq es i ticks d whole is take within last =
    let rest = steps_from-last freq es i ticks d (omega arith) in
    let none : drop (i + 1) es ≡ [] = drop_of_length-le es (omega arith) in
    let take' : steps ≡ so_far ++ event_step freq (get_or es i d) ∷ [] = take ∙ ap (λ (s : PlanStep). so_far ++ s ∷ []) is in
    let end = append-nil steps in
    cc

-- behind the last event the plan is whole
pub taken-all : (steps plan : List PlanStep) (freq : ℕ) (es : List Event) (i ticks : ℕ) → steps ++ steps_from freq (drop i es) ticks ≡ plan
    → length es ≤ i → steps ≡ plan
taken-all steps plan freq es i ticks whole ended =
    let none : drop i es ≡ [] = drop_of_length-le es (omega arith) in
    let end = append-nil steps in
    cc

-- how many steps there are
steps_from-len : (freq : ℕ) (es : List Event) (ticks : ℕ) → length (steps_from freq es ticks) ≡ length es + ticks * (length es - 1)
steps_from-len freq [] ticks = omega arith
steps_from-len freq (e ∷ []) ticks = omega arith
steps_from-len freq (e ∷ (next ∷ es)) ticks =
    let between : length (steps_between ticks (count_of_event e) (count_of_event next)) ≡ ticks = length-map-range_with_len _ 1 ticks in
    let both : length (steps_between ticks (count_of_event e) (count_of_event next) ++ steps_from freq (next ∷ es) ticks) ≡ length
    (steps_between ticks (count_of_event e) (count_of_event next)) + length (steps_from freq (next ∷ es) ticks) =
    length-append (steps_between ticks (count_of_event e) (count_of_event next)) _ in
    let rest : length (steps_from freq (next ∷ es) ticks) ≡ suc (length es) + ticks * (suc (length es) - 1) = steps_from-len freq (next ∷ es) ticks in
    let fewer : ticks * (suc (length es) - 1) ≡ ticks * length es = (let e : suc (length es) - 1 ≡ length es = omega arith in ap (λ n. ticks * n) e) in
    let more : ticks * (suc (suc (length es)) - 1) ≡ ticks * length es
    + ticks = (let e : suc (suc (length es)) - 1 ≡ length es + 1 = omega arith in ap (λ n. ticks * n) e ∙ omega arith) in
    omega arith

pub steps_len : (freq : ℕ) (es : List Event) (ticks : ℕ) → length (plan_of freq es ticks) ≡ 1 + length es + ticks * (length es - 1)
unfolding plan_of
steps_len freq es ticks = let rest = steps_from-len freq es ticks in omega arith
