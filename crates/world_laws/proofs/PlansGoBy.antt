-- A plan goes by the estimates that it was made of.
use Rattle.std.proofs.Common.{◌≡◌, ap, ℕ, ◌≤◌, Bool, false, ◌++◌, List, [], ◌∷◌, map, refl, sym, subst, arith}
use Rattle.std.proofs.lemmas.List.{get_or-map, length-map}
use Rattle.std.specs.List.{All, Contains, range_with_len}
use Rattle.std.proofs.lemmas.List.Elements.{All-nil, All-cons, All-head, All-tail, All-append, All-map, All-contains_itself}
use Rattle.stamp_text.specs.declared.lines.Stamp.{Stamp}
use Rattle.ff_hands.specs.declared.estimates.Estimate.{Estimate}
use Rattle.ff_hands.specs.Journals.{order_of}
use Rattle.ff_hands.specs.declared.hands.Hands.{Hands}
use Rattle.ff_hands.specs.declared.hands.Order.TheVariants as order
use Rattle.stamp_text.specs.Past.{AreAcceptedItems, stamps_of}
use Rattle.stamp_text.specs.declared.lines.Item.{Item}
use Rattle.ff_estimator.specs.Events.{without_leaps, events_of, fulls_of, count_of_event}
use Rattle.ff_estimator.specs.declared.fulls.Event.{Event}
use Rattle.ff_estimator.specs.declared.fulls.Event.TheVariants as event
use Rattle.ff_estimator.specs.declared.fulls.Full.{Full}
use Rattle.ff_estimator.specs.Folds.{fold_of, estimates_of}
use Rattle.ff_estimator.proofs.Events.{fold-told, in-turn}
use Rattle.replay_run.specs.Journals.{journal_of, IsJournalOf}
use Rattle.replay_run.proofs.Fits.{plan-fits}
use Rattle.replay_run.proofs.Journals.{journal-made, orders-of}
use Rattle.world_times.specs.declared.world.World.{World}
use Rattle.world_times.specs.Worlds.{IsFit, LiesIn}
use Rattle.world_laws.specs.Truths.{AreTrueTicks}
use Rattle.world_laws.proofs.BoundsHold.{ticks-true}
use Rattle.replay_run.specs.Plans.{event_step, plain_step, start_step, steps_between, steps_from, plan_of}
use Rattle.replay_run.specs.declared.plan.PlanStep.{PlanStep}
use Rattle.world_laws.specs.Journals.{leapless, GoesBy}

abbrev Goes : ℕ → List Stamp → PlanStep → Type 0
Goes freq all s = GoesBy freq all s.order

between-go : (freq : ℕ) (all : List Stamp) (ticks from to : ℕ) → All (Goes freq all) (steps_between ticks from to)
between-go freq all ticks from to = All-map (Goes freq all) (plain_step ticks from to) (range_with_len 1 ticks) (λ k d here. tt)

-- what each element gives has, each of what they give has
all-back : {A B : Type 0} (P : B → Type 0) (g : A → B) (xs : List A) → All P (map g xs) → All (λ x. P (g x)) xs
all-back P g xs all k d within = subst P (get_or-map g xs k d (g d) within) (all k (g d) (omega (arith, length-map xs g)))

-- an estimate of these stamps, but for leap seconds
abbrev IsOf : ℕ → List Stamp → Full → Type 0
IsOf freq all f = Contains (estimates_of (fold_of freq all)) (leapless f.est)

event-goes : (freq : ℕ) (all : List Stamp) (e : Event) (es : List Event) → All (IsOf freq all) (fulls_of (e ∷ es))
    → Goes freq all (event_step freq e) × All (IsOf freq all) (fulls_of es)
event-goes freq all (event.Estimate f) es each = (All-head (IsOf freq all) f (fulls_of es) each, All-tail (IsOf freq all) f (fulls_of es) each)
event-goes freq all (event.Set count at) es each = (refl, each)

steps-go : (freq : ℕ) (all : List Stamp) (ticks : ℕ) (es : List Event) → All (IsOf freq all) (fulls_of es) → All (Goes freq all) (steps_from freq es ticks)
steps-go freq all ticks [] each = All-nil (Goes freq all)
steps-go freq all ticks (e ∷ []) each = All-cons (Goes freq all) (event_step freq e) [] (event-goes freq all e [] each).0 (All-nil (Goes freq all))
steps-go freq all ticks (e ∷ (next ∷ es)) each =
    let between : List PlanStep = steps_between ticks (count_of_event e) (count_of_event next) in
    let both = event-goes freq all e (next ∷ es) each in
    let rest = steps-go freq all ticks (next ∷ es) both.1 in
    All-cons (Goes freq all) (event_step freq e) (between ++ steps_from freq (next ∷ es) ticks) both.0
    (All-append (Goes freq all) between (steps_from freq (next ∷ es) ticks) (between-go freq all ticks (count_of_event e) (count_of_event next)) rest)

-- the events of items have the estimates of their stamps
events-are : (freq : ℕ) (items : List Item) → All (IsOf freq (stamps_of items)) (fulls_of (events_of freq items))
events-are freq items =
    let es : List Estimate = estimates_of (fold_of freq (stamps_of items)) in
    let fulls : List Full = fulls_of (events_of freq items) in
    let told : es ≡ map (λ (f : Full). f.est) (map without_leaps fulls) = ap estimates_of (sym (fold-told freq items)) in
    let each : All (Contains es) (map (λ (f : Full). f.est) (map without_leaps fulls)) = subst (All (Contains es)) told (All-contains_itself es) in
    all-back (λ (f : Full). Contains es f.est) without_leaps fulls (all-back (Contains es) (λ (f : Full). f.est) (map without_leaps fulls) each)

pub plan-goes : (freq ticks : ℕ) (items : List Item) → All (λ s. GoesBy freq (stamps_of items) s.order) (plan_of freq (events_of freq items) ticks)
unfolding plan_of
plan-goes freq ticks items = All-cons (Goes freq (stamps_of items)) (start_step freq) (steps_from freq (events_of freq items) ticks) refl
    (steps-go freq (stamps_of items) ticks (events_of freq items) (events-are freq items))

-- so does a journal of it
journal-goes : (freq between : ℕ) (beside : Bool) (items : List Item) (ticks : List Hands) → IsJournalOf beside
    (plan_of freq (events_of freq items) between) ticks → All (λ h. GoesBy freq (stamps_of items) (order_of h)) ticks
journal-goes freq between beside items ticks is k d here =
    let all : List Stamp = stamps_of items in
    let steps : List PlanStep = plan_of freq (events_of freq items) between in
    let goes : All (GoesBy freq all) (order.Plain ∷ map (λ s. s.order) steps) = All-cons (GoesBy freq all) order.Plain (map (λ s. s.order) steps) tt
    (All-map (GoesBy freq all) (λ s. s.order) steps (plan-goes freq between items)) in
    let goes' : All (GoesBy freq all) (map order_of ticks) = subst (All (GoesBy freq all)) (sym (orders-of beside steps ticks is)) goes in
    subst (GoesBy freq all) (get_or-map order_of ticks k d (order_of d) here) (goes' k (order_of d) (omega (arith, length-map ticks order_of)))

pub readings-true : (freq between : ℕ) (beside : Bool) (w : World) (items : List Item) (ticks : List Hands) → 1000000 ≤ freq → freq ≤ 16000000000
    → IsFit freq w → AreAcceptedItems freq items → All (LiesIn w) (stamps_of items)
    → IsJournalOf beside (plan_of freq (events_of freq items) between) ticks → AreTrueTicks w ticks
readings-true freq between beside w items ticks low high fit are lie is =
    ticks-true freq w (stamps_of items) ticks low high fit are.stamps lie is.journal (journal-goes freq between beside items ticks is)

pub plays-true : (freq between : ℕ) (w : World) (items : List Item) → 1000000 ≤ freq → freq ≤ 16000000000 → IsFit freq w
    → AreAcceptedItems freq items → All (LiesIn w) (stamps_of items) → AreTrueTicks w (journal_of (plan_of freq (events_of freq items) between))
plays-true freq between w items low high fit are lie =
    readings-true freq between false w items _ low high fit are lie
    (journal-made (plan_of freq (events_of freq items) between) (plan-fits freq (events_of freq items) between low (in-turn freq items low are)))
