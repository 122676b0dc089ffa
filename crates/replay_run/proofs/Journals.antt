-- The journal that steps make, and that no other is like it.
use Rattle.std.proofs.Common.{◌≡◌, ℕ, zero, suc, ◌+◌, ◌≤◌, true, false, Bool, List, [], ◌∷◌, length, map, get_or, slice_get, Some, refl, sym, ap, ap₂, ◌∙◌, subst, arith}
use Rattle.std.specs.Option.{option_map}
use Rattle.std.proofs.lemmas.List.{length-map}
use Rattle.std.proofs.lemmas.Option.{slice_get_within, slice_get-get_or, slice_get-map, get_or_from_slice_get}
use Rattle.ff_hands.specs.Journals.{order_of, Follows, IsJournal}
use Rattle.ff_hands.specs.Orders.{fits}
use Rattle.ff_hands.specs.Windups.{cold, wind_of}
use Rattle.ff_hands.specs.declared.hands.Hands.{Hands}
use Rattle.ff_hands.specs.declared.hands.Order.{Order}
use Rattle.ff_hands.specs.declared.hands.Order.TheVariants as order
use Rattle.ff_hands.proofs.Winding.{order_of-wound, count-wound}
use Rattle.replay_run.specs.Fitting.{PlanFits}
use Rattle.replay_run.specs.Journals.{ticks_from, journal_of, greatest, IsTickOf, AreTicksOf, IsJournalOf}
use Rattle.replay_run.specs.declared.plan.PlanStep.{PlanStep}
use Rattle.replay_run.proofs.Playing.{step-fits, update-wound}
use Rattle.replay_run.proofs.Targets.{to-greatest}

-- what a windup makes follows
wound-follows : (h : Hands) (count : ℕ) (o : Order) → fits h count o ≡ true → Follows h (wind_of h count o)
wound-follows h count o f = record {
  fits = ap₂ (fits h) (count-wound h count o) (order_of-wound h count o) ∙ f;
  wound = sym (ap₂ (wind_of h) (count-wound h count o) (order_of-wound h count o));
}

-- the ticks of steps that fit follow one another
ticks-follow : (steps : List PlanStep) (h : Hands) (before : ℕ) → PlanFits before h.est.update_ffcount steps → h.count ≤ before
    → (n : ℕ) (a b : Hands) → slice_get (h ∷ ticks_from h steps) n ≡ Some a → slice_get (h ∷ ticks_from h steps) (suc n) ≡ Some b → Follows a b
ticks-follow [] h before plan was n a b at then = absurd (let w = slice_get_within (h ∷ []) (suc n) b then in omega arith)
ticks-follow (s ∷ steps) h before plan was zero a b at then =
    let next : Hands = wind_of h s.to s.order in
    let later = plan.0.later in
    let follows : Follows h next = wound-follows h s.to s.order (step-fits h s.to before s plan.0 (omega arith) (omega arith) plan.0.most) in
    let first : h ≡ a = (let e : Some h ≡ Some a = at in cc) in
    let second : next ≡ b = (let e : Some next ≡ Some b = then in cc) in
    subst (λ a. Follows a b) first (subst (Follows h) second follows)
ticks-follow (s ∷ steps) h before plan was (suc n) a b at then =
    let next : Hands = wind_of h s.to s.order in
    ticks-follow steps next s.to (subst (λ u. PlanFits s.to u steps) (sym (update-wound h s.to s.order)) plan.1)
    (omega (arith, count-wound h s.to s.order)) n a b at then

pub journal-legal : (steps : List PlanStep) → PlanFits 0 0 steps → IsJournal (journal_of steps)
unfolding journal_of
journal-legal steps plan = record {
  first = refl;
  next = λ n a b at then. ticks-follow steps cold 0 plan (omega arith) n a b at
      ((let e : suc n ≡ n + 1 = omega arith in ap (slice_get (journal_of steps)) e) ∙ then);
}

ticks-count : (steps : List PlanStep) (h : Hands) → map (λ (h : Hands). h.count) (ticks_from h steps) ≡ map (λ (s : PlanStep). s.to) steps
ticks-count [] h = refl
ticks-count (s ∷ steps) h = ap₂ (λ n ns. n ∷ ns) (count-wound h s.to s.order) (ticks-count steps (wind_of h s.to s.order))

ticks-order : (steps : List PlanStep) (h : Hands) → map order_of (ticks_from h steps) ≡ map (λ (s : PlanStep). s.order) steps
ticks-order [] h = refl
ticks-order (s ∷ steps) h = ap₂ (λ (o : Order) (os : List Order). o ∷ os) (order_of-wound h s.to s.order) (ticks-order steps (wind_of h s.to s.order))

pub journal-counts : (steps : List PlanStep) → map (λ (h : Hands). h.count) (journal_of steps) ≡ 0 ∷ map (λ (s : PlanStep). s.to) steps
unfolding journal_of
journal-counts steps = ap (λ ns. 0 ∷ ns) (ticks-count steps cold)

pub journal-orders : (steps : List PlanStep) → map order_of (journal_of steps) ≡ order.Plain ∷ map (λ (s : PlanStep). s.order) steps
unfolding journal_of
journal-orders steps = ap (λ (os : List Order). order.Plain ∷ os) (ticks-order steps cold)

-- what two lists have in common at a place behind the first
at-places : {X Y Z : Type 0} (f : X → Z) (g : Y → Z) (xs : List X) (ys : List Y) (z : Z) (k : ℕ) (x : X) (y : Y) → map f xs ≡ z ∷ map g ys
    → slice_get ys k ≡ Some y → slice_get xs (k + 1) ≡ Some x → f x ≡ g y
at-places {X} {Y} {Z} f g xs ys z k x y same at there =
    let place : suc k ≡ k + 1 = omega arith in
    let left : slice_get (map f xs) (suc k) ≡ Some (f x) = slice_get-map f xs (suc k) ∙ ap (option_map f) (ap (slice_get xs) place ∙ there) in
    let right : slice_get (map g ys) k ≡ Some (g y) = slice_get-map g ys k ∙ ap (option_map g) at in
    let both : slice_get (map f xs) (suc k) ≡ slice_get (map g ys) k = ap (λ (zs : List Z). slice_get zs (suc k)) same in
    cc

-- a legal journal with the counts and the orders of steps is one that they made
pub journal-by : (steps : List PlanStep) (ticks : List Hands) → IsJournal ticks → map (λ (h : Hands). h.count) ticks ≡ 0
    ∷ map (λ (s : PlanStep). s.to) steps → map order_of ticks ≡ order.Plain ∷ map (λ (s : PlanStep). s.order) steps → IsJournalOf false steps ticks
journal-by steps ticks is counts orders =
    let many : length ticks ≡ 1 + length steps = omega (
      arith,
      length-map ticks (λ (h : Hands). h.count),
      ap length counts,
      length-map steps (λ (s : PlanStep). s.to),
    ) in
    let each : AreTicksOf false steps ticks = λ k s h at there. (
    let count = at-places (λ (h : Hands). h.count) (λ (s : PlanStep). s.to) ticks steps 0 k h s counts at there in
    record { order = at-places order_of (λ (s : PlanStep). s.order) ticks steps order.Plain k h s orders at there; reached = omega arith; exact = λ e. count }
    ) in
    record { journal = is; many = many; each = each; most = exact-most steps ticks is.first many each }
  where
    exact-most : (steps : List PlanStep) (ticks : List Hands) → slice_get ticks 0 ≡ Some cold → length ticks ≡ 1 + length steps
        → AreTicksOf false steps ticks → (n : ℕ) (h : Hands) → slice_get ticks n ≡ Some h → h.count ≤ greatest steps
    exact-most steps ticks first many each zero h at =
        let same : cold ≡ h = (let e = sym first ∙ at in cc) in
        let e = ap (λ (h : Hands). h.count) same in
        omega arith
    exact-most steps ticks first many each (suc k) h at =
        let within = slice_get_within ticks (suc k) h at in
        let s : PlanStep = get_or steps k (record { to = 0; order = order.Plain }) in
        let there : slice_get steps k ≡ Some s = slice_get-get_or steps k _ (omega arith) in
        let tick = each k s h there ((let e : k + 1 ≡ suc k = omega arith in ap (slice_get ticks) e) ∙ at) in
        let most = to-greatest steps k s there in
        omega (arith, tick.exact refl)

-- the journal of steps that fit
pub journal-made : (steps : List PlanStep) → PlanFits 0 0 steps → IsJournalOf false steps (journal_of steps)
journal-made steps plan = journal-by steps (journal_of steps) (journal-legal steps plan) (journal-counts steps) (journal-orders steps)

-- ticks that follow hands by steps, each at the step's count
exact-ticks : (steps : List PlanStep) (h : Hands) (ticks : List Hands) → ((n : ℕ) (a b : Hands) → slice_get (h ∷ ticks) n ≡ Some a
    → slice_get (h ∷ ticks) (n + 1) ≡ Some b → Follows a b) → length ticks ≡ length steps
    → ((k : ℕ) (s : PlanStep) (t : Hands) → slice_get steps k ≡ Some s → slice_get ticks k ≡ Some t → IsTickOf false s t) → ticks ≡ ticks_from h steps
exact-ticks [] h [] next many each = refl
exact-ticks [] h (t ∷ ticks) next many each = absurd (omega arith)
exact-ticks (s ∷ steps) h [] next many each = absurd (omega arith)
exact-ticks (s ∷ steps) h (t ∷ ticks) next many each =
    let follows : Follows h t = next 0 h t refl refl in
    let tick : IsTickOf false s t = each 0 s t refl refl in
    let same : t ≡ wind_of h s.to s.order = follows.wound ∙ ap₂ (wind_of h) (tick.exact refl) tick.order in
    let rest : ticks ≡ ticks_from t steps = exact-ticks steps t ticks
    (λ n a b at then. next (suc n) a b at ((let e : suc n + 1 ≡ suc (n + 1) = omega arith in ap (slice_get (h ∷ (t ∷ ticks))) e) ∙ then))
    (omega arith) (λ k p u at there. each (suc k) p u at there) in
    ap₂ (λ (u : Hands) (us : List Hands). u ∷ us) same (rest ∙ ap (λ (u : Hands). ticks_from u steps) same)

-- no other journal is like it
pub journal-only : (steps : List PlanStep) (ticks : List Hands) → IsJournalOf false steps ticks → ticks ≡ journal_of steps
unfolding journal_of
journal-only steps [] is = absurd (let w = is.many in omega arith)
journal-only steps (h ∷ ticks) is =
    let first : h ≡ cold = get_or_from_slice_get (h ∷ ticks) 0 cold h is.journal.first in
    let rest = exact-ticks steps h ticks is.journal.next (let w = is.many in omega arith)
    (λ k s t at there. is.each k s t at ((let e : k + 1 ≡ suc k = omega arith in ap (slice_get (h ∷ ticks)) e) ∙ there)) in
    ap₂ (λ (u : Hands) (us : List Hands). u ∷ us) first (rest ∙ ap (λ (u : Hands). ticks_from u steps) first)

-- the orders of a journal, also where the counter was raised beside the driver
same-orders : (beside : Bool) (steps : List PlanStep) (ticks : List Hands) → length ticks ≡ length steps
    → ((k : ℕ) (s : PlanStep) (t : Hands) → slice_get steps k ≡ Some s → slice_get ticks k ≡ Some t → IsTickOf beside s t) → map order_of ticks ≡ map
    (λ (s : PlanStep). s.order) steps
same-orders beside [] [] many each = refl
same-orders beside [] (t ∷ ticks) many each = absurd (omega arith)
same-orders beside (s ∷ steps) [] many each = absurd (omega arith)
same-orders beside (s ∷ steps) (t ∷ ticks) many each =
    ap₂ (λ (o : Order) (os : List Order). o ∷ os) (each 0 s t refl refl).order
    (same-orders beside steps ticks (omega arith) (λ k p u at there. each (suc k) p u at there))

pub orders-of : (beside : Bool) (steps : List PlanStep) (ticks : List Hands) → IsJournalOf beside steps ticks → map order_of ticks ≡ order.Plain
    ∷ map (λ (s : PlanStep). s.order) steps
orders-of beside steps [] is = absurd (let w = is.many in omega arith)
orders-of beside steps (h ∷ ticks) is =
    let first : h ≡ cold = get_or_from_slice_get (h ∷ ticks) 0 cold h is.journal.first in
    ap₂ (λ (o : Order) (os : List Order). o ∷ os) (ap order_of first)
    (same-orders beside steps ticks (let w = is.many in omega arith)
    (λ k s t at there. is.each k s t at ((let e : k + 1 ≡ suc k = omega arith in ap (slice_get (h ∷ ticks)) e) ∙ there)))
