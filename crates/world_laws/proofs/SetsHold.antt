-- Ticks behind a set, and behind the next estimate.
use Rattle.std.proofs.Common.{◌≡◌, inl, inr, ℕ, zero, suc, ◌+◌, ◌<◌, ◌≤◌, ◌||◌, Bool, true, false, cond, List, length, get_or, slice_get, Some, refl, sym, ap, subst, ◌∙◌, arith}
use Rattle.std.proofs.Math.Nat.{eq-or-lt_of_le}
use Rattle.std.proofs.lemmas.Option.{slice_get_within, slice_get-get_or}
use Rattle.ff_hands.specs.Journals.{order_of, Follows, IsJournal}
use Rattle.ff_hands.specs.Windups.{cold, is_old, jumps, take_jump, take_on, wind_of}
use Rattle.ff_hands.specs.declared.estimates.Estimate.{Estimate}
use Rattle.ff_hands.specs.declared.estimates.Marks.{Marks}
use Rattle.ff_hands.specs.declared.hands.Hands.{Hands}
use Rattle.ff_hands.specs.declared.hands.Order.{Order}
use Rattle.ff_hands.specs.declared.hands.Order.TheVariants as order
use Rattle.world_laws.specs.Marks.{SetsAreMarked, TakesAreMarked, TakesAreTrue}
use Rattle.world_laws.proofs.PlansGoBy.{readings-true}

-- a tick follows the one before it
before : (ticks : List Hands) (n : ℕ) (h : Hands) → IsJournal ticks → slice_get ticks (suc n) ≡ Some h
    → (slice_get ticks n ≡ Some (get_or ticks n cold)) × Follows (get_or ticks n cold) h
before ticks n h is here =
    let place = slice_get_within ticks (suc n) h here in
    let there : slice_get ticks n ≡ Some (get_or ticks n cold) = slice_get-get_or ticks n cold (omega arith) in
    let next : slice_get ticks (n + 1) ≡ Some h = (let e : n + 1 ≡ suc n = omega arith in ap (slice_get ticks) e ∙ here) in
    (there, is.next n (get_or ticks n cold) h there next)

-- the first tick is plain
first-plain : (ticks : List Hands) (h : Hands) → IsJournal ticks → slice_get ticks 0 ≡ Some h → order.Plain ≡ order_of h
first-plain ticks h is here = let same : cold ≡ h = (let e = sym is.first ∙ here in cc) in ap order_of same

reset-marked : (ticks : List Hands) (n : ℕ) (h : Hands) (e : Estimate) → IsJournal ticks → slice_get ticks n ≡ Some h → order_of h ≡ order.Reset e
    → h.kstatus ≡ e.status
unfolding wind_of
reset-marked ticks zero h e is here reset = let clash = first-plain ticks h is here ∙ reset in absurd (cc)
reset-marked ticks (suc n) h e is here reset =
    ap (λ (h : Hands). h.kstatus) (before ticks n h is here).1.wound ∙ ap (λ (o : Order). (wind_of (get_or ticks n cold) h.count o).kstatus) reset

take-marks : (h : Hands) (count : ℕ) (e : Estimate) (b : Bool) → (cond b (take_jump h count e) (take_on h count e)).kstatus ≡ e.status
take-marks h count e true = refl
take-marks h count e false = refl

pub takes-marked : TakesAreMarked
unfolding wind_of
takes-marked ticks zero h e is here take = let clash = first-plain ticks h is here ∙ take in absurd (cc)
takes-marked ticks (suc n) h e is here take =
    let was : Hands = get_or ticks n cold in
    ap (λ (h : Hands). h.kstatus) (before ticks n h is here).1.wound ∙ ap (λ (o : Order). (wind_of was h.count o).kstatus) take
    ∙ take-marks was h.count e (jumps was e)

-- the tick of the set itself
set-marked : (ticks : List Hands) (m n : ℕ) (set h : Hands) (e : Estimate) → IsJournal ticks → slice_get ticks m ≡ Some set
    → order_of set ≡ order.Reset e → e.status.unsync ≡ true → m ≡ n → slice_get ticks n ≡ Some h → h.kstatus.unsync ≡ true
set-marked ticks m n set h e is at reset mark same here =
    let one : set ≡ h = (let both = sym at ∙ ap (slice_get ticks) same ∙ here in cc) in
    ap (λ (h : Hands). h.kstatus.unsync) (sym one) ∙ ap (λ (s : Marks). s.unsync) (reset-marked ticks m set e is at reset) ∙ mark

pub sets-marked : SetsAreMarked
unfolding wind_of
sets-marked ticks m zero set h e is at reset mark order here plain = set-marked ticks m zero set h e is at reset mark (omega arith) here
sets-marked ticks m (suc n) set h e is at reset mark order here plain =
    elim (eq-or-lt_of_le {n = m} {m = suc n} order) as (λ _. h.kstatus.unsync ≡ true) [
      | inl same ↦ set-marked ticks m (suc n) set h e is at reset mark same here
      | inr less ↦
          (let was : Hands = get_or ticks n cold in
          let step = before ticks n h is here in
          let marked : was.kstatus.unsync ≡ true = sets-marked ticks m n set was e is at reset mark (omega arith) step.0
          (λ k between low high. plain k between low (omega arith)) in
          ap (λ (h : Hands). h.kstatus.unsync) step.1.wound ∙ ap (λ (o : Order). (wind_of was h.count o).kstatus.unsync)
          (plain (suc n) h less (omega arith) here) ∙ ap (λ t. t || is_old was h.count) marked)
    ]

pub takes-true : TakesAreTrue
takes-true freq between beside w items ticks low high fit are lie is n h e here take sync =
    readings-true freq between beside w items ticks low high fit are lie is n h here
    (ap (λ (s : Marks). s.unsync) (takes-marked ticks n h e is.journal here take) ∙ sync)
