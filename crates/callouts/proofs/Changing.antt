-- The timers of places of which one has changed.
use Rattle.std.proofs.Common.{◌≡◌, ◌⊎◌, ℕ, ◌<◌, Result, Ok, Err, IfOk, IfErr, IfSome, IsNone, Option, Some, None, List, length, set, refl, sym, ap, ◌∙◌, subst, arith, inl, inr, length-set, get_or-set_same, get_or-set_other}
use Rattle.std.proofs.lemmas.Bool.{cases_eq, cases_lt}
use Rattle.std.proofs.lemmas.Option.{none-some, same_Some}
use Rattle.std.proofs.lemmas.List.{get_or_past}
use Rattle.callouts.specs.declared.timers.Entry.{Entry}
use Rattle.callouts.specs.declared.timers.Fired.{Fired}
use Rattle.callouts.specs.declared.timers.Timer.{Timer}
use Rattle.callouts.specs.declared.timers.WheelFull.{WheelFull}
use Rattle.callouts.specs.Timers.{Kept, live, timer_in, with_timer, without, IsOf, Lives, Fires}

-- a timer that lives is in a place
pub lives_within : (ps : List (Option Entry)) (p : ℕ) (e : Entry) → timer_in ps p ≡ Some e → p < length ps
lives_within ps p e is = elim (cases_lt p (length ps)) [
  | inl l ↦ l
  | inr past ↦ absurd (none-some e (sym (get_or_past ps p None past) ∙ is))
]

-- what is in places where one has changed
pub set_cases : (ps : List (Option Entry)) (p q : ℕ) (o : Option Entry) (e : Entry) → timer_in (set ps p o) q ≡ Some e
    → ((q ≡ p) × (o ≡ Some e)) ⊎ (timer_in ps q ≡ Some e)
set_cases ps p q o e is = elim (cases_eq q p) [
  | inl here ↦
      let within : p < length ps = omega (arith, here, lives_within (set ps p o) q e is, length-set ps p o) in
      inl (here, sym (ap (timer_in (set ps p o)) here ∙ get_or-set_same ps p o None within) ∙ is)
  | inr ne ↦ inr (sym (get_or-set_other ps p q o None ne) ∙ is)
]

-- where no timer with an id lives but at one place, none lives without that one
pub none_left : (ps : List (Option Entry)) (place id : ℕ)
    → ((p due : ℕ) → timer_in ps p ≡ Some (record { id = id; due = due }) → p ≡ place) → Lives (set ps place None) id → ⊥
none_left ps place id only lives = elim (set_cases ps place lives.0 None (record { id = id; due = lives.1 }) lives.2) [
  | inl none ↦ none-some _ none.1
  | inr was ↦
      let here : lives.0 ≡ place = only lives.0 lives.1 was in
      none-some _ (sym (ap (timer_in (set ps place None)) here ∙ get_or-set_same ps place None None
      (omega (arith, here, lives_within ps lives.0 _ was))) ∙ lives.2)
]

-- a timer of a wheel is one where another comes or goes
pub of_more : (k : Kept) (t : Timer) (p due : ℕ) → IsOf k t → t.id < k.added → IsOf (with_timer k p due) t
of_more k t p due of early q d is =
    elim (set_cases k.places p q (Some (record { id = k.added; due = due })) (record { id = t.id; due = d }) is) [
      | inl new ↦
          let id : k.added ≡ t.id = ap (λ (e : Entry). e.id) (same_Some (record { id = k.added; due = due }) (record { id = t.id; due = d }) new.1) in
          absurd (omega arith)
      | inr was ↦ of q d was
    ]

pub of_less : (k : Kept) (t : Timer) (p : ℕ) → IsOf k t → IsOf (without k p) t
of_less k t p of q d is = elim (set_cases k.places p q None (record { id = t.id; due = d }) is) [
  | inl none ↦ absurd (none-some _ none.1)
  | inr was ↦ of q d was
]

pub of_fired : (old new : Kept) (t : Timer) (now : ℕ) (f : Fired) → IsOf old t → Fires old now f new → IsOf new t
of_fired old new t now f of fires = subst (λ k. IsOf k t) (sym fires.gone) (of_less old t fires.place of)

-- a timer of a wheel is one where another is added, if there is room for it
pub of_tried : (old new : Kept) (t : Timer) (due : ℕ) (r : Result Timer WheelFull) → IsOf old t → t.id < old.added
    → IfErr r (λ e. (e.live ≡ live old) × (new ≡ old)) → IfOk r (λ added. new ≡ with_timer old added.place due) → IsOf new t
of_tried old new t due (Ok added) of early full more = subst (λ k. IsOf k t) (sym more) (of_more old t added.place due of early)
of_tried old new t due (Err e) of early full more = subst (λ k. IsOf k t) (sym full.1) of

-- and where one fires, if one is due
pub of_asked : (old new : Kept) (t : Timer) (now : ℕ) (r : Option Fired) → IsOf old t → IfSome r (λ f. Fires old now f new)
    → (IsNone r → new ≡ old) → IsOf new t
of_asked old new t now (Some f) of fires same = of_fired old new t now f of fires
of_asked old new t now None of fires same = subst (λ k. IsOf k t) (sym (same refl)) of
