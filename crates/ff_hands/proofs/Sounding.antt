-- Hands that stand in a journal.
use Rattle.std.proofs.Common.{◌≡◌, ◌⊎◌, ℕ, zero, suc, ◌+◌, ◌-◌, ◌<◌, true, List, [], ◌∷◌, ◌++◌, length, get_or, slice_get, Some, refl, sym, ap, ap₂, ◌∙◌, subst, arith, inl, inr}
use Rattle.std.proofs.lemmas.List.{length_push}
use Rattle.std.proofs.lemmas.Option.{slice_get_within, slice_get-get_or}
use Rattle.std.proofs.lemmas.Bool.{cases_eq}
use Rattle.ff_hands.specs.Bounds.{IsBounded}
use Rattle.ff_hands.specs.Journals.{order_of, Follows, IsJournal, IsSound}
use Rattle.ff_hands.specs.Orders.{fits}
use Rattle.ff_hands.specs.Windups.{cold, wind_of}
use Rattle.ff_hands.specs.declared.hands.Hands.{Hands}
use Rattle.ff_hands.specs.declared.hands.Order.{Order}
use Rattle.ff_hands.proofs.Winding.{cold-bounded, wind-bounded, order_of-wound, count-wound}

-- what the cold hands have and each windup keeps, each tick has
pub by-ticks : (P : Hands → Type 0) (ticks : List Hands) → IsJournal ticks → P cold
    → ((h : Hands) (count : ℕ) (o : Order) → P h → fits h count o ≡ true → P (wind_of h count o)) → (n : ℕ) (h : Hands) → slice_get ticks n ≡ Some h → P h
by-ticks P ticks is first keeps zero h here = let same : cold ≡ h = (let e = sym is.first ∙ here in cc) in subst P same first
by-ticks P ticks is first keeps (suc n) h here =
    let within : n < length ticks = (let w = slice_get_within ticks (suc n) h here in omega arith) in
    let before : Hands = get_or ticks n cold in
    let there : slice_get ticks n ≡ Some before = slice_get-get_or ticks n cold within in
    let next : slice_get ticks (n + 1) ≡ Some h = (let e : n + 1 ≡ suc n = omega arith in ap (slice_get ticks) e ∙ here) in
    let follows = is.next n before h there next in
    subst P (sym follows.wound) (keeps before h.count (order_of h) (by-ticks P ticks is first keeps n before there) follows.fits)

-- each tick of a journal is bounded
pub tick-bounded : (ticks : List Hands) → IsJournal ticks → (n : ℕ) (h : Hands) → slice_get ticks n ≡ Some h → IsBounded h
tick-bounded ticks is = by-ticks IsBounded ticks is cold-bounded wind-bounded

pub sound-bounded : (h : Hands) → IsSound h → IsBounded h
sound-bounded h is = tick-bounded is.ticks is.journal (length is.ticks - 1) h is.last

get-push-left : (xs : List Hands) (y : Hands) (i : ℕ) → i < length xs → slice_get (xs ++ y ∷ []) i ≡ slice_get xs i
get-push-left [] y i here = absurd (omega arith)
get-push-left (x ∷ xs) y zero here = refl
get-push-left (x ∷ xs) y (suc i) here = get-push-left xs y i (omega arith)

get-push-last : (xs : List Hands) (y : Hands) → slice_get (xs ++ y ∷ []) (length xs) ≡ Some y
get-push-last [] y = refl
get-push-last (x ∷ xs) y = get-push-last xs y

-- a tick that follows the last one goes on with a journal
pub journal-push : (ticks : List Hands) (h next : Hands) → IsJournal ticks → slice_get ticks (length ticks - 1) ≡ Some h → Follows h next
    → IsJournal (ticks ++ next ∷ [])
journal-push ticks h next is last follows =
    let some : 0 < length ticks = slice_get_within ticks 0 cold is.first in
    record {
      first = get-push-left ticks next 0 some ∙ is.first;
      next = λ n a b at then. goes n a b at then (cases_eq (n + 1) (length ticks));
    }
  where
    goes : (n : ℕ) (a b : Hands) → slice_get (ticks ++ next ∷ []) n ≡ Some a → slice_get (ticks ++ next ∷ []) (n + 1) ≡ Some b
        → (n + 1 ≡ length ticks) ⊎ (n + 1 ≡ length ticks → ⊥) → Follows a b
    goes n a b at then (inl end) =
        let here : slice_get ticks n ≡ Some a = sym (get-push-left ticks next n (omega arith)) ∙ at in
        let place : n ≡ length ticks - 1 = omega arith in
        let first : a ≡ h = (let e = sym here ∙ ap (slice_get ticks) place ∙ last in cc) in
        let second : b ≡ next = (let e = sym then ∙ ap (slice_get (ticks ++ next ∷ [])) end ∙ get-push-last ticks next in cc) in
        subst (λ (h : Hands). Follows h b) (sym first) (subst (Follows h) (sym second) follows)
    goes n a b at then (inr not) =
        let within = slice_get_within (ticks ++ next ∷ []) (n + 1) b then in
        let before : n + 1 < length ticks = omega (arith, length_push ticks next) in
        is.next n a b (sym (get-push-left ticks next n (omega arith)) ∙ at) (sym (get-push-left ticks next (n + 1) before) ∙ then)

-- what a windup makes follows, where its order fits
pub wound-follows : (h : Hands) (count : ℕ) (o : Order) → fits h count o ≡ true → Follows h (wind_of h count o)
wound-follows h count o f = record {
  fits = ap₂ (fits h) (count-wound h count o) (order_of-wound h count o) ∙ f;
  wound = sym (ap₂ (wind_of h) (count-wound h count o) (order_of-wound h count o));
}

-- one more windup
pub sound-wound : (h : Hands) (count : ℕ) (o : Order) → IsSound h → fits h count o ≡ true → IsSound (wind_of h count o)
sound-wound h count o is f =
    let next : Hands = wind_of h count o in
    record {
      ticks = is.ticks ++ next ∷ [];
      journal = journal-push is.ticks h next is.journal is.last (wound-follows h count o f);
      last = (let e : length (is.ticks ++ next ∷ []) - 1 ≡ length is.ticks = omega (arith, length_push is.ticks next) in
          ap (slice_get (is.ticks ++ next ∷ [])) e ∙ get-push-last is.ticks next);
    }

-- the cold hands are a journal by themselves
pub cold-sound : IsSound cold
cold-sound = record {
  ticks = cold ∷ [];
  journal = record { first = refl; next = λ n h next at then. absurd (let within = slice_get_within (cold ∷ []) (n + 1) next then in omega arith) };
  last = refl;
}
