-- The list of live timers, where one comes or goes.
use Rattle.std.proofs.Common.{◌≡◌, ℕ, zero, suc, ◌+◌, ◌<◌, Option, Some, None, List, [], ◌∷◌, length, set, get_or, replicate, length-set, refl, sym, ap, ◌∙◌, subst, arith, inl, inr}
use Rattle.std.specs.Prelude.{Contains}
use Rattle.std.specs.List.Sorted.{IsPermutation}
use Rattle.std.proofs.lemmas.Option.{none-some, same_Some}
use Rattle.std.proofs.lemmas.List.{length-replicate}
use Rattle.std.proofs.lemmas.List.Elements.{Contains-append_right, Contains-append_cases}
use Rattle.std.proofs.lemmas.List.Sorted.{IsPermutation-refl, IsPermutation-cons, IsPermutation-trans, IsPermutation-middle}
use Rattle.std.proofs.lemmas.List.Sums.{sum_by-cons}
use Rattle.callouts.specs.declared.timers.Entry.{Entry}
use Rattle.callouts.specs.Timers.{Kept, timer_in, live_in, live, room, no_timers, with_timer, without}
use Rattle.callouts.specs.Lists.{Living, living_at, listed_from, listed}
use Rattle.callouts.proofs.Living.{one_if}

-- a timer of a place is on the list
listed_has : (ps : List (Option Entry)) (q p n : ℕ) (e : Entry) → n ≡ q + p → timer_in ps p ≡ Some e → Contains (listed_from q ps) (living_at n e)
listed_has [] q p n e at is = absurd (none-some e is)
listed_has (None ∷ ps) q zero n e at is = absurd (none-some e is)
listed_has (None ∷ ps) q (suc p) n e at is = listed_has ps (q + 1) p n e (omega arith) is
listed_has (Some a ∷ ps) q zero n e at is =
    let place : q ≡ n = omega arith in
    (zero, omega arith, ap (λ e. living_at q e) (same_Some a e is) ∙ ap (λ m. living_at m e) place)
listed_has (Some a ∷ ps) q (suc p) n e at is =
    Contains-append_right (living_at q a ∷ []) (listed_from (q + 1) ps) (living_at n e) (listed_has ps (q + 1) p n e (omega arith) is)

-- and what is on the list is a timer of its place
listed_is : (ps : List (Option Entry)) (q : ℕ) (l : Living) → Contains (listed_from q ps) l
    → (p : ℕ) × (l.timer.place ≡ q + p) × (timer_in ps p ≡ Some (record { id = l.timer.id; due = l.due }))
listed_is [] q l on = absurd (omega (arith, on.1))
listed_is (None ∷ ps) q l on = let rest = listed_is ps (q + 1) l on in (suc rest.0, omega (arith, rest.1), rest.2)
listed_is (Some a ∷ ps) q l on = elim (Contains-append_cases (living_at q a ∷ []) (listed_from (q + 1) ps) l on) [
  | inl here ↦
      let first : here.0 ≡ 0 = omega (arith, here.1) in
      let is : living_at q a ≡ l = ap (λ k. get_or (living_at q a ∷ []) k l) (sym first) ∙ here.2 in
      let place : q ≡ l.timer.place = ap (λ (l : Living). l.timer.place) is in
      (zero, omega arith, ap (λ (l : Living). Some (record { id = l.timer.id; due = l.due })) is)
  | inr there ↦ let rest = listed_is ps (q + 1) l there in (suc rest.0, omega (arith, rest.1), rest.2)
]

-- of two at the front either may stand first
either_first : (a b : Living) (ls : List Living) → IsPermutation (a ∷ b ∷ ls) (b ∷ a ∷ ls)
either_first a b ls = IsPermutation-middle (a ∷ []) b ls

-- one stands further on
further_on : (a b : Living) (ls ms : List Living) → IsPermutation (a ∷ ls) ms → IsPermutation (a ∷ b ∷ ls) (b ∷ ms)
further_on a b ls ms is = IsPermutation-trans _ _ _ (either_first a b ls) (IsPermutation-cons b (a ∷ ls) ms is)

-- one comes into a place
listed_more : (ps : List (Option Entry)) (q p n : ℕ) (e : Entry) → n ≡ q + p → p < length ps → timer_in ps p ≡ None
    → IsPermutation (living_at n e ∷ listed_from q ps) (listed_from q (set ps p (Some e)))
listed_more [] q p n e at within none = absurd (omega arith)
listed_more (Some a ∷ ps) q zero n e at within none = absurd (none-some a (sym none))
listed_more (None ∷ ps) q zero n e at within none =
    let place : q ≡ n = omega arith in
    subst (λ m. IsPermutation (living_at m e ∷ listed_from (q + 1) ps) (living_at q e ∷ listed_from (q + 1) ps)) place
    (IsPermutation-refl (living_at q e ∷ listed_from (q + 1) ps))
listed_more (None ∷ ps) q (suc p) n e at within none = listed_more ps (q + 1) p n e (omega arith) (omega arith) none
listed_more (Some a ∷ ps) q (suc p) n e at within none =
    further_on (living_at n e) (living_at q a) (listed_from (q + 1) ps) (listed_from (q + 1) (set ps p (Some e)))
    (listed_more ps (q + 1) p n e (omega arith) (omega arith) none)

-- one goes out of its place
listed_less : (ps : List (Option Entry)) (q p n : ℕ) (e : Entry) → n ≡ q + p → timer_in ps p ≡ Some e
    → IsPermutation (living_at n e ∷ listed_from q (set ps p None)) (listed_from q ps)
listed_less [] q p n e at is = absurd (none-some e is)
listed_less (None ∷ ps) q zero n e at is = absurd (none-some e is)
listed_less (None ∷ ps) q (suc p) n e at is = listed_less ps (q + 1) p n e (omega arith) is
listed_less (Some a ∷ ps) q zero n e at is =
    let same : living_at q a ≡ living_at n e = ap (λ e. living_at q e) (same_Some a e is) ∙ ap (λ m. living_at m e) (omega arith) in
    subst (λ l. IsPermutation (l ∷ listed_from (q + 1) ps) (living_at q a ∷ listed_from (q + 1) ps)) same
    (IsPermutation-refl (living_at q a ∷ listed_from (q + 1) ps))
listed_less (Some a ∷ ps) q (suc p) n e at is =
    further_on (living_at n e) (living_at q a) (listed_from (q + 1) (set ps p None)) (listed_from (q + 1) ps) (listed_less ps (q + 1) p n e (omega arith) is)

listed_count : (ps : List (Option Entry)) (q : ℕ) → length (listed_from q ps) ≡ live_in ps
listed_count [] q = refl
listed_count (None ∷ ps) q = listed_count ps (q + 1)
listed_count (Some a ∷ ps) q =
    let rest = listed_count ps (q + 1) in
    let more : live_in (Some a ∷ ps) ≡ 1 + live_in ps = sum_by-cons one_if (Some a) ps in
    omega arith

none_listed : (n q : ℕ) → listed_from q (replicate n None) ≡ []
none_listed zero q = refl
none_listed (suc n) q = none_listed n (q + 1)

-- the same of a wheel
pub list_new : (n : ℕ) → (listed (no_timers n) ≡ []) × (room (no_timers n) ≡ n) × ((no_timers n).added ≡ 0)
unfolding listed
list_new n = (none_listed n 0, length-replicate n None, refl)

pub room_stays : (k : Kept) (p due : ℕ) → (room (with_timer k p due) ≡ room k) × (room (without k p) ≡ room k)
room_stays k p due = (length-set k.places p (Some (record { id = k.added; due = due })), length-set k.places p None)

pub list_count : (k : Kept) → length (listed k) ≡ live k
unfolding listed
list_count k = listed_count k.places 0

pub list_has : (k : Kept) (p : ℕ) (e : Entry) → timer_in k.places p ≡ Some e → Contains (listed k) (living_at p e)
unfolding listed
list_has k p e is = listed_has k.places 0 p p e (omega arith) is

pub list_is : (k : Kept) (p : ℕ) (e : Entry) → Contains (listed k) (living_at p e) → timer_in k.places p ≡ Some e
unfolding listed
list_is k p e on =
    let at = listed_is k.places 0 (living_at p e) on in
    let place : p ≡ at.0 = omega (arith, at.1) in
    ap (timer_in k.places) place ∙ at.2

pub list_adds : (k : Kept) (p due : ℕ) → p < room k → timer_in k.places p ≡ None
    → IsPermutation (living_at p (record { id = k.added; due = due }) ∷ listed k) (listed (with_timer k p due))
unfolding listed
list_adds k p due within none = listed_more k.places 0 p p (record { id = k.added; due = due }) (omega arith) within none

pub list_loses : (k : Kept) (p : ℕ) (e : Entry) → timer_in k.places p ≡ Some e → IsPermutation (living_at p e ∷ listed (without k p)) (listed k)
unfolding listed
list_loses k p e is = listed_less k.places 0 p p e (omega arith) is
