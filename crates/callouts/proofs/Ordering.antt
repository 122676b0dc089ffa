-- Timers in the order in which they fire.
use Rattle.std.proofs.Common.{◌≡◌, ◌⊎◌, ℕ, ◌<◌, true, false, Option, Some, None, List, [], ◌∷◌, length, zero, suc, set, refl, sym, ap, ◌∙◌, arith, inl, inr, get_or-set_same, get_or-set_other}
use Rattle.std.specs.List.{All}
use Rattle.std.proofs.lemmas.Bool.{cases_Bool, cases_lt, cases_eq}
use Rattle.std.proofs.lemmas.Bool.Decides.{nat_tests}
use Rattle.std.proofs.lemmas.Option.{none-some, same_Some}
use Rattle.std.proofs.lemmas.List.Elements.{All-nil, All-cons, All-head, All-tail, All-same}
use Rattle.callouts.specs.declared.timers.Entry.{Entry}
use Rattle.callouts.specs.Timers.{timer_in, IsNoLater, IsFirst}
use Rattle.callouts.specs.Queues.{is_before, placed, in_order, living}
use Rattle.callouts.proofs.Changing.{lives_within}

before_tells : (e o : Entry) → ((is_before e o ≡ true) × ((e.due < o.due) ⊎ ((e.due ≡ o.due) × (e.id < o.id)))) ⊎ ((is_before e o ≡ false) × IsNoLater o e)
before_tells e o = elim (cases_lt e.due o.due) [
  | inl l ↦ inl (grind (arith, nat_tests), inl l)
  | inr m ↦ elim (cases_eq e.due o.due) [
    | inl same ↦ elim (cases_lt e.id o.id) [
      | inl l ↦ inl (grind (arith, nat_tests), inr (same, l))
      | inr n ↦ inr (grind (arith, nat_tests), inr (sym same, n))
    ]
    | inr ne ↦ inr (grind (arith, nat_tests), inl (omega arith))
  ]
]

-- of two timers one fires before the other, or they are the same
asym : (e o : Entry) → is_before e o ≡ true → is_before o e ≡ false
asym e o b = grind (arith, nat_tests)

same : (e o : Entry) → is_before e o ≡ false → is_before o e ≡ false → e ≡ o
same e o a b =
    let due : e.due ≡ o.due = grind (arith, nat_tests) in
    let id : e.id ≡ o.id = grind (arith, nat_tests) in
    λ i. record { id = id i; due = due i }

through : (y a b : Entry) → is_before y a ≡ true → is_before y b ≡ false → is_before b a ≡ true
through y a b ya yb = grind (arith, nat_tests)

not_both : (e o : Entry) → IsNoLater e o → ((o.due < e.due) ⊎ ((o.due ≡ e.due) × (o.id < e.id))) → ⊥
not_both e o le less = grind arith

no_later_not_before : (e o : Entry) → IsNoLater e o → is_before o e ≡ false
no_later_not_before e o le = elim (before_tells o e) [
  | inl b ↦ absurd (not_both e o le b.1)
  | inr b ↦ b.0
]

placed_yes : (e y : Entry) (ys : List Entry) → is_before y e ≡ true → placed e (y ∷ ys) ≡ y ∷ placed e ys
placed_yes e y ys b = rw b refl

placed_no : (e y : Entry) (ys : List Entry) → is_before y e ≡ false → placed e (y ∷ ys) ≡ e ∷ y ∷ ys
placed_no e y ys b = rw b refl

-- the order does not tell which came first
pair : (a b : Entry) (ys : List Entry) → is_before a b ≡ true → placed a (b ∷ ys) ≡ a ∷ b ∷ ys
pair a b ys ab = placed_no a b ys (asym a b ab)

pub placed_twice : (a b : Entry) (xs : List Entry) → placed a (placed b xs) ≡ placed b (placed a xs)
placed_twice a b [] = elim (cases_Bool (is_before a b)) [
  | inl ab ↦ placed_no a b [] (asym a b ab) ∙ sym (placed_yes b a [] ab)
  | inr nab ↦ elim (cases_Bool (is_before b a)) [
    | inl ba ↦ placed_yes a b [] ba ∙ sym (placed_no b a [] nab)
    | inr nba ↦ let e : a ≡ b = same a b nab nba in ap (λ x. placed x (placed b [])) e ∙ ap (λ x. placed b (placed x [])) (sym e)
  ]
]
placed_twice a b (y ∷ ys) = elim (cases_Bool (is_before y a)) [
  | inl ya ↦ elim (cases_Bool (is_before y b)) [
    | inl yb ↦ ap (placed a) (placed_yes b y ys yb) ∙ placed_yes a y (placed b ys) ya ∙ ap (λ zs. y ∷ zs) (placed_twice a b ys)
        ∙ sym (ap (placed b) (placed_yes a y ys ya) ∙ placed_yes b y (placed a ys) yb)
    | inr nyb ↦ ap (placed a) (placed_no b y ys nyb) ∙ placed_yes a b (y ∷ ys) (through y a b ya nyb) ∙ ap (λ zs. b ∷ zs) (placed_yes a y ys ya)
        ∙ sym (ap (placed b) (placed_yes a y ys ya) ∙ placed_no b y (placed a ys) nyb)
  ]
  | inr nya ↦ elim (cases_Bool (is_before y b)) [
    | inl yb ↦ ap (placed a) (placed_yes b y ys yb) ∙ placed_no a y (placed b ys) nya
        ∙ sym (ap (placed b) (placed_no a y ys nya) ∙ placed_yes b a (y ∷ ys) (through y b a yb nya) ∙ ap (λ zs. a ∷ zs) (placed_yes b y ys yb))
    | inr nyb ↦ elim (cases_Bool (is_before a b)) [
      | inl ab ↦ ap (placed a) (placed_no b y ys nyb) ∙ placed_no a b (y ∷ ys) (asym a b ab)
          ∙ sym (ap (placed b) (placed_no a y ys nya) ∙ placed_yes b a (y ∷ ys) ab ∙ ap (λ zs. a ∷ zs) (placed_no b y ys nyb))
      | inr nab ↦ elim (cases_Bool (is_before b a)) [
        | inl ba ↦ ap (placed a) (placed_no b y ys nyb) ∙ placed_yes a b (y ∷ ys) ba ∙ ap (λ zs. b ∷ zs) (placed_no a y ys nya)
            ∙ sym (ap (placed b) (placed_no a y ys nya) ∙ placed_no b a (y ∷ ys) nab)
        | inr nba ↦ let e : a ≡ b = same a b nab nba in ap (λ x. placed x (placed b (y ∷ ys))) e ∙ ap (λ x. placed b (placed x (y ∷ ys))) (sym e)
      ]
    ]
  ]
]

-- one that is in a place, taken out of the order
pub placed_living : (ps : List (Option Entry)) (p : ℕ) (e : Entry) → timer_in ps p ≡ Some e
    → in_order (living ps) ≡ placed e (in_order (living (set ps p None)))
placed_living [] p e is = absurd (none-some e is)
placed_living (None ∷ ps) zero e is = absurd (none-some e is)
placed_living (None ∷ ps) (suc p) e is = placed_living ps p e is
placed_living (Some a ∷ ps) zero e is = ap (λ x. placed x (in_order (living ps))) (same_Some a e is)
placed_living (Some a ∷ ps) (suc p) e is = ap (placed a) (placed_living ps p e is) ∙ placed_twice a e (in_order (living (set ps p None)))

-- one that comes into a place
pub placed_more : (ps : List (Option Entry)) (p : ℕ) (e : Entry) → p < length ps → timer_in ps p ≡ None
    → in_order (living (set ps p (Some e))) ≡ placed e (in_order (living ps))
placed_more [] p e l none = absurd (omega arith)
placed_more (None ∷ ps) zero e l none = refl
placed_more (Some a ∷ ps) zero e l none = absurd (none-some a (sym none))
placed_more (None ∷ ps) (suc p) e l none = placed_more ps p e (omega arith) none
placed_more (Some a ∷ ps) (suc p) e l none = ap (placed a) (placed_more ps p e (omega arith) none) ∙ placed_twice a e (in_order (living ps))

-- what holds of all timers
all_placed : (P : Entry → Type 0) (e : Entry) (xs : List Entry) → P e → All P xs → All P (placed e xs)
all_placed P e [] here all = All-cons P e [] here all
all_placed P e (y ∷ ys) here all = elim (cases_Bool (is_before y e)) [
  | inl b ↦ All-same P _ _ (placed_yes e y ys b) (All-cons P y (placed e ys) (All-head P y ys all) (all_placed P e ys here (All-tail P y ys all)))
  | inr b ↦ All-same P _ _ (placed_no e y ys b) (All-cons P e (y ∷ ys) here all)
]

pub all_living : (P : Entry → Type 0) (ps : List (Option Entry)) → ((p : ℕ) (e : Entry) → timer_in ps p ≡ Some e → P e) → All P (in_order (living ps))
all_living P [] each = All-nil P
all_living P (None ∷ ps) each = all_living P ps (λ p. each (suc p))
all_living P (Some a ∷ ps) each = all_placed P a (in_order (living ps)) (each zero a refl) (all_living P ps (λ p. each (suc p)))

-- the first one
placed_first : (e : Entry) (xs : List Entry) → All (IsNoLater e) xs → placed e xs ≡ e ∷ xs
placed_first e [] all = refl
placed_first e (y ∷ ys) all = placed_no e y ys (no_later_not_before e y (All-head (IsNoLater e) y ys all))

-- the first of all to fire heads the queue
pub first_heads : (ps : List (Option Entry)) (p : ℕ) (e : Entry) → IsFirst ps p e → in_order (living ps) ≡ e ∷ in_order (living (set ps p None))
first_heads ps p e first =
    placed_living ps p e first.lives
    ∙ placed_first e (in_order (living (set ps p None))) (all_living (IsNoLater e) (set ps p None) (λ q o is. elim (cases_eq q p) [
      | inl z ↦ absurd (none-some o (sym (ap (timer_in (set ps p None)) z ∙ get_or-set_same ps p None None (lives_within ps p e first.lives)) ∙ is))
      | inr ne ↦ first.first q o (sym (get_or-set_other ps p q None None ne) ∙ is)
    ]))
