-- The places behind the nodes, and a node that is made another one.
use Rattle.std.proofs.Common.{◌≡◌, ◌≢◌, ℕ, zero, suc, ◌+◌, ◌-◌, ◌/◌, ◌%◌, ◌<◌, Option, Some, None, List, [], ◌∷◌, length, set, get_or, refl, sym, ap, ◌∙◌, arith, inl, inr, length-set, get_or-set_same, get_or-set_other}
use Rattle.std.proofs.lemmas.Bool.{cases_eq, cases_lt}
use Rattle.std.proofs.lemmas.Bool.Decides.{nat_tests}
use Rattle.std.proofs.lemmas.Option.{none-some}
use Rattle.std.proofs.lemmas.List.{same_lists, get_or_past}
use Rattle.std.proofs.lemmas.List.FromFn.{length-map-range_with_len, get_or-map-range_with_len}
use Rattle.callouts.specs.declared.nodes.Node.{Node}
use Rattle.callouts.specs.declared.timers.Entry.{Entry}
use Rattle.callouts.specs.Nodes.{no_node, node_at, hook_at, held_at, due_at, id_at}
use Rattle.callouts.specs.Timers.{timer_in}
use Rattle.callouts.specs.Slots.{timer_at, places_in}

pub timer_live : (ns : List Node) (i : ℕ) → hook_at ns i ≢ 0 → timer_at ns i ≡ Some (record { id = id_at ns i; due = due_at ns i })
timer_live ns i live = grind (arith, nat_tests)

pub timer_free : (ns : List Node) (i : ℕ) → hook_at ns i ≡ 0 → timer_at ns i ≡ None
timer_free ns i free = grind (arith, nat_tests)

pub live_timer : (ns : List Node) (i : ℕ) (e : Entry) → timer_at ns i ≡ Some e → (hook_at ns i ≢ 0) × (record { id = id_at ns i; due = due_at ns i } ≡ e)
live_timer ns i e is = elim (cases_eq (hook_at ns i) 0) [
  | inl free ↦ absurd (none-some _ (sym (timer_free ns i free) ∙ is))
  | inr live ↦ (live, let same : Some (record { id = id_at ns i; due = due_at ns i }) ≡ Some e = sym (timer_live ns i live) ∙ is in cc)
]

pub free_timer : (ns : List Node) (i : ℕ) → timer_at ns i ≡ None → hook_at ns i ≡ 0
free_timer ns i is = elim (cases_eq (hook_at ns i) 0) [
  | inl free ↦ free
  | inr live ↦ absurd (none-some _ (sym is ∙ timer_live ns i live))
]

pub length_places : (ns : List Node) → length (places_in ns) ≡ length ns - 256
length_places ns = length-map-range_with_len (λ k. timer_at ns (256 + k)) 0 (length ns - 256)

pub place_at : (ns : List Node) (k : ℕ) → k < length ns - 256 → timer_in (places_in ns) k ≡ timer_at ns (256 + k)
place_at ns k l = get_or-map-range_with_len (λ k. timer_at ns (256 + k)) 0 (length ns - 256) k k None l (omega arith)

-- a timer that lives in a place is a node's
pub placed : (ns : List Node) (k : ℕ) (e : Entry) → timer_in (places_in ns) k ≡ Some e → (k < length ns - 256) × (timer_at ns (256 + k) ≡ Some e)
placed ns k e is = elim (cases_lt k (length ns - 256)) [
  | inl l ↦ (l, sym (place_at ns k l) ∙ is)
  | inr past ↦ absurd (none-some _ (sym (get_or_past (places_in ns) k None (omega (arith, length_places ns))) ∙ is))
]

-- where one node's timer has changed
pub places_set : (ns new : List Node) (k : ℕ) (o : Option Entry) → length new ≡ length ns → k < length ns - 256 → timer_at new (256 + k) ≡ o
    → ((j : ℕ) → j ≢ 256 + k → timer_at new j ≡ timer_at ns j) → places_in new ≡ set (places_in ns) k o
places_set ns new k o len within here others =
    same_lists _ _ (length_places new ∙ ap (λ n. n - 256) len ∙ sym (length_places ns) ∙ sym (length-set (places_in ns) k o)) (λ q d h.
    let long = length_places new in
    let in_new : q < length new - 256 = omega arith in
    let in_old : q < length ns - 256 = omega (arith, len) in
    let read = get_or-map-range_with_len (λ k. timer_at new (256 + k)) 0 (length new - 256) q q d in_new (omega arith) in
    elim (cases_eq q k) [
      | inl e ↦ read ∙ ap (λ j. timer_at new (256 + j)) e ∙ here ∙ sym
          (ap (λ j. get_or (set (places_in ns) k o) j d) e ∙ get_or-set_same (places_in ns) k o d (omega (arith, length_places ns)))
      | inr ne ↦ read ∙ others (256 + q) (λ z. ne (omega arith)) ∙ sym
          (get_or-set_other (places_in ns) k q o d ne ∙ get_or-map-range_with_len (λ k. timer_at ns (256 + k)) 0 (length ns - 256) q q d in_old (omega arith))
    ])

pub no_kids : (k : ℕ) → get_or {A = ℕ} (0 ∷ 0 ∷ []) k 0 ≡ 0
no_kids zero = refl
no_kids (suc zero) = refl
no_kids (suc (suc k)) = refl

-- a node is made another one, from which nothing hangs
module _ (ns : List Node) (i : ℕ) (v : Node) (within : i < length ns) (bare : v.kids ≡ 0 ∷ 0 ∷ []) where
  pub node_here : node_at (set ns i v) i ≡ v
  node_here = get_or-set_same ns i v no_node within

  pub node_other : (j : ℕ) → j ≢ i → node_at (set ns i v) j ≡ node_at ns j
  node_other j ne = get_or-set_other ns i j v no_node ne

  pub hook_other : (j : ℕ) → j ≢ i → hook_at (set ns i v) j ≡ hook_at ns j
  hook_other j ne = ap (λ (n : Node). n.hook) (node_other j ne)

  pub held_other : (p : ℕ) → p / 2 ≢ i → held_at (set ns i v) p ≡ held_at ns p
  held_other p ne = ap (λ (n : Node). get_or n.kids (p % 2) 0) (node_other (p / 2) ne)

  pub held_here : (p : ℕ) → p / 2 ≡ i → held_at (set ns i v) p ≡ 0
  held_here p e = ap (λ j. get_or (node_at (set ns i v) j).kids (p % 2) 0) e ∙ ap (λ (n : Node). get_or n.kids (p % 2) 0) node_here
      ∙ ap (λ ks. get_or ks (p % 2) 0) bare ∙ no_kids (p % 2)

  -- what hangs in the new nodes hung in the old ones
  pub held_was : (p : ℕ) → held_at (set ns i v) p ≢ 0 → (p / 2 ≢ i) × (held_at (set ns i v) p ≡ held_at ns p)
  held_was p full = elim (cases_eq (p / 2) i) [
    | inl e ↦ absurd (full (held_here p e))
    | inr ne ↦ (ne, held_other p ne)
  ]
