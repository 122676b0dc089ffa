-- Timers that are off their hooks, and what a hook may hold.
use Rattle.std.proofs.Common.{◌≡◌, ◌≢◌, ℕ, ◌/◌, ◌<◌, ◌≤◌, List, length, refl, sym, ap, ◌∙◌, arith, inl, inr}
use Rattle.std.proofs.lemmas.Bool.{cases_lt}
use Rattle.std.proofs.lemmas.List.{get_or_past}
use Rattle.callouts.specs.declared.nodes.Node.{Node}
use Rattle.callouts.specs.Nodes.{no_node, due_at, id_at, hook_at, held_at}
use Rattle.callouts.specs.Heaps.{MayHold, AreHeaps, IsLoose, AreTorn}

-- a node that hangs is one of the nodes
pub within_nodes : (ns : List Node) (i : ℕ) → hook_at ns i ≢ 0 → i < length ns
within_nodes ns i some = elim (cases_lt i (length ns)) [
  | inl l ↦ l
  | inr past ↦ absurd (some (ap (λ (n : Node). n.hook) (get_or_past ns i no_node past)))
]

-- what a hook may hold stays, where timers do
pub may_stays : (old new : List Node) (h i : ℕ) → ((j : ℕ) → due_at new j ≡ due_at old j) → ((j : ℕ) → id_at new j ≡ id_at old j)
    → (512 ≤ h → hook_at old (h / 2) ≢ 0 → hook_at new (h / 2) ≢ 0) → MayHold old h i → MayHold new h i
may_stays old new h i dues ids lives may = record {
  root = λ l. may.root l ∙ rw (dues i) refl;
  lives = λ m. lives m (may.lives m);
  slot = λ m. rw (dues i, dues (h / 2)) (may.slot m);
  before = λ m. rw (dues i, dues (h / 2), ids i, ids (h / 2)) (may.before m);
}

-- a hook that may hold a timer is one
pub some_hook : (ns : List Node) (h i : ℕ) → IsLoose ns h i → h ≢ 0
some_hook ns h i loose z = elim (cases_lt h 512) [ inl l ↦ omega (arith, loose.may.root l) | inr m ↦ omega arith ]

-- the two loose heaps may change places
pub torn_swap : (ns : List Node) (h one other : ℕ) → AreTorn ns h one other → AreTorn ns h other one
torn_swap ns h one other torn = record {
  loose_one = torn.loose_other;
  loose_other = torn.loose_one;
  apart = λ some e. torn.apart (λ z. some (e ∙ z)) (sym e);
  knows = torn.knows;
  off_one = torn.off_other;
  off_other = torn.off_one;
  hangs = λ i a b. torn.hangs i b a;
  free = λ i a b. torn.free i b a;
  none = torn.none;
}

-- what a hook holds lives, and knows the hook
pub held_knows : (ns : List Node) → AreHeaps ns → (p : ℕ) → held_at ns p ≢ 0
    → (p ≢ 0) × (hook_at ns (held_at ns p) ≡ p) × (hook_at ns (held_at ns p) ≢ 0)
held_knows ns heaps p full = let knows = heaps.knows p full in (knows.some, knows.hook, λ z. knows.some (sym knows.hook ∙ z))
