-- A timer goes: its node is free, and what hung from it is loose at its hook.
use Rattle.std.proofs.Common.{◌≡◌, ◌≢◌, ℕ, ◌+◌, ◌*◌, ◌/◌, ◌<◌, ◌≤◌, List, length, set, refl, sym, ap, ◌∙◌, subst, arith, inl, inr}
use Rattle.std.proofs.lemmas.Bool.{cases_eq, cases_lt}
use Rattle.callouts.specs.declared.nodes.Node.{Node}
use Rattle.callouts.specs.Nodes.{free_node, node_at, key_at, due_at, id_at, slot_at, hook_at, held_at}
use Rattle.callouts.specs.Heaps.{MayHold, Hangs, AreApart, IsLoose, AreTorn}
use Rattle.callouts.specs.Slots.{AreSlots}
use Rattle.callouts.proofs.Loose.{within_nodes, may_stays, held_knows}
use Rattle.callouts.proofs.Places.{node_here, node_other, hook_other, held_other, held_was}

-- with a node that is no timer's any more
abbrev pub freed : List Node → ℕ → List Node
freed ns i = set ns i (free_node (node_at ns i))

-- a timer that goes
pub record IsTaken (ns : List Node) (ws : List ℕ) (i : ℕ) : Type 0 where
  pub slots : AreSlots ns ws
  pub live : hook_at ns i ≢ 0

module _ {ns : List Node} {ws : List ℕ} {i : ℕ} (t : IsTaken ns ws i) where
  pub hung : Hangs ns i
  hung = t.slots.heaps.hangs i t.live

  pub within : i < length ns
  within = within_nodes ns i t.live

  pub here : node_at (freed ns i) i ≡ free_node (node_at ns i)
  here = node_here ns i (free_node (node_at ns i)) within refl

  pub other : (j : ℕ) → j ≢ i → node_at (freed ns i) j ≡ node_at ns j
  other = node_other ns i (free_node (node_at ns i)) within refl

  pub hook_stays : (j : ℕ) → j ≢ i → hook_at (freed ns i) j ≡ hook_at ns j
  hook_stays = hook_other ns i (free_node (node_at ns i)) within refl

  pub held_stays : (p : ℕ) → p / 2 ≢ i → held_at (freed ns i) p ≡ held_at ns p
  held_stays = held_other ns i (free_node (node_at ns i)) within refl

  was : (p : ℕ) → held_at (freed ns i) p ≢ 0 → (p / 2 ≢ i) × (held_at (freed ns i) p ≡ held_at ns p)
  was = held_was ns i (free_node (node_at ns i)) within refl

  pub new_hook : hook_at (freed ns i) i ≡ 0
  new_hook = ap (λ (n : Node). n.hook) here

  pub dues : (j : ℕ) → due_at (freed ns i) j ≡ due_at ns j
  dues j = elim (cases_eq j i) [
    | inl e ↦ ap (due_at (freed ns i)) e ∙ ap (λ (n : Node). n.due) here ∙ ap (due_at ns) (sym e)
    | inr ne ↦ ap (λ (n : Node). n.due) (other j ne)
  ]

  pub ids : (j : ℕ) → id_at (freed ns i) j ≡ id_at ns j
  ids j = elim (cases_eq j i) [
    | inl e ↦ ap (id_at (freed ns i)) e ∙ ap (λ (n : Node). n.id) here ∙ ap (id_at ns) (sym e)
    | inr ne ↦ ap (λ (n : Node). n.id) (other j ne)
  ]

  -- what may hold another timer may still, but for the hooks of the one that goes
  may : (p j : ℕ) → p / 2 ≢ i → MayHold ns p j → MayHold (freed ns i) p j
  may p j ne is = may_stays _ _ p j dues ids (λ _ l z. l (sym (hook_stays (p / 2) ne) ∙ z)) is

  apart_from_itself : hook_at ns i / 2 ≢ i
  apart_from_itself e = elim (cases_lt (hook_at ns i) 512) [
    | inl l ↦ omega (arith, hung.timer)
    | inr m ↦ let less : key_at ns (hook_at ns i / 2) < key_at ns i = hung.may.before m in omega (arith, ap (key_at ns) e)
  ]

  -- what hangs from it may hang from its hook
  kid : (p : ℕ) → p / 2 ≡ i → held_at ns p ≢ 0 → IsLoose (freed ns i) (hook_at ns i) (held_at ns p)
  kid p half full =
      let k = held_knows ns t.slots.heaps p full in
      let k_hung = t.slots.heaps.hangs _ k.2 in
      let is : MayHold ns p (held_at ns p) = subst (λ q. MayHold ns q (held_at ns p)) k.1 k_hung.may in
      let big : 512 ≤ p = omega (arith, hung.timer) in
      let less : key_at ns i < key_at ns (held_at ns p) = omega (arith, is.before big, ap (key_at ns) half) in
      let same : slot_at ns i ≡ slot_at ns (held_at ns p) = sym (ap (slot_at ns) half) ∙ is.slot big in
      let ne : held_at ns p ≢ i = λ z. omega (arith, ap (key_at ns) z) in
      record {
        timer = k_hung.timer;
        lives = λ z. k.2 (sym (hook_stays _ ne) ∙ z);
        may = may _ _ apart_from_itself (record {
          root = λ l. hung.may.root l ∙ ap (λ s. 2 * s + 1) same;
          lives = hung.may.lives;
          slot = λ m. hung.may.slot m ∙ same;
          before = λ m. omega (arith, hung.may.before m);
        });
      }

  first_half : 2 * i / 2 ≡ i
  first_half = omega arith

  second_half : (2 * i + 1) / 2 ≡ i
  second_half = omega arith

  -- a hook that isn't its own doesn't hold what its own do
  elsewhere : (p q : ℕ) → q / 2 ≡ i → p / 2 ≢ i → held_at ns p ≢ 0 → held_at ns p ≢ held_at ns q
  elsewhere p q half ne full same =
      let at : p ≡ q = sym (held_knows ns t.slots.heaps p full).1 ∙ ap (hook_at ns) same ∙ (held_knows ns t.slots.heaps q (λ z. full (same ∙ z))).1 in
      ne (ap (λ n. n / 2) at ∙ half)

  pub torn_taken : AreTorn (freed ns i) (hook_at ns i) (held_at ns (2 * i)) (held_at ns (2 * i + 1))
  torn_taken = record {
    loose_one = kid (2 * i) first_half;
    loose_other = kid (2 * i + 1) second_half;
    apart = λ some same.
        let twice : 2 * i ≡ 2 * i + 1 = sym (held_knows ns t.slots.heaps (2 * i) some).1 ∙ ap (hook_at ns) same
        ∙ (held_knows ns t.slots.heaps (2 * i + 1) (λ z. some (same ∙ z))).1 in
        omega arith;
    knows = λ p ne full.
        let w = was p full in
        let k = held_knows ns t.slots.heaps p (λ z. full (w.1 ∙ z)) in
        let other_one : held_at ns p ≢ i = λ z. ne (sym k.1 ∙ ap (hook_at ns) z) in
        record { some = k.0; hook = ap (hook_at (freed ns i)) w.1 ∙ hook_stays _ other_one ∙ k.1 };
    off_one = λ p ne full same. let w = was p full in elsewhere p (2 * i) first_half w.0 (λ z. full (w.1 ∙ z)) (sym w.1 ∙ same);
    off_other = λ p ne full same. let w = was p full in elsewhere p (2 * i + 1) second_half w.0 (λ z. full (w.1 ∙ z)) (sym w.1 ∙ same);
    hangs = λ j not_first not_second live_j.
        let ne : j ≢ i = λ z. live_j (ap (hook_at (freed ns i)) z ∙ new_hook) in
        let same = hook_stays j ne in
        let j_hung = t.slots.heaps.hangs j (λ z. live_j (same ∙ z)) in
        let apart : hook_at ns j / 2 ≢ i = λ z. elim (cases_eq (hook_at ns j) (2 * i)) [
          | inl e ↦ not_first (sym j_hung.held ∙ ap (held_at ns) e)
          | inr odd ↦ let at : hook_at ns j ≡ 2 * i + 1 = omega arith in not_second (sym j_hung.held ∙ ap (held_at ns) at)
        ] in
        record {
          timer = j_hung.timer;
          held = ap (held_at (freed ns i)) same ∙ held_stays _ apart ∙ j_hung.held;
          may = subst (λ p. MayHold (freed ns i) p j) (sym same) (may _ j apart j_hung.may);
        };
    free = λ j not_first not_second there.
        elim (cases_eq j i) [
          | inl e ↦ t.live (sym there ∙ ap (hook_at (freed ns i)) e ∙ new_hook)
          | inr ne ↦
              let same : hook_at ns j ≡ hook_at ns i = sym (hook_stays j ne) ∙ there in
              ne (sym (t.slots.heaps.hangs j (λ z. t.live (sym same ∙ z))).held ∙ ap (held_at ns) same ∙ hung.held)
        ];
    none = elim (cases_eq (hook_at ns 0) 0) [
      | inl z ↦ hook_stays 0 (λ y. omega (arith, hung.timer)) ∙ z
      | inr live_none ↦ absurd (omega (arith, (t.slots.heaps.hangs 0 live_none).timer))
    ];
  }

  -- what lives afterwards lived before
  pub lived : (j : ℕ) → hook_at (freed ns i) j ≢ 0 → hook_at ns j ≢ 0
  lived j live_j =
      let ne : j ≢ i = λ z. live_j (ap (hook_at (freed ns i)) z ∙ new_hook) in
      λ z. live_j (hook_stays j ne ∙ z)

  pub apart_taken : AreApart (freed ns i)
  apart_taken j k live_j live_k same =
      t.slots.apart j k (lived j live_j) (lived k live_k) (sym (rw (dues j, ids j) refl) ∙ same ∙ rw (dues k, ids k) refl)
