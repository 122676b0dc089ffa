-- A timer comes into a free place: its node is loose, and so is the root of its slot.
use Rattle.std.proofs.Common.{◌≡◌, ◌≢◌, ℕ, ◌+◌, ◌*◌, ◌/◌, ◌%◌, ◌^◌, ◌<◌, ◌≤◌, List, length, set, refl, sym, ap, ◌∙◌, subst, arith, inl, inr}
use Rattle.std.proofs.lemmas.Bool.{cases_eq, cases_lt}
use Rattle.callouts.specs.declared.nodes.Node.{Node}
use Rattle.callouts.specs.declared.timers.Entry.{Entry}
use Rattle.callouts.specs.Nodes.{loose_node, node_at, key_at, slot_at, hook_at, held_at}
use Rattle.callouts.specs.Heaps.{MayHold, AreTorn, AreMelding}
use Rattle.callouts.specs.Slots.{AreSlots}
use Rattle.callouts.proofs.Loose.{torn_swap, held_knows}
use Rattle.callouts.proofs.Places.{node_here, node_other, hook_other, held_other, held_was}

-- with a node that is a timer's, which is to hang from the root hook of its slot
abbrev pub loosed : List Node → ℕ → ℕ → Entry → List Node
loosed ns i slot e = set ns i (loose_node (2 * slot + 1) e)

-- a timer that comes, and a node that is none's
pub record IsPut (ns : List Node) (ws : List ℕ) (i slot : ℕ) (e : Entry) : Type 0 where
  pub slots : AreSlots ns ws
  pub timer : 256 ≤ i
  pub within : i < length ns
  pub is_free : hook_at ns i ≡ 0
  pub at : slot ≡ e.due / 2 ^ 64 % 256

module _ {ns : List Node} {ws : List ℕ} {i slot : ℕ} {e : Entry} (puts : IsPut ns ws i slot e) where
  pub here : node_at (loosed ns i slot e) i ≡ loose_node (2 * slot + 1) e
  here = node_here ns i (loose_node (2 * slot + 1) e) puts.within refl

  pub other : (j : ℕ) → j ≢ i → node_at (loosed ns i slot e) j ≡ node_at ns j
  other = node_other ns i (loose_node (2 * slot + 1) e) puts.within refl

  pub hook_stays : (j : ℕ) → j ≢ i → hook_at (loosed ns i slot e) j ≡ hook_at ns j
  hook_stays = hook_other ns i (loose_node (2 * slot + 1) e) puts.within refl

  pub held_stays : (p : ℕ) → p / 2 ≢ i → held_at (loosed ns i slot e) p ≡ held_at ns p
  held_stays = held_other ns i (loose_node (2 * slot + 1) e) puts.within refl

  was : (p : ℕ) → held_at (loosed ns i slot e) p ≢ 0 → (p / 2 ≢ i) × (held_at (loosed ns i slot e) p ≡ held_at ns p)
  was = held_was ns i (loose_node (2 * slot + 1) e) puts.within refl

  pub new_hook : hook_at (loosed ns i slot e) i ≡ 2 * slot + 1
  new_hook = ap (λ (n : Node). n.hook) here

  new_slot : slot_at (loosed ns i slot e) i ≡ slot
  new_slot = ap (λ (n : Node). n.due / 2 ^ 64 % 256) here ∙ sym puts.at

  pub below : slot < 256
  below = omega (arith, puts.at)

  -- what a live timer may hang from stays, since the new node held nothing
  pub lives_on : (j : ℕ) → hook_at ns j ≢ 0 → (j ≢ i) × (hook_at (loosed ns i slot e) j ≢ 0)
  lives_on j live =
      let ne : j ≢ i = λ z. live (ap (hook_at ns) z ∙ puts.is_free) in
      (ne, λ z. live (sym (hook_stays j ne) ∙ z))

  may : (p j : ℕ) → hook_at ns j ≢ 0 → MayHold ns p j → MayHold (loosed ns i slot e) p j
  may p j live is =
      let ne = (lives_on j live).0 in
      let same_slot : slot_at (loosed ns i slot e) j ≡ slot_at ns j = ap (λ (n : Node). n.due / 2 ^ 64 % 256) (other j ne) in
      let same_key : key_at (loosed ns i slot e) j ≡ key_at ns j = ap (λ (n : Node). n.due * 2 ^ 64 + n.id) (other j ne) in
      record {
        root = λ l. is.root l ∙ sym (ap (λ s. 2 * s + 1) same_slot);
        lives = λ m. (lives_on (p / 2) (is.lives m)).1;
        slot = λ m. ap (λ (n : Node). n.due / 2 ^ 64 % 256) (other (p / 2) (lives_on (p / 2) (is.lives m)).0) ∙ is.slot m ∙ sym same_slot;
        before = λ m. omega (arith, is.before m, same_key, ap (λ (n : Node). n.due * 2 ^ 64 + n.id) (other (p / 2) (lives_on (p / 2) (is.lives m)).0));
      }

  torn_put : AreTorn (loosed ns i slot e) (2 * slot + 1) i (held_at ns (2 * slot + 1))
  torn_put = record {
    loose_one = λ _. record {
      timer = puts.timer;
      lives = λ z. let one : 2 * slot + 1 ≡ 0 = sym new_hook ∙ z in omega arith;
      may = record {
        root = λ _. ap (λ s. 2 * s + 1) (sym new_slot);
        lives = λ m. absurd (omega (arith, below));
        slot = λ m. absurd (omega (arith, below));
        before = λ m. absurd (omega (arith, below));
      };
    };
    loose_other = λ full.
        let k = held_knows ns puts.slots.heaps (2 * slot + 1) full in
        let hung = puts.slots.heaps.hangs _ k.2 in
        record {
          timer = hung.timer;
          lives = (lives_on _ k.2).1;
          may = subst
              (λ p. MayHold (loosed ns i slot e) p (held_at ns (2 * slot + 1))) k.1 (may _ _ k.2 hung.may);
        };
    apart = λ some same. let k = held_knows ns puts.slots.heaps (2 * slot + 1) (λ z. some (same ∙ z)) in k.2 (ap (hook_at ns) (sym same) ∙ puts.is_free);
    knows = λ p ne full.
        let w = was p full in
        let k = held_knows ns puts.slots.heaps p (λ z. full (w.1 ∙ z)) in
        record { some = k.0; hook = ap (hook_at (loosed ns i slot e)) w.1 ∙ hook_stays _ (lives_on _ k.2).0 ∙ k.1 };
    off_one = λ p ne full same.
        let w = was p full in
        let k = held_knows ns puts.slots.heaps p (λ z. full (w.1 ∙ z)) in
        (lives_on _ k.2).0 (sym w.1 ∙ same);
    off_other = λ p ne full same.
        let w = was p full in
        let k = held_knows ns puts.slots.heaps p (λ z. full (w.1 ∙ z)) in
        let root : held_at ns p ≡ held_at ns (2 * slot + 1) = sym w.1 ∙ same in
        let r = held_knows ns puts.slots.heaps (2 * slot + 1) (λ z. full (w.1 ∙ root ∙ z)) in
        ne (sym k.1 ∙ ap (hook_at ns) root ∙ r.1);
    hangs = λ j not_new not_root live.
        let same = hook_stays j not_new in
        let was_live : hook_at ns j ≢ 0 = λ z. live (same ∙ z) in
        let hung = puts.slots.heaps.hangs j was_live in
        let apart : hook_at ns j / 2 ≢ i = λ z. elim (cases_lt (hook_at ns j) 512) [
          | inl l ↦ omega (arith, puts.timer)
          | inr m ↦ hung.may.lives m (ap (hook_at ns) z ∙ puts.is_free)
        ] in
        record {
          timer = hung.timer;
          held = ap (held_at (loosed ns i slot e)) same ∙ held_stays _ apart ∙ hung.held;
          may = subst (λ p. MayHold (loosed ns i slot e) p j) (sym same) (may _ j was_live hung.may);
        };
    free = λ j not_new not_root here_too.
        let same : hook_at ns j ≡ 2 * slot + 1 = sym (hook_stays j not_new) ∙ here_too in
        let hung = puts.slots.heaps.hangs j (λ z. let one : 2 * slot + 1 ≡ 0 = sym same ∙ z in omega arith) in
        not_root (sym hung.held ∙ ap (held_at ns) same);
    none = elim (cases_eq (hook_at ns 0) 0) [
      | inl z ↦ hook_stays 0 (λ y. omega (arith, puts.timer)) ∙ z
      | inr live ↦ absurd (omega (arith, (puts.slots.heaps.hangs 0 live).timer))
    ];
  }

  -- it may be melded with the root of its slot
  pub melding_put : AreMelding (loosed ns i slot e) (2 * slot + 1) i
  melding_put =
      let same : held_at (loosed ns i slot e) (2 * slot + 1) ≡ held_at ns (2 * slot + 1) = held_stays (2 * slot + 1) (λ z. omega (arith, puts.timer, below)) in
      record {
        torn = rw same (torn_swap _ _ _ _ torn_put);
        knows = rw same (λ full. let k = held_knows ns puts.slots.heaps (2 * slot + 1) full in hook_stays _ (lives_on _ k.2).0 ∙ k.1);
      }
