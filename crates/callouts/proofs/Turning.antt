-- One turn of a meld: a heap hangs from the hook, and what it held on one side comes loose.
use Rattle.std.proofs.Common.{◌≡◌, ◌≢◌, ℕ, ◌/◌, ◌<◌, ◌≤◌, List, refl, sym, ap, ◌∙◌, arith, inl, inr}
use Rattle.std.proofs.lemmas.Bool.{cases_eq, cases_lt}
use Rattle.callouts.specs.declared.nodes.Node.{Node}
use Rattle.callouts.specs.Nodes.{key_at, slot_at, hook_at, held_at}
use Rattle.callouts.specs.Heaps.{IsHung, MayHold, Hangs, IsLoose, AreTorn, Keeps}
use Rattle.callouts.proofs.Loose.{may_stays, some_hook}

-- a heap that hangs where it is to be hung: nothing changes
pub hung_already : (ns : List Node) (h one : ℕ) → held_at ns h ≡ one → hook_at ns one ≡ h → IsHung ns ns h one
hung_already ns h one held hook = record {
  held = held;
  other_hooks = λ p ne. refl;
  hangs = λ some. hook;
  other_nodes = λ j ne. refl;
  nothing = λ z. refl;
  dues = λ j. refl;
  ids = λ j. refl;
  length = refl;
}

-- the write of a turn, and the hook of the root whose kid comes loose
pub record IsTurned (ns new : List Node) (h one other down : ℕ) : Type 0 where
  pub torn : AreTorn ns h one other
  pub some : one ≢ 0
  pub before : other ≢ 0 → key_at ns one < key_at ns other
  pub up : IsHung ns new h one
  pub half : down / 2 ≡ one

module _ {ns new : List Node} {h one other down : ℕ} (t : IsTurned ns new h one other down) where
  pub root : IsLoose ns h one
  root = t.torn.loose_one t.some

  -- the hook is at no node that is loose
  pub down_apart : down ≢ h
  down_apart e = elim (cases_lt h 512) [
    | inl l ↦ omega (arith, root.timer, t.half)
    | inr m ↦ let lt : key_at ns (h / 2) < key_at ns one = root.may.before m in omega (arith, ap (key_at ns) (ap (λ n. n / 2) (sym e) ∙ t.half))
  ]

  pub big : 512 ≤ down
  big = omega (arith, root.timer, t.half)

  -- what hangs from a hook hangs there as it should
  pub kid : (p : ℕ) → p ≢ h → held_at ns p ≢ 0 → Hangs ns (held_at ns p) × (hook_at ns (held_at ns p) ≡ p)
  kid p ne full =
      let knows = t.torn.knows p ne full in
      let e : hook_at ns (held_at ns p) ≡ p = knows.hook in
      (t.torn.hangs (held_at ns p) (t.torn.off_one p ne full) (t.torn.off_other p ne full) (λ z. knows.some (sym e ∙ z)), e)

  pub hook_one : hook_at new one ≡ h
  hook_one = t.up.hangs t.some

  pub lives : (j : ℕ) → hook_at ns j ≢ 0 → hook_at new j ≢ 0
  lives j l z = elim (cases_eq j one) [
    | inl e ↦ some_hook ns h one root (sym hook_one ∙ ap (hook_at new) (sym e) ∙ z)
    | inr a ↦ l (sym (t.up.other_nodes j a) ∙ z)
  ]

  pub dead : (j : ℕ) → hook_at ns j ≡ 0 → hook_at new j ≡ 0
  dead j z = elim (cases_eq j one) [
    | inl e ↦ absurd (root.lives (sym (ap (hook_at ns) e) ∙ z))
    | inr a ↦ t.up.other_nodes j a ∙ z
  ]

  pub may : (p i : ℕ) → MayHold ns p i → MayHold new p i
  may p i is = may_stays ns new p i t.up.dues t.up.ids (λ _. lives (p / 2)) is

  -- a timer that fires after the turned heap's root, and in its slot, may come below it
  below : (i : ℕ) → slot_at ns one ≡ slot_at ns i → key_at ns one < key_at ns i → MayHold ns down i
  below i same lt = record {
    root = λ l. absurd (omega (arith, big));
    lives = λ _. rw t.half root.lives;
    slot = λ _. rw t.half same;
    before = λ _. rw t.half lt;
  }

  pub held_down : held_at new down ≡ held_at ns down
  held_down = t.up.other_hooks down down_apart

  pub loose_kid : held_at ns down ≢ 0 → IsLoose new down (held_at ns down)
  loose_kid full =
      let k = kid down down_apart full in
      record {
        timer = k.0.timer;
        lives = lives _ (λ z. let zero : down ≡ 0 = sym k.1 ∙ z in omega (arith, big));
        may = may down _ (rw k.1 at k.0.may);
      }

  pub loose_other : other ≢ 0 → IsLoose new down other
  loose_other there =
      let loose = t.torn.loose_other there in
      let same : slot_at ns one ≡ slot_at ns other = elim (cases_lt h 512) [
        | inl l ↦ omega (arith, root.may.root l, loose.may.root l)
        | inr m ↦ sym (root.may.slot m) ∙ loose.may.slot m
      ] in
      record {
        timer = loose.timer;
        lives = lives other loose.lives;
        may = may down other (below other same (t.before there));
      }

  -- what comes loose fires after the root that it hung from
  pub kid_after : held_at ns down ≢ 0 → key_at ns one < key_at ns (held_at ns down)
  kid_after full =
      let k = kid down down_apart full in
      let is : MayHold ns down (held_at ns down) = rw k.1 at k.0.may in
      omega (arith, is.before big, ap (key_at ns) t.half)

  pub keeps_turned : Keeps ns new h
  keeps_turned = record {
    dues = t.up.dues;
    ids = t.up.ids;
    lives = lives;
    dead = dead;
    roots = λ p l ne. t.up.other_hooks p ne;
    length = t.up.length;
  }
