-- After one turn of a meld the heaps are torn further down.
use Rattle.std.proofs.Common.{◌≡◌, ◌≢◌, ℕ, List, sym, ap, ◌∙◌, subst, arith, inl, inr}
use Rattle.std.proofs.lemmas.Bool.{cases_eq}
use Rattle.callouts.specs.declared.nodes.Node.{Node}
use Rattle.callouts.specs.Nodes.{hook_at, held_at}
use Rattle.callouts.specs.Heaps.{MayHold, Hangs, AreTorn, AreMelding}
use Rattle.callouts.proofs.Loose.{some_hook}
use Rattle.callouts.proofs.Turning.{IsTurned, root, down_apart, big, kid, hook_one, dead, may, held_down, loose_kid, loose_other}

module _ {ns new : List Node} {h one other down : ℕ} (t : IsTurned ns new h one other down) where
  -- what the hooks hold afterwards, the one whose kid comes loose left out
  held_case : (P : ℕ → ℕ → Type 0) → P h one → ((p : ℕ) → p ≢ h → p ≢ down → held_at ns p ≢ 0 → P p (held_at ns p))
      → (p : ℕ) → p ≢ down → held_at new p ≢ 0 → P p (held_at new p)
  held_case P at_h at_others p ne full = elim (cases_eq p h) [
    | inl e ↦ let is : held_at new p ≡ one = ap (held_at new) e ∙ t.up.held in rw (is, e) at_h
    | inr b ↦ let is : held_at new p ≡ held_at ns p = t.up.other_hooks p b in rw is (at_others p b ne (λ z. full (is ∙ z)))
  ]

  -- the kid is no node that another hook holds
  only_kid : (p : ℕ) → p ≢ h → p ≢ down → held_at ns p ≢ 0 → held_at ns p ≢ held_at ns down
  only_kid p a b full e =
      let there = kid t down (down_apart t) (λ z. full (e ∙ z)) in
      b (sym (kid t p a full).1 ∙ ap (hook_at ns) e ∙ there.1)

  knows_new : (p : ℕ) → p ≢ down → held_at new p ≢ 0 → (p ≢ 0) × (hook_at new (held_at new p) ≡ p)
  knows_new = held_case (λ p i. (p ≢ 0) × (hook_at new i ≡ p)) (some_hook ns h one (root t), hook_one t)
      (λ p a b full.
      let knows = t.torn.knows p a full in
      (knows.some, t.up.other_nodes (held_at ns p) (t.torn.off_one p a full) ∙ knows.hook))

  hangs_new : (i : ℕ) → i ≢ held_at ns down → i ≢ other → hook_at new i ≢ 0 → Hangs new i
  hangs_new i not_kid not_other l = elim (cases_eq i one) [
    | inl e ↦ rw e (record { timer = (root t).timer; held = ap (held_at new) (hook_one t) ∙ t.up.held; may = rw (hook_one t) (may t h one (root t).may) })
    | inr a ↦
        let same : hook_at new i ≡ hook_at ns i = t.up.other_nodes i a in
        let was_hung = t.torn.hangs i a not_other (λ z. l (same ∙ z)) in
        record {
          timer = was_hung.timer;
          held = ap (held_at new) same ∙ t.up.other_hooks _ (t.torn.free i a not_other) ∙ was_hung.held;
          may = subst (λ q. MayHold new q i) (sym same) (may t _ i was_hung.may);
        }
  ]

  free_new : (i : ℕ) → i ≢ held_at ns down → i ≢ other → hook_at new i ≢ down
  free_new i not_kid not_other at = elim (cases_eq i one) [
    | inl e ↦ down_apart t (sym at ∙ ap (hook_at new) e ∙ hook_one t)
    | inr a ↦
        let was_at : hook_at ns i ≡ down = sym (t.up.other_nodes i a) ∙ at in
        not_kid (sym (t.torn.hangs i a not_other (λ z. let zero : down ≡ 0 = sym was_at ∙ z in omega (arith, big t))).held ∙ ap (held_at ns) was_at)
  ]

  torn_turned : AreTorn new down (held_at ns down) other
  torn_turned = record {
    loose_one = loose_kid t;
    loose_other = loose_other t;
    apart = t.torn.off_other down (down_apart t);
    knows = λ p ne full. let k = knows_new p ne full in record { some = k.0; hook = k.1 };
    off_one = held_case (λ p i. i ≢ held_at ns down)
        (λ e. t.torn.off_one down (down_apart t) (λ z. t.some (e ∙ z)) (sym e))
        only_kid;
    off_other = held_case (λ p i. i ≢ other) (t.torn.apart t.some) (λ p a b full. t.torn.off_other p a full);
    hangs = hangs_new;
    free = free_new;
    none = dead t 0 t.torn.none;
  }

  -- what is loose may be melded with the kid, which hangs there still
  pub melding_turned : AreMelding new down other
  melding_turned = record {
    torn = rw (held_down t) torn_turned;
    knows = rw (held_down t) (λ full. t.up.other_nodes _ (t.torn.off_one down (down_apart t) full) ∙ (kid t down (down_apart t) full).1);
  }
