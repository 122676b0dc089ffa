-- Two heaps are melded: one meld after another, and where it ends.
use Rattle.std.proofs.Common.{◌≡◌, ◌≢◌, ◌⊎◌, ℕ, ◌/◌, ◌<◌, ◌≤◌, List, length, refl, sym, ap, ◌∙◌, subst, arith, inl, inr}
use Rattle.std.proofs.lemmas.Bool.{cases_eq}
use Rattle.callouts.specs.declared.nodes.Node.{Node}
use Rattle.callouts.specs.Nodes.{key_at, hook_at, held_at}
use Rattle.callouts.specs.Heaps.{IsHung, MayHold, Hangs, KnowsHook, AreApart, AreHeaps, AreTorn, Keeps}
use Rattle.callouts.proofs.Loose.{within_nodes, may_stays, some_hook, torn_swap}

pub keeps_keys : (ns new : List Node) (h : ℕ) → Keeps ns new h → (j : ℕ) → key_at new j ≡ key_at ns j
keeps_keys ns new h keeps j = rw (keeps.dues j, keeps.ids j) refl

-- no two timers are the same in the order afterwards
pub apart_kept : (ns new : List Node) (h : ℕ) → Keeps ns new h → AreApart ns → AreApart new
apart_kept ns new h keeps apart j k live_j live_k same =
    apart j k (λ z. live_j (keeps.dead j z)) (λ z. live_k (keeps.dead k z))
    (sym (keeps_keys ns new h keeps j) ∙ same ∙ keeps_keys ns new h keeps k)

-- one meld after another at a hook of a timer
pub keeps_on : (old mid new : List Node) (h p : ℕ) → Keeps old mid h → Keeps mid new p → (p ≡ h) ⊎ (512 ≤ p) → Keeps old new h
keeps_on old mid new h p one two at = record {
  dues = λ j. two.dues j ∙ one.dues j;
  ids = λ j. two.ids j ∙ one.ids j;
  lives = λ j l. two.lives j (one.lives j l);
  dead = λ j z. two.dead j (one.dead j z);
  roots = λ q l ne. two.roots q l (elim at [ inl e ↦ λ z. ne (z ∙ e) | inr m ↦ λ z. omega arith ]) ∙ one.roots q l ne;
  length = two.length ∙ one.length;
}

-- where one of the two heaps is none
pub one_left : (ns : List Node) (h one other rest : ℕ) → AreTorn ns h one other → (one ≡ 0) ⊎ (other ≡ 0)
    → ((one ≡ 0) × (rest ≡ other)) ⊎ ((one ≢ 0) × (rest ≡ one)) → AreTorn ns h rest 0
one_left ns h one other rest torn none is = elim is [
  | inl e ↦ rw e.1 (subst (AreTorn ns h other) e.0 (torn_swap ns h one other torn))
  | inr e ↦ elim none [
    | inl z ↦ absurd (e.0 z)
    | inr z ↦ rw e.1 (subst (AreTorn ns h one) z torn)
  ]
]

-- where one heap is left, and hangs from the hook
module _ (ns : List Node) (h rest : ℕ) (torn : AreTorn ns h rest 0) where
  pub rest_within : 0 < length ns → rest < length ns
  rest_within some = elim (cases_eq rest 0) [ inl z ↦ rw z some | inr full ↦ within_nodes ns rest (torn.loose_one full).lives ]

  module _ (new : List Node) (hung : IsHung ns new h rest) where
    hook_rest : rest ≢ 0 → (h ≢ 0) × (hook_at new rest ≡ h)
    hook_rest full = (some_hook ns h rest (torn.loose_one full), hung.hangs full)

    same_or_rest : (j : ℕ) → ((j ≡ rest) × (rest ≢ 0)) ⊎ (((j ≢ rest) ⊎ (j ≡ 0)) × (hook_at new j ≡ hook_at ns j))
    same_or_rest j = elim (cases_eq j rest) [
      | inl e ↦ elim (cases_eq rest 0) [
        | inl z ↦ inr (inr (e ∙ z), ap (hook_at new) (e ∙ z) ∙ hung.nothing z ∙ ap (hook_at ns) (sym (e ∙ z)))
        | inr full ↦ inl (e, full)
      ]
      | inr ne ↦ inr (inl ne, hung.other_nodes j ne)
    ]

    lives : (j : ℕ) → hook_at ns j ≢ 0 → hook_at new j ≢ 0
    lives j l z = elim (same_or_rest j) [
      | inl r ↦ (hook_rest r.1).0 (sym (hook_rest r.1).1 ∙ ap (hook_at new) (sym r.0) ∙ z)
      | inr same ↦ l (sym same.1 ∙ z)
    ]

    may : (p i : ℕ) → MayHold ns p i → MayHold new p i
    may p i is = may_stays ns new p i hung.dues hung.ids (λ _. lives (p / 2)) is

    knows : (p : ℕ) → held_at new p ≢ 0 → KnowsHook new p
    knows p full = elim (cases_eq p h) [
      | inl e ↦
          let is : held_at new p ≡ rest = ap (held_at new) e ∙ hung.held in
          let at = hook_rest (λ z. full (is ∙ z)) in
          record { some = rw e at.0; hook = ap (hook_at new) is ∙ at.1 ∙ sym e }
      | inr ne ↦
          let is : held_at new p ≡ held_at ns p = hung.other_hooks p ne in
          let was_full : held_at ns p ≢ 0 = λ z. full (is ∙ z) in
          record {
            some = (torn.knows p ne was_full).some;
            hook = ap (hook_at new) is ∙ hung.other_nodes _ (torn.off_one p ne was_full)
                ∙ (torn.knows p ne was_full).hook;
          }
    ]

    hangs : (i : ℕ) → hook_at new i ≢ 0 → Hangs new i
    hangs i l = elim (same_or_rest i) [
      | inl r ↦
          let loose = torn.loose_one r.1 in
          let at : hook_at new i ≡ h = ap (hook_at new) r.0 ∙ hung.hangs r.1 in
          record {
            timer = rw r.0 loose.timer;
            held = ap (held_at new) at ∙ hung.held ∙ sym r.0;
            may = subst (λ q. MayHold new q i) (sym at) (may h i (rw r.0 loose.may));
          }
      | inr same ↦
          let was_live : hook_at ns i ≢ 0 = λ z. l (same.1 ∙ z) in
          let not_none : i ≢ 0 = λ z. was_live (ap (hook_at ns) z ∙ torn.none) in
          let ne : i ≢ rest = elim same.0 [ inl apart ↦ apart | inr z ↦ absurd (not_none z) ] in
          let was = torn.hangs i ne not_none was_live in
          record {
            timer = was.timer;
            held = ap (held_at new) same.1 ∙ hung.other_hooks _ (torn.free i ne not_none) ∙ was.held;
            may = subst (λ q. MayHold new q i) (sym same.1) (may _ i was.may);
          }
    ]

    pub heaps_melded : AreHeaps new
    heaps_melded = record { knows = knows; hangs = hangs }

    pub keeps_melded : Keeps ns new h
    keeps_melded = record {
      dues = hung.dues;
      ids = hung.ids;
      lives = lives;
      dead = λ j z. elim (same_or_rest j) [
        | inl r ↦ absurd ((torn.loose_one r.1).lives (ap (hook_at ns) (sym r.0) ∙ z))
        | inr same ↦ same.1 ∙ z
      ];
      roots = λ p _ ne. hung.other_hooks p ne;
      length = hung.length;
    }
