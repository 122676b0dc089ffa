-- A timer has come into a place, and is melded with the heap of its slot.
use Rattle.std.proofs.Common.{◌≡◌, ◌≢◌, ◌⊎◌, ℕ, ◌+◌, ◌-◌, ◌*◌, ◌/◌, ◌%◌, ◌^◌, ◌<◌, Option, Some, None, List, length, set, sym, ap, ◌∙◌, subst, arith, inl, inr, length-set}
use Rattle.std.proofs.lemmas.Bool.{cases_eq}
use Rattle.callouts.specs.declared.nodes.Node.{Node}
use Rattle.callouts.specs.declared.timers.Entry.{Entry}
use Rattle.callouts.specs.Nodes.{loose_node, key_at, due_at, id_at, hook_at, held_at}
use Rattle.callouts.specs.Heaps.{AreHeaps, AreApart, AreMelding, Keeps}
use Rattle.callouts.specs.Timers.{timer_in}
use Rattle.callouts.specs.Winners.{AreStale, AreWinners}
use Rattle.callouts.specs.Slots.{timer_at, places_in, AreSlots}
use Rattle.callouts.proofs.Loose.{within_nodes}
use Rattle.callouts.proofs.Melding.{keeps_keys, apart_kept}
use Rattle.callouts.proofs.Places.{length_places, place_at, places_set, timer_live, timer_free, free_timer}
use Rattle.callouts.proofs.Stale.{winners_stale, winners_stay}
use Rattle.callouts.proofs.Putting.{loosed, IsPut, here, other, hook_stays, held_stays, new_hook, below, lives_on, melding_put}

module _ {ns : List Node} {ws : List ℕ} {i slot : ℕ} {e : Entry} (puts : IsPut ns ws i slot e) (fits : e.id < 2 ^ 64)
    (latest : (j : ℕ) → hook_at ns j ≢ 0 → id_at ns j < e.id) where
  new_id : (j : ℕ) → hook_at (loosed ns i slot e) j ≢ 0 → (j ≢ i) → (hook_at ns j ≢ 0) × (id_at ns j < e.id)
  new_id j live ne = let was_live : hook_at ns j ≢ 0 = λ z. live (hook_stays puts j ne ∙ z) in (was_live, latest j was_live)

  key_new : key_at (loosed ns i slot e) i ≡ e.due * 2 ^ 64 + e.id
  key_new = ap (λ (n : Node). n.due * 2 ^ 64 + n.id) (here puts)

  key_other : (j : ℕ) → j ≢ i → key_at (loosed ns i slot e) j ≡ key_at ns j
  key_other j ne = ap (λ (n : Node). n.due * 2 ^ 64 + n.id) (other puts j ne)

  pub apart_put : AreApart (loosed ns i slot e)
  apart_put j k live_j live_k same = elim (cases_eq j i) [
    | inl a ↦ elim (cases_eq k i) [
      | inl b ↦ a ∙ sym b
      | inr ne ↦
          let less : id_at ns k < e.id = (new_id k live_k ne).1 in
          let keys : e.due * 2 ^ 64 + e.id ≡ due_at ns k * 2 ^ 64 + id_at ns k = sym key_new
          ∙ ap (key_at (loosed ns i slot e)) (sym a) ∙ same ∙ key_other k ne in
          absurd (omega arith)
    ]
    | inr ne ↦ elim (cases_eq k i) [
      | inl b ↦
          let less : id_at ns j < e.id = (new_id j live_j ne).1 in
          let keys : e.due * 2 ^ 64 + e.id ≡ due_at ns j * 2 ^ 64 + id_at ns j = sym key_new
          ∙ ap (key_at (loosed ns i slot e)) (sym b) ∙ sym same ∙ key_other j ne in
          absurd (omega arith)
      | inr me ↦ puts.slots.apart j k (new_id j live_j ne).0 (new_id k live_k me).0 (sym (key_other j ne) ∙ same ∙ key_other k me)
    ]
  ]

  -- once it is melded
  module _ (new : List Node) (keeps : Keeps (loosed ns i slot e) new (2 * slot + 1)) where
    keys_kept : (j : ℕ) → j ≢ i → key_at new j ≡ key_at ns j
    keys_kept j ne = keeps_keys _ _ _ keeps j ∙ key_other j ne

    pub long_put : length new ≡ length ns
    long_put = keeps.length ∙ length-set ns i (loose_node (2 * slot + 1) e)

    keys_stay : (j : ℕ) → (j ≡ 0) ⊎ (hook_at ns j ≢ 0) → key_at new j ≡ key_at ns j
    keys_stay j is = keys_kept j
        (λ z. elim is [ inl none ↦ omega (arith, puts.timer, sym z ∙ none) | inr live ↦ live (ap (hook_at ns) z ∙ puts.is_free) ])

    pub stale_put : AreStale new ws ((slot + 256) / 2)
    stale_put = winners_stale ns new ws puts.slots.heaps puts.slots.winners long_put keys_stay slot (λ h l ne. keeps.roots h l ne ∙ held_stays puts h (λ z. omega (arith, puts.timer))) (below puts)

    -- where the root of its slot is the same
    pub winners_put : held_at new (2 * slot + 1) ≡ held_at ns (2 * slot + 1) → AreWinners new ws
    winners_put root = winners_stay ns new ws puts.slots.heaps puts.slots.winners long_put keys_stay
        (λ h l. elim (cases_eq h (2 * slot + 1)) [
          | inl e ↦ ap (held_at new) e ∙ root ∙ ap (held_at ns) (sym e)
          | inr ne ↦ keeps.roots h l ne ∙ held_stays puts h (λ z. omega (arith, puts.timer))
        ])

    pub slots_put : AreHeaps new → (ws' : List ℕ) → AreWinners new ws' → AreSlots new ws'
    slots_put heaps ws' winners = record {
      some = rw long_put puts.slots.some;
      few = rw long_put puts.slots.few;
      heaps = heaps;
      winners = winners;
      apart = apart_kept _ _ _ keeps apart_put;
      ids = λ j live. rw (keeps.ids j) (elim (cases_eq j i) [
        | inl z ↦ subst (λ n. n < 2 ^ 64) (sym (ap (id_at (loosed ns i slot e)) z ∙ ap (λ (n : Node). n.id) (here puts))) fits
        | inr ne ↦ subst (λ n. n < 2 ^ 64) (sym (ap (λ (n : Node). n.id) (other puts j ne)))
            (puts.slots.ids j (λ z. live (keeps.dead j (hook_stays puts j ne ∙ z))))
      ]);
    }

    pub timer_put : timer_at new i ≡ Some e
    timer_put =
        timer_live new i (keeps.lives i (λ z. let one : 2 * slot + 1 ≡ 0 = sym (new_hook puts) ∙ z in omega arith))
        ∙ rw (keeps.ids i, keeps.dues i) (ap (λ (n : Node). Some (record { id = n.id; due = n.due })) (here puts))

    pub others_put : (j : ℕ) → j ≢ i → timer_at new j ≡ timer_at ns j
    others_put j ne = elim (cases_eq (hook_at ns j) 0) [
      | inl free ↦ timer_free new j (keeps.dead j (hook_stays puts j ne ∙ free)) ∙ sym (timer_free ns j free)
      | inr live ↦
          timer_live new j (keeps.lives j (lives_on puts j live).1)
          ∙ rw (keeps.ids j, keeps.dues j) (ap (λ (n : Node). Some (record { id = n.id; due = n.due })) (other puts j ne))
          ∙ sym (timer_live ns j live)
    ]

-- the same of a place, whose node is 256 further on
module _ (ns put : List Node) (ws : List ℕ) (ps : List (Option Entry)) (place slot : ℕ) (e : Entry) (view : places_in ns ≡ ps)
    (is : put ≡ loosed ns (256 + place) slot e) (slots : AreSlots ns ws) (at : slot ≡ e.due / 2 ^ 64 % 256)
    (inside : place < length ps) (none : timer_in ps place ≡ None) where
  in_places : place < length ns - 256
  in_places = omega (arith, length_places ns, ap length view)

  free : hook_at ns (256 + place) ≡ 0
  free = free_timer ns (256 + place) (sym (place_at ns place in_places) ∙ ap (λ ps. timer_in ps place) view ∙ none)

  puts : IsPut ns ws (256 + place) slot e
  puts = record { slots = slots; timer = omega arith; within = omega (arith, in_places); is_free = free; at = at }

  pub insert_melding : AreMelding put (2 * slot + 1) (256 + place)
  insert_melding = rw is (melding_put puts)

  module _ (fits : e.id < 2 ^ 64) (latest : (p : ℕ) (o : Entry) → timer_in ps p ≡ Some o → o.id < e.id) where
    -- each live timer was added earlier
    earlier : (j : ℕ) → hook_at ns j ≢ 0 → id_at ns j < e.id
    earlier j live =
        let hung = slots.heaps.hangs j live in
        let back : 256 + (j - 256) ≡ j = omega (arith, hung.timer) in
        let in_j : j - 256 < length ns - 256 = omega (arith, hung.timer, within_nodes ns j live) in
        latest (j - 256) _ (sym (ap (λ ps. timer_in ps (j - 256)) view) ∙ place_at ns (j - 256) in_j ∙ ap (timer_at ns) back ∙ timer_live ns j live)

    pub insert_apart : AreApart put
    insert_apart = rw is (apart_put puts fits earlier)

    module _ (new : List Node) (keeps : Keeps put new (2 * slot + 1)) where
      kept : Keeps (loosed ns (256 + place) slot e) new (2 * slot + 1)
      kept = subst (λ ns. Keeps ns new (2 * slot + 1)) is keeps

      pub insert_stale : AreStale new ws ((slot + 256) / 2)
      insert_stale = stale_put puts fits earlier new kept

      pub insert_winners : held_at new (2 * slot + 1) ≡ held_at ns (2 * slot + 1) → AreWinners new ws
      insert_winners = winners_put puts fits earlier new kept

      pub insert_slots : AreHeaps new → (ws' : List ℕ) → AreWinners new ws' → AreSlots new ws'
      insert_slots = slots_put puts fits earlier new kept

      pub insert_places : places_in new ≡ set ps place (Some e)
      insert_places =
          places_set ns new place (Some e) (long_put puts fits earlier new kept) in_places
          (timer_put puts fits earlier new kept) (others_put puts fits earlier new kept)
          ∙ ap (λ ps. set ps place (Some e)) view
