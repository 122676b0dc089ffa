-- A timer has gone, and what hung from it is melded at its hook.
use Rattle.std.proofs.Common.{◌≡◌, ◌≢◌, ℕ, ◌+◌, ◌-◌, ◌*◌, ◌/◌, ◌<◌, ◌≤◌, Option, None, List, length, set, refl, sym, ap, ◌∙◌, subst, arith, inl, inr, length-set}
use Rattle.std.specs.Option.{IsSome}
use Rattle.std.proofs.lemmas.List.{get_or_past}
use Rattle.std.proofs.lemmas.Bool.{cases_eq, cases_lt}
use Rattle.callouts.specs.declared.nodes.Node.{Node}
use Rattle.callouts.specs.declared.timers.Entry.{Entry}
use Rattle.callouts.specs.Nodes.{free_node, node_at, key_at, hook_at, held_at}
use Rattle.callouts.specs.Heaps.{AreHeaps, AreApart, AreTorn, Keeps}
use Rattle.callouts.specs.Timers.{timer_in}
use Rattle.callouts.specs.Winners.{AreStale, AreWinners}
use Rattle.callouts.specs.Slots.{timer_at, places_in, AreSlots}
use Rattle.callouts.proofs.Melding.{apart_kept}
use Rattle.callouts.proofs.Places.{length_places, place_at, places_set, timer_live, timer_free}
use Rattle.callouts.proofs.Stale.{winners_stale, winners_stay}
use Rattle.callouts.proofs.Taking.{freed, IsTaken, hung, hook_stays, held_stays, new_hook, dues, ids, torn_taken, lived, apart_taken}

some_none : {o : Option Entry} → o ≡ None → IsSome o → ⊥
some_none none some = cc

module _ {ns : List Node} {ws : List ℕ} {i : ℕ} (t : IsTaken ns ws i) (new : List Node) (keeps : Keeps (freed ns i) new (hook_at ns i)) where
  keys_kept : (j : ℕ) → key_at new j ≡ key_at ns j
  keys_kept j = rw (keeps.dues j, keeps.ids j, dues t j, ids t j) refl

  pub long_taken : length new ≡ length ns
  long_taken = keeps.length ∙ length-set ns i (free_node (node_at ns i))

  roots_kept : (h : ℕ) → h < 512 → h ≢ hook_at ns i → held_at new h ≡ held_at ns h
  roots_kept h l ne = keeps.roots h l ne ∙ held_stays t h (λ z. omega (arith, (hung t).timer))

  pub stale_taken : hook_at ns i < 512 → AreStale new ws ((hook_at ns i / 2 + 256) / 2)
  stale_taken low = winners_stale ns new ws t.slots.heaps t.slots.winners long_taken (λ j _. keys_kept j) (hook_at ns i / 2)
      (λ h l ne. roots_kept h l (λ z. ne (omega (arith, (hung t).may.root low)))) (omega arith)

  pub winners_taken : 512 ≤ hook_at ns i → AreWinners new ws
  winners_taken high = winners_stay ns new ws t.slots.heaps t.slots.winners long_taken (λ j _. keys_kept j) (λ h l. roots_kept h l (λ z. omega arith))

  pub slots_taken : AreHeaps new → (ws' : List ℕ) → AreWinners new ws' → AreSlots new ws'
  slots_taken heaps ws' winners = record {
    some = rw long_taken t.slots.some;
    few = rw long_taken t.slots.few;
    heaps = heaps;
    winners = winners;
    apart = apart_kept _ _ _ keeps (apart_taken t);
    ids = λ j live_j. rw (keeps.ids j ∙ ids t j) (t.slots.ids j (lived t j (λ z. live_j (keeps.dead j z))));
  }

  pub timer_taken : timer_at new i ≡ None
  timer_taken = timer_free new i (keeps.dead i (new_hook t))

  pub others_taken : (j : ℕ) → j ≢ i → timer_at new j ≡ timer_at ns j
  others_taken j ne = elim (cases_eq (hook_at ns j) 0) [
    | inl free ↦ timer_free new j (keeps.dead j (hook_stays t j ne ∙ free)) ∙ sym (timer_free ns j free)
    | inr live_j ↦
        timer_live new j (keeps.lives j (λ z. live_j (sym (hook_stays t j ne) ∙ z)))
        ∙ rw (keeps.ids j ∙ ids t j, keeps.dues j ∙ dues t j) refl
        ∙ sym (timer_live ns j live_j)
  ]

-- the same of a place, whose node is 256 further on
module _ (ns bare : List Node) (ws : List ℕ) (ps : List (Option Entry)) (place hook : ℕ) (view : places_in ns ≡ ps) (slots : AreSlots ns ws)
    (some : IsSome (timer_in ps place)) where
  pub remove_lives : (place < length ns - 256) × (hook_at ns (256 + place) ≢ 0)
  remove_lives = elim (cases_lt place (length ns - 256)) [
    | inl l ↦ (l, λ z. some_none (sym (ap (λ ps. timer_in ps place) view) ∙ place_at ns place l ∙ timer_free ns (256 + place) z) some)
    | inr m ↦ absurd (some_none (get_or_past ps place None (omega (arith, length_places ns, ap length view))) some)
  ]

  taken : IsTaken ns ws (256 + place)
  taken = record { slots = slots; live = remove_lives.1 }

  module _ (is : bare ≡ freed ns (256 + place)) (at : hook ≡ hook_at ns (256 + place)) where
    pub remove_torn : AreTorn bare hook (held_at ns (2 * (256 + place) + 0)) (held_at ns (2 * (256 + place) + 1))
    remove_torn = let first : 2 * (256 + place) + 0 ≡ 2 * (256 + place) = omega arith in rw (is, at, first) (torn_taken taken)

    pub remove_apart : AreApart bare
    remove_apart = rw is (apart_taken taken)

    module _ (new : List Node) (keeps : Keeps bare new hook) where
      kept : Keeps (freed ns (256 + place)) new (hook_at ns (256 + place))
      kept = subst (λ h. Keeps (freed ns (256 + place)) new h) at (subst (λ ns. Keeps ns new hook) is keeps)

      pub remove_stale : hook < 512 → AreStale new ws ((hook / 2 + 256) / 2)
      remove_stale low = rw at (stale_taken taken new kept (omega (arith, at)))

      pub remove_winners : 512 ≤ hook → AreWinners new ws
      remove_winners high = winners_taken taken new kept (omega (arith, at))

      pub remove_slots : AreHeaps new → (ws' : List ℕ) → AreWinners new ws' → AreSlots new ws'
      remove_slots = slots_taken taken new kept

      pub remove_places : places_in new ≡ set ps place None
      remove_places =
          places_set ns new place None (long_taken taken new kept) remove_lives.0
          (timer_taken taken new kept) (others_taken taken new kept)
          ∙ ap (λ ps. set ps place None) view
