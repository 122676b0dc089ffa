-- The root that wins is the first of all timers to fire.
use Rattle.std.proofs.Common.{◌≡◌, ◌≢◌, ◌⊎◌, ℕ, ◌+◌, ◌-◌, ◌*◌, ◌^◌, ◌<◌, ◌≤◌, None, List, length, slice_index, ap, ◌∙◌, subst, arith, inl, inr}
use Rattle.std.proofs.lemmas.Bool.{cases_eq, cases_lt}
use Rattle.std.proofs.lemmas.List.{get_or_past}
use Rattle.callouts.specs.declared.nodes.Node.{Node}
use Rattle.callouts.specs.declared.timers.Entry.{Entry}
use Rattle.callouts.specs.Nodes.{key_at, due_at, id_at, hook_at}
use Rattle.callouts.specs.Timers.{timer_in, IsNoLater, IsFirst}
use Rattle.callouts.specs.Slots.{timer_at, places_in, AreSlots}
use Rattle.callouts.proofs.Loose.{within_nodes}
use Rattle.callouts.proofs.Leading.{first_lives, first_leads_all}
use Rattle.callouts.proofs.Places.{length_places, place_at, placed, timer_live, live_timer, timer_free}

-- the order of keys is the order in which timers fire
no_later : (due id due' id' : ℕ) → id < 2 ^ 64 → id' < 2 ^ 64 → due * 2 ^ 64 + id ≤ due' * 2 ^ 64 + id' → (due < due') ⊎ ((due ≡ due') × (id ≤ id'))
no_later due id due' id' one other le = elim (cases_lt due due') [
  | inl l ↦ inl l
  | inr m ↦ inr (omega arith, omega arith)
]

module _ (ns : List Node) (ws : List ℕ) (slots : AreSlots ns ws) where
  pub none_live : slice_index ws 1 ≡ 0 → (p : ℕ) → timer_in (places_in ns) p ≡ None
  none_live none p = elim (cases_lt p (length ns - 256)) [
    | inl l ↦ place_at ns p l ∙ timer_free ns (256 + p) (elim (cases_eq (hook_at ns (256 + p)) 0) [
      | inl z ↦ z
      | inr live ↦ absurd ((first_leads_all ns ws slots.heaps slots.winners (256 + p) live).0 none)
    ])
    | inr past ↦ get_or_past (places_in ns) p None (omega (arith, length_places ns))
  ]

  module _ (some : slice_index ws 1 ≢ 0) where
    live : hook_at ns (slice_index ws 1) ≢ 0
    live = first_lives ns ws slots.heaps slots.winners some

    pub first_place : (256 ≤ slice_index ws 1) × (slice_index ws 1 < length ns)
    first_place = ((slots.heaps.hangs _ live).timer, within_nodes ns _ live)

    back : 256 + (slice_index ws 1 - 256) ≡ slice_index ws 1
    back = omega (arith, first_place.0)

    pub first_is : (e : Entry) × IsFirst (places_in ns) (slice_index ws 1 - 256) e
    first_is = (
      record { id = id_at ns (slice_index ws 1); due = due_at ns (slice_index ws 1) },
      record {
        lives = place_at ns (slice_index ws 1 - 256) (omega (arith, first_place)) ∙ ap (timer_at ns) back ∙ timer_live ns (slice_index ws 1) live;
        first = λ q o is.
            let at = placed ns q o is in
            let there = live_timer ns (256 + q) o at.1 in
            let leads : key_at ns (slice_index ws 1) ≤ key_at ns (256 + q) = (first_leads_all ns ws slots.heaps slots.winners (256 + q) there.0).1 in
            subst (IsNoLater (record { id = id_at ns (slice_index ws 1); due = due_at ns (slice_index ws 1) })) there.1
            (no_later (due_at ns (slice_index ws 1)) (id_at ns (slice_index ws 1)) (due_at ns (256 + q)) (id_at ns (256 + q)) (slots.ids _ live)
            (slots.ids _ there.0) leads);
      },
    )
