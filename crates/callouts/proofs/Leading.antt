-- What the last place of the tree of winners has lives, and fires before all others.
use Rattle.std.proofs.Common.{◌≡◌, ◌≢◌, ◌⊎◌, ℕ, zero, suc, ◌+◌, ◌-◌, ◌*◌, ◌/◌, ◌<◌, ◌≤◌, List, slice_index, sym, ap, ◌∙◌, arith, inl, inr}
use Rattle.std.proofs.lemmas.Bool.{cases_eq, cases_lt}
use Rattle.callouts.specs.declared.nodes.Node.{Node}
use Rattle.callouts.specs.Nodes.{key_at, slot_at, hook_at, held_at}
use Rattle.callouts.specs.Heaps.{AreHeaps}
use Rattle.callouts.specs.Winners.{first_of, winner_at, AreWinners, AreStale}
use Rattle.callouts.proofs.Playing.{winner_low, winner_high, first_cases, first_leads}

module _ (ns : List Node) (ws : List ℕ) (heaps : AreHeaps ns) where
  -- in its slot a timer that lives has a root that fires no later
  root_leads : (n j : ℕ) → key_at ns j < n → hook_at ns j ≢ 0
      → (held_at ns (2 * slot_at ns j + 1) ≢ 0) × (key_at ns (held_at ns (2 * slot_at ns j + 1)) ≤ key_at ns j)
  root_leads zero j l live = absurd (omega arith)
  root_leads (suc n) j l live =
      let hung = heaps.hangs j live in
      elim (cases_lt (hook_at ns j) 512) [
        | inl low ↦
            let at : held_at ns (2 * slot_at ns j + 1) ≡ j = ap (held_at ns) (sym (hung.may.root low)) ∙ hung.held in
            ((λ z. omega (arith, hung.timer, sym at ∙ z)), rw at (omega arith))
        | inr high ↦
            let up : ℕ = hook_at ns j / 2 in
            let before : key_at ns up < key_at ns j = hung.may.before high in
            let same : slot_at ns up ≡ slot_at ns j = hung.may.slot high in
            let rest = root_leads n up (omega arith) (hung.may.lives high) in
            rw (← same) (rest.0, omega (arith, rest.1))
      ]

  -- what a place has lives, where no place from there on is stale
  pub winner_lives : (stale : ℕ) → AreStale ns ws stale → (n k : ℕ) → 512 - k < n → stale < k → k < 512 → winner_at ns ws k ≢ 0
      → hook_at ns (winner_at ns ws k) ≢ 0
  winner_lives stale but zero k l past within full = absurd (omega arith)
  winner_lives stale but (suc n) k l past within full = elim (cases_lt k 256) [
    | inl low ↦
        let at : winner_at ns ws k ≡ slice_index ws k = winner_low ns ws k low in
        let played : winner_at ns ws k ≡ first_of ns (winner_at ns ws (2 * k)) (winner_at ns ws (2 * k + 1)) = at
        ∙ but.played k (omega arith) low (λ z. omega arith) in
        elim (first_cases ns (winner_at ns ws (2 * k)) (winner_at ns ws (2 * k + 1))) [
          | inl e ↦ rw (played ∙ e) (winner_lives stale but n (2 * k) (omega arith) (omega arith) (omega arith) (λ z. full (played ∙ e ∙ z)))
          | inr e ↦ rw (played ∙ e) (winner_lives stale but n (2 * k + 1) (omega arith) (omega arith) (omega arith) (λ z. full (played ∙ e ∙ z)))
        ]
    | inr high ↦
        let at : winner_at ns ws k ≡ held_at ns (2 * (k - 256) + 1) = winner_high ns ws k high in
        let knows = heaps.knows (2 * (k - 256) + 1) (λ z. full (at ∙ z)) in
        rw at (λ z. knows.some (sym knows.hook ∙ z))
  ]

  module _ (winners : AreWinners ns ws) where
    -- no place is stale
    pub none_stale_at : AreStale ns ws 0
    none_stale_at = record { places = winners.places; within = winners.within; played = λ k l h _. winners.played k l h }

    -- what the last place has fires no later than what any place has
    winner_leads : (n k : ℕ) → k < n → 0 < k → k < 512 → winner_at ns ws k ≢ 0
        → (slice_index ws 1 ≢ 0) × (key_at ns (slice_index ws 1) ≤ key_at ns (winner_at ns ws k))
    winner_leads zero k l some within full = absurd (omega arith)
    winner_leads (suc n) k l some within full = elim (cases_eq k 1) [
      | inl e ↦ let at : winner_at ns ws k ≡ slice_index ws 1 = ap (winner_at ns ws) e in ((λ z. full (at ∙ z)), rw at (omega arith))
      | inr more ↦
          let up : ℕ = k / 2 in
          let at : winner_at ns ws up ≡ slice_index ws up = winner_low ns ws up (omega arith) in
          let is : (winner_at ns ws k ≡ winner_at ns ws (2 * up)) ⊎ (winner_at ns ws k ≡ winner_at ns ws (2 * up + 1)) = elim (cases_eq k (2 * up)) [
            | inl e ↦ inl (ap (winner_at ns ws) e)
            | inr ne ↦ inr (ap (winner_at ns ws) (omega arith))
          ] in
          let leads = first_leads ns (winner_at ns ws (2 * up)) (winner_at ns ws (2 * up + 1)) (winner_at ns ws k) is full in
          let played : winner_at ns ws up ≡ first_of ns (winner_at ns ws (2 * up)) (winner_at ns ws (2 * up + 1)) = at
          ∙ winners.played up (omega arith) (omega arith) in
          let rest = winner_leads n up (omega arith) (omega arith) (omega arith) (λ z. leads.0 (sym played ∙ z)) in
          let no_later : key_at ns (first_of ns (winner_at ns ws (2 * up)) (winner_at ns ws (2 * up + 1))) ≤ key_at ns (winner_at ns ws k) = leads.1 in
          (rest.0, omega (arith, rest.1, no_later, ap (key_at ns) played))
    ]

    pub first_lives : slice_index ws 1 ≢ 0 → hook_at ns (slice_index ws 1) ≢ 0
    first_lives = winner_lives 0 none_stale_at 512 1 (omega arith) (omega arith) (omega arith)

    -- it fires no later than any timer that lives
    pub first_leads_all : (j : ℕ) → hook_at ns j ≢ 0 → (slice_index ws 1 ≢ 0) × (key_at ns (slice_index ws 1) ≤ key_at ns j)
    first_leads_all j live =
        let slot : ℕ = slot_at ns j in
        let root = root_leads (key_at ns j + 1) j (omega arith) live in
        let below : slot < 256 = omega arith in
        let place : 256 + slot - 256 ≡ slot = omega arith in
        let at : winner_at ns ws (256 + slot) ≡ held_at ns (2 * slot + 1) = winner_high ns ws (256 + slot) (omega arith)
        ∙ ap (λ q. held_at ns (2 * q + 1)) place in
        let leads = winner_leads 512 (256 + slot) (omega arith) (omega arith) (omega arith) (λ z. root.0 (sym at ∙ z)) in
        (leads.0, omega (arith, leads.1, root.1, ap (key_at ns) at))
