-- Two that play: the one whose way up it is, and the other one.
use Rattle.std.proofs.Common.{◌≡◌, ◌≢◌, ◌⊎◌, ℕ, ◌+◌, ◌-◌, ◌*◌, ◌/◌, ◌<◌, List, length, set, slice_index, refl, sym, ap, ◌∙◌, arith, inl, inr, get_or-set_same}
use Rattle.std.proofs.lemmas.Bool.{cases_eq, cases_lt}
use Rattle.std.proofs.lemmas.Bool.Decides.{nat_tests}
use Rattle.callouts.specs.declared.nodes.Node.{Node}
use Rattle.callouts.specs.Nodes.{key_at, held_at}
use Rattle.callouts.specs.Heaps.{AreApart, AreHeaps}
use Rattle.callouts.specs.Winners.{first_of, winner_at, AreStale}
use Rattle.callouts.proofs.Playing.{winner_low, winner_high, winner_within}
use Rattle.callouts.proofs.Leading.{winner_lives}

-- they are those of the two places below
abbrev pub ArePlayers : List Node → List ℕ → ℕ → ℕ → ℕ → Type 0
ArePlayers ns ws place first other =
    ((first ≡ winner_at ns ws (2 * place)) × (other ≡ winner_at ns ws (2 * place + 1)))
    ⊎ ((first ≡ winner_at ns ws (2 * place + 1)) × (other ≡ winner_at ns ws (2 * place)))

-- which of two is the first doesn't hang on their places, where they are not the same in the order
first_swap : (ns : List Node) (one other : ℕ) → (one ≢ 0 → other ≢ 0 → key_at ns one ≡ key_at ns other → one ≡ other)
    → first_of ns one other ≡ first_of ns other one
first_swap ns one other apart = elim (cases_eq one 0) [
  | inl z ↦ elim (cases_eq other 0) [ inl y ↦ grind (arith, nat_tests) | inr there ↦ grind (arith, nat_tests) ]
  | inr some ↦ elim (cases_eq other 0) [
    | inl y ↦ grind (arith, nat_tests)
    | inr there ↦ elim (cases_lt (key_at ns other) (key_at ns one)) [
      | inl l ↦ grind (arith, nat_tests)
      | inr m ↦ elim (cases_lt (key_at ns one) (key_at ns other)) [
        | inl l ↦ grind (arith, nat_tests)
        | inr n ↦ let same : one ≡ other = apart some there (omega arith) in grind (arith, nat_tests)
      ]
    ]
  ]
]

module _ (ns : List Node) (ws : List ℕ) (place first other : ℕ) (heaps : AreHeaps ns) (apart : AreApart ns) (stale : AreStale ns ws place)
    (some : 0 < place) (below : place < 256) (players : ArePlayers ns ws place first other) where
  pub game : first_of ns first other ≡ first_of ns (winner_at ns ws (2 * place)) (winner_at ns ws (2 * place + 1))
  game = elim players [
    | inl is ↦ rw (is.0, is.1) refl
    | inr is ↦ rw (is.0, is.1) (first_swap ns (winner_at ns ws (2 * place + 1)) (winner_at ns ws (2 * place)) (λ full there same.
        apart _ _ (winner_lives ns ws heaps place stale 513 (2 * place + 1) (omega arith) (omega arith) (omega arith) full)
        (winner_lives ns ws heaps place stale 513 (2 * place) (omega arith) (omega arith) (omega arith) there) same))
  ]

  pub players_within : 0 < length ns → (first < length ns) × (other < length ns)
  players_within long =
      let left = winner_within ns ws (2 * place) heaps long stale.within in
      let right = winner_within ns ws (2 * place + 1) heaps long stale.within in
      elim players [ inl is ↦ (rw is.0 left, rw is.1 right) | inr is ↦ (rw is.0 right, rw is.1 left) ]

-- above a slot
pub players_at : (ns : List Node) (ws : List ℕ) (slot : ℕ) → slot < 256
    → ArePlayers ns ws ((slot + 256) / 2) (held_at ns (2 * slot + 1)) (held_at ns (2 * (4 * (slot / 2) + 1 - slot) + 1))
players_at ns ws slot l = elim (cases_eq slot (2 * (slot / 2))) [
  | inl even ↦ inl (
    sym (winner_high ns ws (2 * ((slot + 256) / 2)) (omega arith) ∙ ap (held_at ns) (omega arith)),
    sym (winner_high ns ws (2 * ((slot + 256) / 2) + 1) (omega arith) ∙ ap (held_at ns) (omega arith)),
  )
  | inr ne ↦ inr (
    sym (winner_high ns ws (2 * ((slot + 256) / 2) + 1) (omega arith) ∙ ap (held_at ns) (omega arith)),
    sym (winner_high ns ws (2 * ((slot + 256) / 2)) (omega arith) ∙ ap (held_at ns) (omega arith)),
  )
]

-- above a place that has a winner now
pub players_on : (ns : List Node) (ws : List ℕ) (place first : ℕ) → length ws ≡ 256 → 0 < place / 2 → place < 256
    → ArePlayers ns (set ws place first) (place / 2) first (slice_index (set ws place first) (4 * (place / 2) + 1 - place))
players_on ns ws place first long some below =
    let here : slice_index (set ws place first) place ≡ first = get_or-set_same ws place first 0 (omega (arith, long)) in
    elim (cases_eq place (2 * (place / 2))) [
      | inl even ↦ inl (
        sym (winner_low ns (set ws place first) (2 * (place / 2)) (omega arith) ∙ ap (slice_index (set ws place first)) (sym even) ∙ here),
        ap (slice_index (set ws place first)) (omega arith) ∙ sym (winner_low ns (set ws place first) (2 * (place / 2) + 1) (omega arith)),
      )
      | inr ne ↦
          let odd : 2 * (place / 2) + 1 ≡ place = omega arith in
          inr (
            sym (winner_low ns (set ws place first) (2 * (place / 2) + 1) (omega arith) ∙ ap (slice_index (set ws place first)) odd ∙ here),
            ap (slice_index (set ws place first)) (omega arith) ∙ sym (winner_low ns (set ws place first) (2 * (place / 2)) (omega arith)),
          )
    ]
