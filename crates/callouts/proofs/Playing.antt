-- The tree of winners: the first to fire of two, and a place that is played again.
use Rattle.std.proofs.Common.{◌≡◌, ◌≢◌, ◌⊎◌, ℕ, ◌+◌, ◌-◌, ◌*◌, ◌/◌, ◌<◌, ◌≤◌, List, length, set, slice_index, refl, sym, ◌∙◌, subst, arith, inl, inr, length-set, get_or-set_same, get_or-set_other}
use Rattle.std.proofs.lemmas.Bool.{cases_eq, cases_lt, lt-ltb, le-ltb}
use Rattle.std.proofs.lemmas.Bool.Decides.{nat_tests}
use Rattle.callouts.specs.declared.nodes.Node.{Node}
use Rattle.callouts.specs.Nodes.{key_at, held_at}
use Rattle.callouts.specs.Heaps.{AreHeaps}
use Rattle.callouts.specs.Winners.{first_of, winner_at, IsPlayed, AreWinners, AreStale}
use Rattle.callouts.proofs.Loose.{within_nodes, held_knows}

pub winner_low : (ns : List Node) (ws : List ℕ) (k : ℕ) → k < 256 → winner_at ns ws k ≡ slice_index ws k
winner_low ns ws k l = rw (lt-ltb k 256 l) refl

pub winner_high : (ns : List Node) (ws : List ℕ) (k : ℕ) → 256 ≤ k → winner_at ns ws k ≡ held_at ns (2 * (k - 256) + 1)
winner_high ns ws k m = rw (le-ltb k 256 m) refl

-- what a slot holds is one of the nodes
pub held_within : (ns : List Node) (h : ℕ) → AreHeaps ns → 0 < length ns → held_at ns h < length ns
held_within ns h heaps some = elim (cases_eq (held_at ns h) 0) [
  | inl z ↦ rw z some
  | inr full ↦ within_nodes ns _ (held_knows ns heaps h full).2
]

pub winner_within : (ns : List Node) (ws : List ℕ) (k : ℕ) → AreHeaps ns → 0 < length ns
    → ((k : ℕ) → slice_index ws k < length ns) → winner_at ns ws k < length ns
winner_within ns ws k heaps some within =
    elim (cases_lt k 256) [
      | inl l ↦ rw (winner_low ns ws k l) (within k)
      | inr m ↦ rw (winner_high ns ws k m) (held_within ns (2 * (k - 256) + 1) heaps some)
    ]

-- one of the two it is
pub first_cases : (ns : List Node) (one other : ℕ) → (first_of ns one other ≡ one) ⊎ (first_of ns one other ≡ other)
first_cases ns one other = elim (cases_eq one 0) [
  | inl z ↦ inr (grind (arith, nat_tests))
  | inr some ↦ elim (cases_eq other 0) [
    | inl z ↦ inl (grind (arith, nat_tests))
    | inr there ↦ elim (cases_lt (key_at ns other) (key_at ns one)) [
      | inl l ↦ inr (grind (arith, nat_tests))
      | inr m ↦ inl (grind (arith, nat_tests))
    ]
  ]
]

pub first_leads : (ns : List Node) (one other k : ℕ) → (k ≡ one) ⊎ (k ≡ other) → k ≢ 0 → (first_of ns one other ≢ 0)
    × (key_at ns (first_of ns one other) ≤ key_at ns k)
first_leads ns one other k is some = elim (cases_eq one 0) [
  | inl z ↦
      let e : first_of ns one other ≡ other = grind (arith, nat_tests) in
      let k_is : k ≡ other = elim is [ inl a ↦ absurd (some (a ∙ z)) | inr b ↦ b ] in
      rw (e, ← k_is) (some, omega arith)
  | inr full ↦ elim (cases_eq other 0) [
    | inl z ↦
        let e : first_of ns one other ≡ one = grind (arith, nat_tests) in
        let k_is : k ≡ one = elim is [ inl a ↦ a | inr b ↦ absurd (some (b ∙ z)) ] in
        rw (e, ← k_is) (some, omega arith)
    | inr there ↦ elim (cases_lt (key_at ns other) (key_at ns one)) [
      | inl l ↦
          let e : first_of ns one other ≡ other = grind (arith, nat_tests) in
          rw e (there, elim is [ inl a ↦ rw a (omega arith) | inr b ↦ rw b (omega arith) ])
      | inr m ↦
          let e : first_of ns one other ≡ one = grind (arith, nat_tests) in
          rw e (full, elim is [ inl a ↦ rw a (omega arith) | inr b ↦ rw b m ])
    ]
  ]
]

pub first_within : (ns : List Node) (one other n : ℕ) → one < n → other < n → first_of ns one other < n
first_within ns one other n l h = elim (first_cases ns one other) [ inl e ↦ rw e l | inr e ↦ rw e h ]

module _ (ns : List Node) (ws : List ℕ) (place first : ℕ) (stale : AreStale ns ws place) (some : 0 < place) (below : place < 256)
    (is : first ≡ first_of ns (winner_at ns ws (2 * place)) (winner_at ns ws (2 * place + 1))) where
  others : (k : ℕ) → k ≢ place → winner_at ns (set ws place first) k ≡ winner_at ns ws k
  others k ne = elim (cases_lt k 256) [
    | inl l ↦ winner_low ns _ k l ∙ get_or-set_other ws place k first 0 ne ∙ sym (winner_low ns ws k l)
    | inr m ↦ winner_high ns _ k m ∙ sym (winner_high ns ws k m)
  ]

  pub stale_on : first < length ns → AreStale ns (set ws place first) (place / 2)
  stale_on within = record {
    places = length-set ws place first ∙ stale.places;
    within = λ k. elim (cases_eq k place) [
      | inl e ↦ subst (λ q. slice_index (set ws place first) q < length ns) (sym e) (rw (get_or-set_same ws place first 0 (omega (arith, stale.places))) within)
      | inr ne ↦ rw (get_or-set_other ws place k first 0 ne) (stale.within k)
    ];
    played = λ k l h ne.
        let left = others (2 * k) (λ z. ne (omega arith)) in
        let right = others (2 * k + 1) (λ z. ne (omega arith)) in
        elim (cases_eq k place) [
          | inl e ↦ subst (λ q. IsPlayed ns (set ws place first) q) (sym e)
              (get_or-set_same ws place first 0 (omega (arith, stale.places)) ∙ is
              ∙ sym (rw (others (2 * place) (λ z. omega arith), others (2 * place + 1) (λ z. omega arith)) refl))
          | inr other ↦ get_or-set_other ws place k first 0 other ∙ stale.played k l h other ∙ sym (rw (left, right) refl)
        ];
  }

  -- where the place has the first to fire already, no place is stale
  pub none_stale : slice_index ws place ≡ first → AreWinners ns ws
  none_stale e = record {
    places = stale.places;
    within = stale.within;
    played = λ k l h. elim (cases_eq k place) [
      | inl here ↦ subst (λ q. IsPlayed ns ws q) (sym here) (e ∙ is)
      | inr ne ↦ stale.played k l h ne
    ];
  }
