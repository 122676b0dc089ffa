-- The tree of winners where timers have come or gone.
use Rattle.std.proofs.Common.{◌≡◌, ◌≢◌, ◌⊎◌, ℕ, ◌+◌, ◌-◌, ◌*◌, ◌/◌, ◌<◌, ◌≤◌, List, length, refl, sym, ◌∙◌, arith, inl, inr}
use Rattle.std.proofs.lemmas.Bool.{cases_eq, cases_lt}
use Rattle.callouts.specs.declared.nodes.Node.{Node}
use Rattle.callouts.specs.Nodes.{key_at, hook_at, held_at}
use Rattle.callouts.specs.Heaps.{AreHeaps}
use Rattle.callouts.specs.Winners.{winner_at, IsPlayed, AreWinners, AreStale}
use Rattle.callouts.proofs.Playing.{winner_low, winner_high}
use Rattle.callouts.proofs.Leading.{none_stale_at, winner_lives}

module _ (ns new : List Node) (ws : List ℕ) (heaps : AreHeaps ns) (winners : AreWinners ns ws) (same_length : length new ≡ length ns)
    (keys : (j : ℕ) → (j ≡ 0) ⊎ (hook_at ns j ≢ 0) → key_at new j ≡ key_at ns j) where
  there : (k : ℕ) → 0 < k → k < 512 → (winner_at ns ws k ≡ 0) ⊎ (hook_at ns (winner_at ns ws k) ≢ 0)
  there k some within = elim (cases_eq (winner_at ns ws k) 0) [
    | inl z ↦ inl z
    | inr full ↦ inr (winner_lives ns ws heaps 0 (none_stale_at ns ws heaps winners) 513 k (omega arith) some within full)
  ]

  -- a place whose two below have the same timers
  still_played : (k : ℕ) → 0 < k → k < 256 → winner_at new ws (2 * k) ≡ winner_at ns ws (2 * k)
      → winner_at new ws (2 * k + 1) ≡ winner_at ns ws (2 * k + 1) → IsPlayed new ws k
  still_played k some within left right =
      let one = keys (winner_at ns ws (2 * k)) (there (2 * k) (omega arith) (omega arith)) in
      let other = keys (winner_at ns ws (2 * k + 1)) (there (2 * k + 1) (omega arith) (omega arith)) in
      winners.played k some within ∙ sym (rw (left, right) (rw (one, other) refl))

  -- a place where the roots are the same
  still_there : (k : ℕ) → k < 512 → ((h : ℕ) → 256 ≤ k → h < 512 → h ≡ 2 * (k - 256) + 1 → held_at new h ≡ held_at ns h) → winner_at new ws k
      ≡ winner_at ns ws k
  still_there k within root = elim (cases_lt k 256) [
    | inl l ↦ winner_low new ws k l ∙ sym (winner_low ns ws k l)
    | inr m ↦ winner_high new ws k m ∙ root (2 * (k - 256) + 1) m (omega arith) refl ∙ sym (winner_high ns ws k m)
  ]

  -- where the root of one slot is another one
  pub winners_stale : (slot : ℕ) → ((h : ℕ) → h < 512 → h ≢ 2 * slot + 1 → held_at new h ≡ held_at ns h) → slot < 256 → AreStale new ws ((slot + 256) / 2)
  winners_stale slot roots below = record {
    places = winners.places;
    within = λ k. rw same_length (winners.within k);
    played = λ k some within ne. still_played k some within
        (still_there (2 * k) (omega arith) (λ h m l at. roots h l (λ z. ne (omega arith))))
        (still_there (2 * k + 1) (omega arith) (λ h m l at. roots h l (λ z. ne (omega arith))));
  }

  -- where the roots of all slots are the same
  pub winners_stay : ((h : ℕ) → h < 512 → held_at new h ≡ held_at ns h) → AreWinners new ws
  winners_stay roots = record {
    places = winners.places;
    within = λ k. rw same_length (winners.within k);
    played = λ k some within. still_played k some within
        (still_there (2 * k) (omega arith) (λ h m l at. roots h l))
        (still_there (2 * k + 1) (omega arith) (λ h m l at. roots h l));
  }
