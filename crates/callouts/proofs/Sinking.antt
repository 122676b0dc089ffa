-- A loose timer takes a hook, and what hung there is melded below it.
use Rattle.std.proofs.Common.{◌≡◌, ◌≢◌, ◌⊎◌, ℕ, ◌+◌, ◌*◌, ◌/◌, ◌%◌, ◌<◌, ◌≤◌, List, sym, ◌∙◌, subst, arith, inl, inr}
use Rattle.callouts.specs.declared.nodes.Node.{Node}
use Rattle.callouts.specs.Nodes.{key_at, held_at}
use Rattle.callouts.specs.Heaps.{IsHung, AreHeaps, AreTorn, AreMelding, Keeps}
use Rattle.callouts.proofs.Loose.{torn_swap}
use Rattle.callouts.proofs.Turning.{IsTurned}
use Rattle.callouts.proofs.Melding.{heaps_melded, keeps_melded}

-- a loose timer hangs from a hook that it may be melded at, where `kid` hung
module _ (ns new : List Node) (h loose kid : ℕ) (melding : AreMelding ns h loose) (is : kid ≡ held_at ns h) (hung : IsHung ns new h loose) where
  -- it is alone
  module _ (none : kid ≡ 0) where
    alone : AreTorn ns h loose 0
    alone = subst (AreTorn ns h loose) (sym is ∙ none) (torn_swap _ _ _ _ melding.torn)

    pub heaps_sunk : AreHeaps new
    heaps_sunk = heaps_melded ns h loose alone new hung

    pub keeps_sunk : Keeps ns new h
    keeps_sunk = keeps_melded ns h loose alone new hung

  -- what hung there comes loose, to be melded below it
  pub sinking : (down : ℕ) → loose ≢ 0 → (kid ≢ 0 → key_at ns loose < key_at ns kid) → down / 2 ≡ loose → IsTurned ns new h loose kid down
  sinking down some after half = record {
    torn = rw is (torn_swap _ _ _ _ melding.torn);
    some = some;
    before = after;
    up = hung;
    half = half;
  }

-- one hook after another
pub at_hook : (p q h : ℕ) → (p ≡ q) ⊎ (512 ≤ p) → (q ≡ h) ⊎ (512 ≤ q) → (p ≡ h) ⊎ (512 ≤ p)
at_hook p q h one two = elim one [
  | inl e ↦ elim two [ inl z ↦ inl (e ∙ z) | inr m ↦ inr (omega arith) ]
  | inr m ↦ inr m
]

-- the hook of a node and a side
pub hook_whole : (h : ℕ) → 2 * (h / 2) + h % 2 ≡ h
hook_whole h = omega arith
