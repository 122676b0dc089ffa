-- One more round trip, in no window.
use Rattle.std.proofs.Common.{◌≡◌, ℕ, ◌+◌, ◌%◌, ◌^◌, ◌<◌, ◌≤◌, ◌≢◌, List, subst, sym, arith, inl, inr}
use Rattle.std.proofs.lemmas.Bool.{cases_eq}
use Rattle.min_lists.specs.declared.nodes.Node.{Node}
use Rattle.min_lists.specs.declared.windows.Window.{Window}
use Rattle.min_lists.specs.declared.which.Which.{Which}
use Rattle.min_lists.specs.Lists.{Span, IsIn, window, credit_in}
use Rattle.min_lists.specs.Links.{place, AreLists, window_at, kept_in}
use Rattle.min_lists.specs.Nodes.{trip_at, link_at}
use Rattle.min_lists.proofs.Frames.{list_same}
use Rattle.min_lists.proofs.Views.{window_kept}
use Rattle.min_lists.proofs.Credits.{credit_add}

module _ (ns ns' : List Node) (count : ℕ) (ws : List Window) (old : AreLists ns count ws)
    (gone : (which : Which) (i : ℕ) → i + 1024 ≡ count → ¬ IsIn (window (kept_in ns count ws) which) i)
    (links : (p i : ℕ) → link_at ns' p i ≡ link_at ns p i)
    (others : (i : ℕ) → i % 1024 ≢ count % 1024 → trip_at ns' i ≡ trip_at ns i) where
  -- each window ends before the slot comes that it begins with
  near : (which : Which) → (window_at ws (place which)).from < (window_at ws (place which)).to → count < (window_at ws (place which)).from + 1024
  near which some = let w = window_at ws (place which) in
      elim (cases_eq (w.from + 1024) count) [
        | inl e ↦ absurd (gone which w.from e (subst (λ (s : Span). IsIn s w.from) (sym (window_kept ns count ws which)) (omega arith, some)))
        | inr ne ↦ let n : w.from + 1024 ≢ count = ne in omega (arith, (old.each which).kept some)
      ]

  trips_stay : (which : Which) (i : ℕ) → (window_at ws (place which)).from ≤ i → i < (window_at ws (place which)).to → trip_at ns' i ≡ trip_at ns i
  trips_stay which i l h =
      let apart : i % 1024 ≢ count % 1024 = omega (arith, near which (omega arith), (old.each which).entered) in
      others i apart

  pub lists_add : count < 2 ^ 62 → AreLists ns' (count + 1) ws
  lists_add few = record {
    few = omega arith;
    each = λ which. let was = old.each which in let w = window_at ws (place which) in record {
      entered = omega (arith, was.entered);
      kept = λ some. omega (arith, near which some);
      linked = list_same ns ns' (place which) w.from w.to w.head (links (place which)) (trips_stay which) was.linked;
    };
  }

  pub credit_stays : AreLists ns' (count + 1) ws → (which : Which) → credit_in (kept_in ns' (count + 1) ws) which ≡ credit_in (kept_in ns count ws) which
  credit_stays new which = credit_add ns ns' count (count + 1) ws old new which (trips_stay which)
