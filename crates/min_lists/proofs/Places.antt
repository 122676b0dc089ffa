-- A window among the six that is changed.
use Rattle.std.proofs.Common.{◌≡◌, true, false, ℕ, ◌+◌, ◌<◌, ◌≤◌, ◌≢◌, List, length, set, get_or-set_same, get_or-set_other, refl, subst, sym, arith, inl, inr}
use Rattle.std.proofs.lemmas.Bool.{cases_eq, cases_lt, both_ways}
use Rattle.min_lists.specs.Lists.{is_same}
use Rattle.min_lists.specs.declared.nodes.Node.{Node}
use Rattle.min_lists.specs.declared.windows.Window.{Window}
use Rattle.min_lists.specs.declared.which.Which.{Which}
use Rattle.min_lists.specs.declared.which.Which.TheVariants.{Base, Recent, WideOld, WideNew, NearOld, NearNew}
use Rattle.min_lists.specs.Links.{place, IsList, AreLists, Enters, window_at, no_window}
use Rattle.min_lists.proofs.Frames.{list_same}

-- what is said to be the same window is the same
pub is_same-is : (one other : Which) → is_same one other ≡ true → one ≡ other
is_same-is Base Base e = refl
is_same-is Recent Recent e = refl
is_same-is WideOld WideOld e = refl
is_same-is WideNew WideNew e = refl
is_same-is NearOld NearOld e = refl
is_same-is NearNew NearNew e = refl
is_same-is _ _ e = absurd (cc)

is_same-self : (which : Which) → is_same which which ≡ true
is_same-self Base = refl
is_same-self Recent = refl
is_same-self WideOld = refl
is_same-self WideNew = refl
is_same-self NearOld = refl
is_same-self NearNew = refl

pub is_same-not : (one other : Which) → is_same one other ≡ false → other ≢ one
is_same-not one other e same = both_ways _ e (subst (λ w. is_same one w ≡ true) (sym same) (is_same-self one))

-- two windows have two places
pub place_same : (one other : Which) → place one ≡ place other → one ≡ other
place_same Base Base e = refl
place_same Recent Recent e = refl
place_same WideOld WideOld e = refl
place_same WideNew WideNew e = refl
place_same NearOld NearOld e = refl
place_same NearNew NearNew e = refl
place_same _ _ e = absurd (omega arith)

module _ (ws : List Window) (p : ℕ) (w : Window) (room : p < length ws) where
  pub window_set : window_at (set ws p w) p ≡ w
  window_set = get_or-set_same ws p w no_window room

  pub window_set_other : (q : ℕ) → q ≢ p → window_at (set ws p w) q ≡ window_at ws q
  window_set_other q ne = get_or-set_other ws p q w no_window ne

  -- where the list at this place is one, and those at the others stay
  pub lists_set : (ns ns' : List Node) (count : ℕ) → AreLists ns count ws → IsList ns' count p w
      → ((which : Which) → place which ≢ p → IsList ns count (place which) (window_at ws (place which))
      → IsList ns' count (place which) (window_at ws (place which))) → AreLists ns' count (set ws p w)
  lists_set ns ns' count old here others = record {
    few = old.few;
    each = λ which. elim (cases_eq (place which) p) [
      | inl e ↦ subst (λ q. IsList ns' count q (window_at (set ws p w) q)) (sym e) (subst (IsList ns' count p) (sym window_set) here)
      | inr ne ↦ subst (IsList ns' count (place which)) (sym (window_set_other (place which) ne)) (others which ne (old.each which))
    ];
  }

  -- where the next index entered the window at this place
  pub lists_enter : (ns ns' : List Node) (count : ℕ) → AreLists ns count ws → Enters ns ns' p (window_at ws p) w → (which : Which) → p ≡ place which
      → (window_at ws p).to < count → count ≤ (window_at ws p).to + 1024 → AreLists ns' count (set ws p w)
  lists_enter ns ns' count old enters which at added kept =
      let was : IsList ns count p (window_at ws p) = subst (λ q. IsList ns count q (window_at ws q)) (sym at) (old.each which) in
      lists_set ns ns' count old (record {
        entered = omega (arith, enters.to);
        kept = λ some. elim (cases_lt (window_at ws p).from (window_at ws p).to) [
          | inl l ↦ omega (arith, enters.from, was.kept l)
          | inr m ↦ omega (arith, enters.from, was.linked.ends)
        ];
        linked = enters.linked;
      }) (λ other ne is. record {
        entered = is.entered;
        kept = is.kept;
        linked = let v = window_at ws (place other) in list_same ns ns' (place other) v.from v.to v.head (λ i. enters.other_lists (place other) i ne)
            (λ i _ _. enters.trips i) is.linked;
      })
