-- The credits of the windows.
use Rattle.std.proofs.Common.{◌≡◌, ℕ, zero, suc, ◌+◌, ◌-◌, ◌<◌, ◌≤◌, ◌≢◌, List, [], ◌∷◌, map, drop, length, set, refl, sym, ap, ◌∙◌, subst, arith, inl, inr}
use Rattle.std.specs.List.{range_with_len}
use Rattle.std.proofs.lemmas.Bool.{cases_eq}
use Rattle.min_lists.specs.declared.nodes.Node.{Node}
use Rattle.min_lists.specs.declared.windows.Window.{Window}
use Rattle.min_lists.specs.declared.which.Which.{Which}
use Rattle.min_lists.specs.declared.which.Which.TheVariants.{Base, Recent, WideOld, WideNew, NearOld, NearNew}
use Rattle.min_lists.specs.Lists.{Kept, lows, credit_in, credit}
use Rattle.min_lists.specs.Links.{place, AreLists, window_at, trips_between, kept_in}
use Rattle.min_lists.specs.Nodes.{trip_at}
use Rattle.min_lists.proofs.Places.{window_set, window_set_other}
use Rattle.min_lists.proofs.Views.{same_between, drop_between, credit_in_kept}

lows_drop : (k : ℕ) (ts : List ℕ) → lows (drop k ts) ≤ lows ts
unfolding lows
lows_drop zero ts = omega arith
lows_drop (suc k) [] = omega arith
lows_drop (suc k) (t ∷ ts) = omega (arith, lows_drop k ts)

-- a later left end never adds to the credit
lows_cut : (trip : ℕ → ℕ) (from from' to : ℕ) → from ≤ from'
    → lows (map trip (range_with_len from' (to - from'))) ≤ lows (map trip (range_with_len from (to - from)))
lows_cut trip from from' to l =
    let start : from + (from' - from) ≡ from' = omega arith in
    let long : to - from - (from' - from) ≡ to - from' = omega arith in
    let later : drop (from' - from) (map trip (range_with_len from (to - from))) ≡ map trip (range_with_len from' (to - from')) = drop_between trip
    from (to - from) (from' - from) ∙ rw (start, long) refl in
    subst (λ ts. lows ts ≤ lows (map trip (range_with_len from (to - from)))) later (lows_drop (from' - from) (map trip (range_with_len from (to - from))))

pub credit_cut : (ns : List Node) (count : ℕ) (ws : List Window) (p : ℕ) (w : Window) → p < length ws → AreLists ns count ws
    → AreLists ns count (set ws p w) → (window_at ws p).from ≤ w.from → w.to ≡ (window_at ws p).to
    → (which : Which) → credit_in (kept_in ns count (set ws p w)) which ≤ credit_in (kept_in ns count ws) which
credit_cut ns count ws p w room old new later same which =
    let was = credit_in_kept ns count ws which old in
    let is = credit_in_kept ns count (set ws p w) which new in
    let lows_of : Window → ℕ = λ v. lows (trips_between ns v.from v.to) in
    elim (cases_eq (place which) p) [
      | inl e ↦
          let was_at : lows_of (window_at ws (place which)) ≡ lows_of (window_at ws p) = ap (λ q. lows_of (window_at ws q)) e in
          let is_at : lows_of (window_at (set ws p w) (place which)) ≡ lows (trips_between ns w.from (window_at ws p).to) = ap
          (λ q. lows_of (window_at (set ws p w) q)) e ∙ ap lows_of (window_set ws p w room) ∙ ap (λ t. lows (trips_between ns w.from t)) same in
          omega (arith, lows_cut (trip_at ns) (window_at ws p).from w.from (window_at ws p).to later)
      | inr ne ↦
          let stays : lows_of (window_at (set ws p w) (place which)) ≡ lows_of (window_at ws (place which)) = ap lows_of
          (window_set_other ws p w room (place which) ne) in
          omega arith
    ]

-- the window that an index enters, and the others
pub credit_enter : (ns ns' : List Node) (count : ℕ) (ws : List Window) (p : ℕ) (w : Window) (steps steps' : ℕ) → p < length ws → AreLists ns count ws
    → AreLists ns' count (set ws p w)
    → steps' + lows (trips_between ns' w.from w.to) ≤ steps + lows (trips_between ns (window_at ws p).from (window_at ws p).to) + 2
    → (which : Which) → p ≡ place which → steps' + credit_in (kept_in ns' count (set ws p w)) which ≤ steps + credit_in (kept_in ns count ws) which + 2
credit_enter ns ns' count ws p w steps steps' room old new cost which at =
    let lows_of : Window → ℕ = λ v. lows (trips_between ns v.from v.to) in
    let lows_of' : Window → ℕ = λ v. lows (trips_between ns' v.from v.to) in
    let was : credit_in (kept_in ns count ws) which ≡ lows_of (window_at ws p) = rw at (credit_in_kept ns count ws which old) in
    let is : credit_in (kept_in ns' count (set ws p w)) which ≡ lows_of' w = credit_in_kept ns' count (set ws p w) which new
    ∙ ap (λ q. lows_of' (window_at (set ws p w) q)) (sym at) ∙ ap lows_of' (window_set ws p w room) in
    omega arith

pub credit_others : (ns ns' : List Node) (count : ℕ) (ws : List Window) (p : ℕ) (w : Window) → p < length ws → AreLists ns count ws
    → AreLists ns' count (set ws p w) → trip_at ns' ≡ trip_at ns
    → (which : Which) → place which ≢ p → credit_in (kept_in ns' count (set ws p w)) which ≡ credit_in (kept_in ns count ws) which
credit_others ns ns' count ws p w room old new same which ne =
    credit_in_kept ns' count (set ws p w) which new
    ∙ ap (λ (v : Window). lows (trips_between ns' v.from v.to)) (window_set_other ws p w room (place which) ne)
    ∙ ap (λ trip. lows (map trip (range_with_len (window_at ws (place which)).from ((window_at ws (place which)).to - (window_at ws (place which)).from)))) same
    ∙ sym (credit_in_kept ns count ws which old)

-- and where round trips in no window change
pub credit_add : (ns ns' : List Node) (count count' : ℕ) (ws : List Window) → AreLists ns count ws → AreLists ns' count' ws → (which : Which)
    → ((i : ℕ) → (window_at ws (place which)).from ≤ i → i < (window_at ws (place which)).to → trip_at ns' i ≡ trip_at ns i)
    → credit_in (kept_in ns' count' ws) which ≡ credit_in (kept_in ns count ws) which
credit_add ns ns' count count' ws old new which same =
    let w = window_at ws (place which) in
    credit_in_kept ns' count' ws which new
    ∙ ap lows (same_between (trip_at ns) (trip_at ns') w.from (w.to - w.from) (λ i l h. same i l (omega arith)))
    ∙ sym (credit_in_kept ns count ws which old)

-- the sum of the credits
pub credit_le : (k k' : Kept) → ((which : Which) → credit_in k' which ≤ credit_in k which) → credit k' ≤ credit k
unfolding credit
credit_le k k' le = omega (arith, le Base, le Recent, le WideOld, le WideNew, le NearOld, le NearNew)

pub credit_same : (k k' : Kept) → ((which : Which) → credit_in k' which ≡ credit_in k which) → credit k' ≡ credit k
unfolding credit
credit_same k k' same = omega (arith, same Base, same Recent, same WideOld, same WideNew, same NearOld, same NearNew)

-- where one credit may rise
pub credit_one : (k k' : Kept) (which : Which) (steps steps' : ℕ) → steps' + credit_in k' which ≤ steps + credit_in k which + 2
    → ((other : Which) → other ≢ which → credit_in k' other ≡ credit_in k other)
    → steps' + credit k' ≤ steps + credit k + 2
unfolding credit
credit_one k k' Base steps steps' own same = omega (
  arith,
  same Recent (λ e. cc),
  same WideOld (λ e. cc),
  same WideNew (λ e. cc),
  same NearOld (λ e. cc),
  same NearNew (λ e. cc),
)
credit_one k k' Recent steps steps' own same = omega (
  arith,
  same Base (λ e. cc),
  same WideOld (λ e. cc),
  same WideNew (λ e. cc),
  same NearOld (λ e. cc),
  same NearNew (λ e. cc),
)
credit_one k k' WideOld steps steps' own same = omega (
  arith,
  same Base (λ e. cc),
  same Recent (λ e. cc),
  same WideNew (λ e. cc),
  same NearOld (λ e. cc),
  same NearNew (λ e. cc),
)
credit_one k k' WideNew steps steps' own same = omega (
  arith,
  same Base (λ e. cc),
  same Recent (λ e. cc),
  same WideOld (λ e. cc),
  same NearOld (λ e. cc),
  same NearNew (λ e. cc),
)
credit_one k k' NearOld steps steps' own same = omega (
  arith,
  same Base (λ e. cc),
  same Recent (λ e. cc),
  same WideOld (λ e. cc),
  same WideNew (λ e. cc),
  same NearNew (λ e. cc),
)
credit_one k k' NearNew steps steps' own same = omega (
  arith,
  same Base (λ e. cc),
  same Recent (λ e. cc),
  same WideOld (λ e. cc),
  same WideNew (λ e. cc),
  same NearOld (λ e. cc),
)
