-- What the nodes and windows keep, as contracts see it.
use Rattle.std.proofs.Common.{◌≡◌, ℕ, zero, suc, ◌+◌, ◌-◌, ◌%◌, ◌<◌, ◌≤◌, ◌≢◌, List, [], ◌∷◌, ◌++◌, map, length, take, drop, get_or, slice_index, refl, sym, ap, ◌∙◌, subst, arith, inl, inr, length-append, length-drop}
use Rattle.std.specs.List.{range_with_len}
use Rattle.std.proofs.lemmas.Bool.{cases_lt}
use Rattle.std.proofs.lemmas.Grind.{common_steps}
use Rattle.std.proofs.lemmas.List.{same_lists, get_or-drop, get_or_append_left, get_or_push}
use Rattle.std.proofs.lemmas.List.FromFn.{length-map-range_with_len, get_or-map-range_with_len, take-map-range_with_len}
use Rattle.min_lists.specs.declared.nodes.Node.{Node}
use Rattle.min_lists.specs.declared.windows.Window.{Window}
use Rattle.min_lists.specs.declared.which.Which.{Which}
use Rattle.min_lists.specs.declared.which.Which.TheVariants.{Base, Recent, WideOld, WideNew, NearOld, NearNew}
use Rattle.min_lists.specs.Lists.{Span, Kept, StandsFor, IsFirstMinimum, window, with_trip, last_trips, trips_in, lows, credit_in}
use Rattle.min_lists.specs.Links.{place, AreLists, window_at, span, trips_between, kept_in}
use Rattle.min_lists.specs.Nodes.{trip_at}
use Rattle.min_lists.proofs.Frames.{first_least_same}

-- where round trips are the same at each index of a window
pub same_between : (trip trip' : ℕ → ℕ) (a n : ℕ) → ((i : ℕ) → a ≤ i → i < a + n → trip' i ≡ trip i) → map trip' (range_with_len a n) ≡ map trip
    (range_with_len a n)
same_between trip trip' a zero same = refl
same_between trip trip' a (suc n) same =
    let here : trip' a ≡ trip a = same a (omega arith) (omega arith) in
    let rest = same_between trip trip' (a + 1) n (λ i l h. same i (omega arith) (omega arith)) in
    cc

pub drop_between : (trip : ℕ → ℕ) (a n k : ℕ) → drop k (map trip (range_with_len a n)) ≡ map trip (range_with_len (a + k) (n - k))
drop_between trip a n zero = let e : a ≡ a + 0 = omega arith in let f : n ≡ n - 0 = omega arith in rw (← e, ← f)
drop_between trip a zero (suc k) = let e : 0 - suc k ≡ 0 = omega arith in rw e
drop_between trip a (suc n) (suc k) =
    let e : a + suc k ≡ a + 1 + k = omega arith in let f : suc n - suc k ≡ n - k = omega arith in
    rw (e, f) (drop_between trip (a + 1) n k)

-- the round trips in a window whose indices are kept
pub trips_in_kept : (ns : List Node) (count : ℕ) (ws : List Window) (from to : ℕ) → to ≤ count → (from < to → count ≤ from + 1024)
    → trips_in (kept_in ns count ws) (record { from = from; to = to }) ≡ trips_between ns from to
trips_in_kept ns count ws from to le kept =
    let trip : ℕ → ℕ = trip_at ns in
    let lo : ℕ = count - 1024 in
    elim (cases_lt from to) [
      | inl l ↦
          let first : lo + (from - lo) ≡ from = omega (arith, kept l) in
          let long : to - lo - (from - lo) ≡ to - from = omega (arith, kept l) in
          ap (take (to - lo - (from - lo))) (drop_between trip lo (count - lo) (from - lo))
          ∙ take-map-range_with_len trip (lo + (from - lo)) (count - lo - (from - lo)) (to - lo - (from - lo)) (omega (arith, kept l))
          ∙ rw (first, long) refl
      | inr m ↦
          let none : to - lo - (from - lo) ≡ 0 = omega arith in
          let empty : to - from ≡ 0 = omega arith in
          rw (none, empty) refl
    ]

pub window_kept : (ns : List Node) (count : ℕ) (ws : List Window) (which : Which) → window (kept_in ns count ws) which ≡ span (window_at ws (place which))
window_kept ns count ws Base = refl
window_kept ns count ws Recent = refl
window_kept ns count ws WideOld = refl
window_kept ns count ws WideNew = refl
window_kept ns count ws NearOld = refl
window_kept ns count ws NearNew = refl

pub window_of : (ns : List Node) (count : ℕ) (ws : List Window) (k : Kept) (which : Which) (p : ℕ) → kept_in ns count ws ≡ k → p ≡ place which
    → window k which ≡ span (window_at ws p)
window_of ns count ws k which p view at = rw (← view, at) (window_kept ns count ws which)

-- the credit of a window, by its nodes
pub credit_in_kept : (ns : List Node) (count : ℕ) (ws : List Window) (which : Which) → AreLists ns count ws
    → credit_in (kept_in ns count ws) which ≡ lows (trips_between ns (window_at ws (place which)).from (window_at ws (place which)).to)
unfolding credit_in
credit_in_kept ns count ws which lists =
    let each = lists.each which in
    ap (λ s. lows (trips_in (kept_in ns count ws) s)) (window_kept ns count ws which)
    ∙ ap lows (trips_in_kept ns count ws (window_at ws (place which)).from (window_at ws (place which)).to each.entered each.kept)

-- a kept round trip is that of its index among all
pub trip_of_all : (ns : List Node) (count : ℕ) (ws : List Window) (all : List ℕ) (i : ℕ) → StandsFor (kept_in ns count ws) all → count ≤ i + 1024
    → i < count → slice_index all i ≡ trip_at ns i
trip_of_all ns count ws all i stands kept h =
    let lo : ℕ = count - 1024 in
    let e : length all - 1024 + (i - lo) ≡ i = omega (arith, stands.count) in
    sym (ap (slice_index all) e) ∙ sym (get_or-drop (length all - 1024) all (i - lo) 0)
    ∙ sym (ap (λ xs. slice_index xs (i - lo)) stands.trips)
    ∙ get_or-map-range_with_len (trip_at ns) lo (count - lo) (i - lo) i 0 (omega arith) (omega arith)

-- what is kept with one more round trip
pub trips_with : (ns ns' : List Node) (count rtt : ℕ) → trip_at ns' count ≡ rtt → ((i : ℕ) → i % 1024 ≢ count % 1024 → trip_at ns' i ≡ trip_at ns i)
    → trips_between ns' (count + 1 - 1024) (count + 1) ≡ last_trips (trips_between ns (count - 1024) count ++ rtt ∷ [])
trips_with ns ns' count rtt here others =
    let lo : ℕ = count - 1024 in
    let lo' : ℕ = count + 1 - 1024 in
    let xs : List ℕ = trips_between ns lo count in
    let long : length xs ≡ count - lo = length-map-range_with_len (trip_at ns) lo (count - lo) in
    let d : ℕ = length (xs ++ rtt ∷ []) - 1024 in
    let longer : length (xs ++ rtt ∷ []) ≡ count - lo + 1 = omega (arith, length-append xs (rtt ∷ [])) in
    same_lists _ _ (omega (arith, length-map-range_with_len (trip_at ns') lo' (count + 1 - lo'), length-drop d (xs ++ rtt ∷ []))) (λ k e h.
    let within : k < count + 1 - lo' = omega (arith, length-map-range_with_len (trip_at ns') lo' (count + 1 - lo')) in
    let new : get_or (trips_between ns' lo' (count + 1)) k e ≡ trip_at ns' (lo' + k) = get_or-map-range_with_len (trip_at ns') lo' (count + 1 - lo')
    k (lo' + k) e within refl in
    let old : get_or (last_trips (xs ++ rtt ∷ [])) k e ≡ get_or (xs ++ rtt ∷ []) (d + k) e = get_or-drop d (xs ++ rtt ∷ []) k e in
    elim (cases_lt (d + k) (length xs)) [
      | inl l ↦
          let apart : (lo' + k) % 1024 ≢ count % 1024 = omega arith in
          new ∙ others (lo' + k) apart
          ∙ sym (old ∙ get_or_append_left xs (rtt ∷ []) e (d + k) l ∙ get_or-map-range_with_len (trip_at ns) lo (count - lo) (d + k) (lo' + k) e
          (omega arith) (omega arith))
      | inr m ↦
          let last : lo' + k ≡ count = omega arith in
          new ∙ ap (trip_at ns') last ∙ here ∙ sym (old ∙ get_or_push xs rtt e (d + k) (omega arith))
    ])

-- lists that stand for these round trips stand for one more with it
pub stands_with : (k : Kept) (all : List ℕ) (rtt : ℕ) → StandsFor k all → StandsFor (with_trip k rtt) (all ++ rtt ∷ [])
stands_with k all rtt stands = record {
  trips = rw stands.trips (grind (arith, common_steps));
  count = omega (arith, stands.count, length-append all (rtt ∷ []));
}

-- the head of a list is the first of least round trip in its window, among all
pub head_is_least : (ns : List Node) (count : ℕ) (ws : List Window) (all : List ℕ) (which : Which) → AreLists ns count ws → StandsFor (kept_in ns count ws) all
    → (window_at ws (place which)).from < (window_at ws (place which)).to
    → IsFirstMinimum (slice_index all) (window (kept_in ns count ws) which).from (window (kept_in ns count ws) which).to (window_at ws (place which)).head
head_is_least ns count ws all which lists stands l =
    let w = window_at ws (place which) in
    let each = lists.each which in
    subst (λ (s : Span). IsFirstMinimum (slice_index all) s.from s.to w.head) (sym (window_kept ns count ws which))
    (first_least_same (trip_at ns) (slice_index all) w.from w.to w.head
    (λ j m n. trip_of_all ns count ws all j stands (omega (arith, each.kept l)) (omega (arith, each.entered)))
    (each.linked.least l))
