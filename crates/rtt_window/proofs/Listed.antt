-- The least that the lists know, among the kept stamps.
use Rattle.std.proofs.Common.{◌≡◌, ℕ, ◌+◌, ◌-◌, ◌<◌, ◌≤◌, List, [], ◌++◌, length, map, min, drop, replicate, get_or, slice_get, slice_range, slice_index, Some, refl, sym, ap, ◌∙◌, subst, arith, length-append, length-drop, length-take, get_or-drop}
use Rattle.std.proofs.lemmas.List.{length-map, length-replicate, get_or-map, get_or-take}
use Rattle.std.proofs.lemmas.Option.{slice_get-get_or, get_or_from_slice_get}
use Rattle.std.proofs.lemmas.Grind.{common_steps}
use Rattle.min_lists.specs.declared.which.Which.{Which}
use Rattle.min_lists.specs.declared.which.Which.TheVariants.{Base, Recent, WideOld, WideNew, NearOld, NearNew}
use Rattle.min_lists.specs.Lists as lists
use Rattle.stamp_text.specs.Accepted.{trip}
use Rattle.stamp_text.specs.declared.lines.Stamp.{Stamp}
use Rattle.rtt_window.specs.Bases.{start_before}
use Rattle.rtt_window.specs.Pairs.{first_least}
use Rattle.rtt_window.specs.Pairs as pairs
use Rattle.rtt_window.specs.Spans.{span_of, listed}
use Rattle.rtt_window.specs.Windows.{Kept, StandsFor, stamps_in, credit}
use Rattle.rtt_window.proofs.FirstLeasts.{first_least-found}

-- the round trips of the kept ones of so many stamps, behind some in the place of the others
pub padded : List Stamp → ℕ → List ℕ
padded xs count = replicate (count - length xs) 0 ++ map trip xs

pub padded-stands : (xs : List Stamp) (count start : ℕ) → length xs ≡ min 1024 count → lists.StandsFor (listed (map trip xs) count start) (padded xs count)
unfolding padded
padded-stands xs count start few =
    let zeros : List ℕ = replicate (count - length xs) 0 in
    let long : length (zeros ++ map trip xs) ≡ count = omega (
      arith,
      length-append zeros (map trip xs),
      length-replicate {A = ℕ} (count - length xs) 0,
      length-map xs trip,
    ) in
    let gone : length (zeros ++ map trip xs) - 1024 ≡ length zeros = omega (arith, length-replicate {A = ℕ} (count - length xs) 0) in
    record {
      trips = sym (ap (λ n. drop n (zeros ++ map trip xs)) gone ∙ grind (arith, common_steps));
      count = sym long;
    }

padded-at : (xs : List Stamp) (count k : ℕ) (s : Stamp) → k < length xs → slice_index (padded xs count) (count - length xs + k) ≡ trip (get_or xs k s)
unfolding padded
padded-at xs count k s here =
    let zeros : List ℕ = replicate (count - length xs) 0 in
    ap (λ n. slice_index (zeros ++ map trip xs) (n + k)) (sym (length-replicate {A = ℕ} (count - length xs) 0)) ∙ grind (arith, common_steps)
    ∙ get_or-map trip xs k s 0 here

-- the first index of least round trip is where the first stamp of least round trip stands
pub first_least-listed : (xs : List Stamp) (count from to i : ℕ) (s : Stamp) → length xs ≡ min 1024 count → count - length xs ≤ from → to ≤ count
    → lists.IsFirstMinimum (slice_index (padded xs count)) from to i → slice_get xs (i - (count - length xs)) ≡ Some s
    → first_least (slice_range xs (from - (count - length xs)) (to - (count - length xs))) ≡ Some s
first_least-listed xs count from to i s few early late is here =
    let gone : ℕ = count - length xs in
    let a : ℕ = from - gone in
    let n : ℕ = to - gone - a in
    let ys : List Stamp = slice_range xs a (to - gone) in
    let long : length ys ≡ to - from = omega (arith, length-take n (drop a xs), length-drop a xs) in
    let at : (k : ℕ) (d : Stamp) → k < to - from → trip (get_or ys k d) ≡ slice_index (padded xs count) (from + k) = λ k d k_in.
    let place : gone + (a + k) ≡ from + k = omega arith in
    ap trip (get_or-take n (drop a xs) k d (omega arith) ∙ get_or-drop a xs k d) ∙ sym (padded-at xs count (a + k) d (omega arith))
    ∙ ap (slice_index (padded xs count)) place in
    let place : a + (i - from) ≡ i - gone = omega (arith, is.low) in
    let found : get_or ys (i - from) s ≡ s = get_or-take n (drop a xs) (i - from) s (omega (arith, is.low, is.high)) ∙ get_or-drop a xs (i - from) s
    ∙ ap (λ j. get_or xs j s) place ∙ get_or_from_slice_get xs (i - gone) s s here in
    let back : from + (i - from) ≡ i = omega (arith, is.low) in
    let same : trip s ≡ slice_index (padded xs count) i = ap trip (sym found) ∙ at (i - from) s (omega (arith, is.low, is.high))
    ∙ ap (slice_index (padded xs count)) back in
    let first : pairs.IsFirstLeast ys s = record {
      place = i - from;
      there = slice_get-get_or ys (i - from) s (omega (arith, is.low, is.high)) ∙ ap (λ t. Some t) found;
      least = λ k d k_in. omega (arith, at k d (omega arith), is.least (from + k) (omega arith) (omega arith));
      first = λ k d before. omega (arith, at k d (omega (arith, is.low, is.high)), is.first (from + k) (omega arith) (omega (arith, is.low)));
    } in
    first_least-found ys s first

window-listed : (trips : List ℕ) (count start : ℕ) (which : Which) → lists.window (listed trips count start) which ≡ span_of count start which
window-listed trips count start Base = refl
window-listed trips count start Recent = refl
window-listed trips count start WideOld = refl
window-listed trips count start WideNew = refl
window-listed trips count start NearOld = refl
window-listed trips count start NearNew = refl

-- each window has indices of the last 1,024 stamps
pub span-kept : (count start : ℕ) (which : Which) → (count - 1024 ≤ (span_of count start which).from) × ((span_of count start which).to ≤ count)
span-kept count start Base = (omega arith, omega arith)
span-kept count start Recent = (omega arith, omega arith)
span-kept count start WideOld = (omega arith, omega arith)
span-kept count start WideNew = (omega arith, omega arith)
span-kept count start NearOld = (omega arith, omega arith)
span-kept count start NearNew = (omega arith, omega arith)

-- the stamp with this index is kept, and is the first of least round trip in a window
pub record IsListed (k : Kept) (which : Which) (i : ℕ) : Type 0 where
  pub kept : k.count - length k.stamps ≤ i
  pub within : i - (k.count - length k.stamps) < length k.stamps
  pub first : (s : Stamp) → slice_get k.stamps (i - (k.count - length k.stamps)) ≡ Some s → first_least (stamps_in k which) ≡ Some s

-- so it is with what the lists say
pub least-listed : (k : Kept) (ls : lists.Kept) (which : Which) (i : ℕ) → length k.stamps ≡ min 1024 k.count → ls ≡ listed (map trip k.stamps) k.count k.start
    → ((all : List ℕ) → lists.StandsFor ls all → lists.IsFirstMinimum (slice_index all) (lists.window ls which).from (lists.window ls which).to
    i) → IsListed k which i
least-listed k ls which i few is_listed least =
    let all : List ℕ = padded k.stamps k.count in
    let w : lists.Span = span_of k.count k.start which in
    let window : lists.window ls which ≡ w = ap (λ ls. lists.window ls which) is_listed ∙ window-listed (map trip k.stamps) k.count k.start which in
    let stands = subst (λ ls. lists.StandsFor ls all) (sym is_listed) (padded-stands k.stamps k.count k.start few) in
    let first : lists.IsFirstMinimum (slice_index all) w.from w.to i = subst
    (λ (w : lists.Span). lists.IsFirstMinimum (slice_index all) w.from w.to i) window (least all stands) in
    let near = span-kept k.count k.start which in
    let early : k.count - length k.stamps ≤ w.from = omega (arith, near.0) in
    record {
      kept = omega (arith, first.low);
      within = omega (arith, first.low, first.high, near.1);
      first = λ s here. first_least-listed k.stamps k.count w.from w.to i s few early near.1 first here;
    }

pub credit-listed : (k : Kept) (ls : lists.Kept) → ls ≡ listed (map trip k.stamps) k.count k.start → lists.credit ls ≡ credit k
unfolding credit
credit-listed k ls is_listed = ap lists.credit is_listed

-- a window without stamps has no credit
pub credit-none : (k : Kept) (freq : ℕ) → StandsFor k freq [] → credit k ≡ 0
unfolding credit start_before lists.credit lists.credit_in lists.lows
credit-none k freq none = rw (none.stamps, none.count, none.start) refl
