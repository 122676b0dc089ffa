-- A window with one more stamp.
use Rattle.std.proofs.Common.{◌≡◌, ℕ, ◌+◌, ◌-◌, ◌<◌, ◌≤◌, List, [], ◌∷◌, ◌++◌, length, drop, take, map, max, min, get_or, slice_range, Some, IfSome, Ok, inl, inr, refl, sym, ap, ap₂, ◌∙◌, subst, arith, length-drop, suc}
use Rattle.std.proofs.lemmas.Grind.{common_steps}
use Rattle.std.proofs.lemmas.List.{drop-drop, drop-map, take_all, drop-append-le, length-map, length_push, map_push, get_or_push, get_or-drop}
use Rattle.std.proofs.lemmas.Option.{slice_get_cases, slice_get-get_or}
use Rattle.circular_buffer.specs.Buffer.{buffer, keep_last}
use Rattle.min_lists.specs.declared.which.Which.{Which}
use Rattle.min_lists.specs.declared.which.Which.TheVariants as which
use Rattle.min_lists.specs.Lists as lists
use Rattle.min_lists.specs.Lists.{Span, last_trips}
use Rattle.stamp_text.specs.Accepted.{accept_of, IsInRange, last_of, trip}
use Rattle.stamp_text.specs.declared.lines.Stamp.{Stamp}
use Rattle.stamp_text.proofs.AcceptedLaws.{sound-by, follows-by, accepted-push, accepted-drop}
use Rattle.rtt_window.specs.Bases.{least_of, least_trip, judged, base_from, start_before, base_at}
use Rattle.rtt_window.specs.Spans.{listed}
use Rattle.rtt_window.specs.Windows.{Kept, StandsFor, kept_with, dropped, span_in, stamps_in, least_in, judged_in, Holds}
use Rattle.rtt_window.specs.declared.bases.Base.{Base}
use Rattle.rtt_window.proofs.Prefixes.{start_before-append}
use Rattle.rtt_window.proofs.Listed.{span-kept}

-- the last of the kept ones and one more are the last of all
pub keep_last-push : (xs : List Stamp) (s : Stamp) → keep_last 1024 (keep_last 1024 xs ++ s ∷ []) ≡ keep_last 1024 (xs ++ s ∷ [])
keep_last-push xs s = grind (arith, common_steps)

-- the stamps from a kept one on
pub range-kept : (all : List Stamp) (from i : ℕ) → length all ≡ i + 1 → i - 1023 ≤ from → from ≤ i
    → drop (from - (i + 1 - length (keep_last 1024 all))) (keep_last 1024 all) ≡ slice_range all from (i + 1)
range-kept all from i e kept order =
    let d : ℕ = length all - 1024 in
    let place : d + (from - (i + 1 - length (drop d all))) ≡ from = omega (arith, length-drop d all) in
    drop-drop (from - (i + 1 - length (drop d all))) d all ∙ ap (λ n. drop n all) place
    ∙ sym (take_all (i + 1 - from) (drop from all) (omega (arith, length-drop from all)))

pub last-push : (xs : List Stamp) (s : Stamp) → last_of (keep_last 1024 (xs ++ s ∷ [])) ≡ Some s
last-push xs s =
    let all : List Stamp = xs ++ s ∷ [] in
    let d : ℕ = length all - 1024 in
    let n : ℕ = length (drop d xs) in
    let split : drop d all ≡ drop d xs ++ s ∷ [] = drop-append-le d xs (s ∷ []) (omega (arith, length_push xs s)) in
    ap last_of split
    ∙ slice_get-get_or (drop d xs ++ s ∷ []) (length (drop d xs ++ s ∷ []) - 1) s (omega (arith, length_push (drop d xs) s))
    ∙ ap (λ s. Some s) (get_or_push (drop d xs) s s (length (drop d xs ++ s ∷ []) - 1) (omega (arith, length_push (drop d xs) s)))

-- there are more counts than stamps
pub count-below : (xs : List Stamp) (count freq : ℕ) (s : Stamp) → length xs ≡ min 1024 count → IfSome (last_of xs) (λ p. count ≤ p.tf)
    → accept_of (last_of xs) s freq ≡ Ok tt → count < s.tf
count-below xs count freq s few counted e =
    let sound = sound-by freq (last_of xs) s e in
    elim (slice_get_cases xs (length xs - 1)).1 as (λ _. count < s.tf) [
      | inl last ↦
          let before : count ≤ last.0.tf = subst (λ o. IfSome o (λ p. count ≤ p.tf)) last.2 counted in
          let follows = follows-by freq last.0 s (ap (λ o. accept_of o s freq) (sym last.2) ∙ e) in
          omega (arith, sound.counters, follows.counters)
      | inr none ↦ omega (arith, sound.counters, none.0)
    ]

-- the round trips of the last stamps, with one more
trips-push : (xs : List Stamp) (s : Stamp) → last_trips (map trip xs ++ trip s ∷ []) ≡ map trip (keep_last 1024 (xs ++ s ∷ []))
trips-push xs s =
    let all : List Stamp = xs ++ s ∷ [] in
    ap last_trips (sym (map_push trip xs s)) ∙ ap (λ n. drop (n - 1024) (map trip all)) (length-map all trip) ∙ drop-map trip (length all - 1024) all

pub holds-push : (xs : List Stamp) (ls ls' : lists.Kept) (count start freq : ℕ) (s : Stamp) → Holds (buffer xs 1024) ls count start freq
    → IsInRange s → accept_of (last_of xs) s freq ≡ Ok tt
    → ls' ≡ listed (last_trips (ls.trips ++ trip s ∷ [])) (count + 1) start → Holds (buffer (keep_last 1024 (xs ++ s ∷ [])) 1024) ls' (count + 1) start freq
holds-push xs ls ls' count start freq s holds timed e slid =
    let all : List Stamp = xs ++ s ∷ [] in
    let below = count-below xs count freq s holds.few holds.counted e in
    record {
      capacity = refl;
      few = omega (arith, length-drop (length all - 1024) all, length_push xs s, holds.few);
      listed = slid ∙ ap (λ ts. listed ts (count + 1) start) (ap (λ (ls : lists.Kept). last_trips (ls.trips ++ trip s ∷ [])) holds.listed ∙ trips-push xs s);
      started = omega (arith, holds.started);
      low = holds.low;
      high = holds.high;
      accepted = accepted-drop freq (length all - 1024) all (accepted-push freq xs s holds.accepted timed e);
      counted = subst (λ o. IfSome o (λ p. count + 1 ≤ p.tf)) (sym (last-push xs s)) (omega arith);
    }

stamps-push : (k : Kept) (freq : ℕ) (all : List Stamp) (s : Stamp) → StandsFor k freq all → (kept_with k s).stamps ≡ keep_last 1024 (all ++ s ∷ [])
stamps-push k freq all s was = ap (λ (xs : List Stamp). keep_last 1024 (xs ++ s ∷ [])) was.stamps ∙ keep_last-push all s

-- the kept stamps in a window are the stamps of all in it
stamps_in-all : (k : Kept) (all : List Stamp) (which : Which) → k.stamps ≡ keep_last 1024 all → k.count ≡ length all
    → stamps_in k which ≡ slice_range all (span_in k which).from (span_in k which).to
stamps_in-all k all which kept counted =
    let d : ℕ = length all - 1024 in
    let w : Span = span_in k which in
    let near = span-kept k.count k.start which in
    let gone : dropped k ≡ d = ap₂ (λ n (xs : List Stamp). n - length xs) counted kept ∙ omega (arith, length-drop d all) in
    let place : d + (w.from - d) ≡ w.from = omega (arith, near.0, counted) in
    let long : w.to - d - (w.from - d) ≡ w.to - w.from = omega (arith, near.0, counted) in
    ap₂ (λ n (xs : List Stamp). slice_range xs (w.from - n) (w.to - n)) gone kept
    ∙ ap₂ (λ n xs. take n xs) long (drop-drop (w.from - d) d all ∙ ap (λ n. drop n all) place)

-- what is said of one more stamp is what the definition says of it behind all
pub base-push : (k : Kept) (freq : ℕ) (all : List Stamp) (s : Stamp) → StandsFor k freq all
    → judged_in (kept_with k s) ≡ base_at freq (all ++ s ∷ []) (length all)
unfolding base_at least_trip
base-push k freq all s was =
    let n : ℕ = length all in
    let more : List Stamp = all ++ s ∷ [] in
    let k' : Kept = kept_with k s in
    let counted : k'.count ≡ length more = omega (arith, was.count, length_push all s) in
    let last : k'.count ≡ n + 1 = omega (arith, was.count) in
    let least_of_range : List Stamp → ℕ = λ xs. least_of (map trip xs) in
    let in_all : (which : Which) → stamps_in k' which ≡ slice_range more (span_in k' which).from (span_in k' which).to = λ which. stamps_in-all
    k' more which (stamps-push k freq all s was) counted in
    let since : max k.start (k'.count - 1024) ≡ max k.start (n - 1023) = omega arith in
    let late : k'.count - 32 ≡ n - 31 = omega arith in
    let least : least_in k' which.Base ≡ least_trip more (max k.start (n - 1023)) n = ap least_of_range
    (in_all which.Base ∙ ap₂ (slice_range more) since last) in
    let recent : least_in k' which.Recent ≡ least_trip more (n - 31) n = ap least_of_range (in_all which.Recent ∙ ap₂ (slice_range more) late last) in
    let started : k.start ≡ start_before freq more n = was.start ∙ sym (start_before-append freq all (s ∷ []) n (omega arith)) in
    let here : k'.count - 1 ≡ n = omega arith in
    ap₂ (λ f i. judged f k.start i (least_in k' which.Base) (least_in k' which.Recent)) was.at here
    ∙ ap₂ (judged freq k.start n) least recent
    ∙ ap (λ start. base_from freq more start n) started

-- a window with one more stamp stands for all with it
pub stands-push : (k k' : Kept) (freq : ℕ) (all : List Stamp) (s : Stamp) (answer : Base) → StandsFor k freq all → answer ≡ judged_in (kept_with k s)
    → k' ≡ record (kept_with k s) { start = answer.start } → StandsFor k' freq (all ++ s ∷ [])
unfolding base_at start_before
stands-push k k' freq all s answer was says after =
    let many : suc (length all) ≡ length (all ++ s ∷ []) = omega (arith, length_push all s) in
    record {
      at = ap (λ (k : Kept). k.freq) after ∙ was.at;
      stamps = ap (λ (k : Kept). k.stamps) after ∙ stamps-push k freq all s was;
      count = ap (λ (k : Kept). k.count) after ∙ omega (arith, was.count, length_push all s);
      start = ap (λ (k : Kept). k.start) after ∙ ap (λ (b : Base). b.start) (says ∙ base-push k freq all s was) ∙ ap (start_before freq (all ++ s ∷ [])) many;
    }

pub last-kept : (all : List Stamp) → last_of (keep_last 1024 all) ≡ last_of all
last-kept [] = refl
last-kept (s ∷ ss) =
    let all : List Stamp = s ∷ ss in
    let d : ℕ = length all - 1024 in
    let place : d + (length (drop d all) - 1) ≡ length all - 1 = omega (arith, length-drop d all) in
    slice_get-get_or (drop d all) (length (drop d all) - 1) s (omega (arith, length-drop d all))
    ∙ ap (λ s. Some s) (get_or-drop d all (length (drop d all) - 1) s ∙ ap (λ i. get_or all i s) place)
    ∙ sym (slice_get-get_or all (length all - 1) s (omega arith))

-- what is kept tests one more stamp as all do
pub accept_of-kept : (k : Kept) (freq : ℕ) (all : List Stamp) (s : Stamp) → StandsFor k freq all
    → accept_of (last_of k.stamps) s k.freq ≡ accept_of (last_of all) s freq
accept_of-kept k freq all s was = ap₂ (λ (xs : List Stamp) freq. accept_of (last_of xs) s freq) was.stamps was.at ∙ ap (λ o. accept_of o s freq) (last-kept all)
