-- What is kept of leap seconds tells what all of them tell.
use Rattle.std.proofs.Common.{◌≡◌, ◌⊎◌, inl, inr, zero, suc, ℕ, ℤ, pos, negsuc, ◌+ℤ◌, ◌+◌, ◌-◌, ◌<◌, ◌≤◌, ◌^◌, leb, ltb, Bool, true, false, cond, List, [], ◌∷◌, ◌++◌, length, slice_get, Option, None, Some, IfSome, Ok, All, refl, sym, ap, ap₂, ◌∙◌, subst, arith, append-nil}
use Rattle.std.specs.Option.{option_map, option_to_list}
use Rattle.std.proofs.lemmas.Bool.Decides.{nat_tests}
use Rattle.std.proofs.lemmas.Int.{ints}
use Rattle.std.proofs.lemmas.List.{length_push, get_or_push}
use Rattle.std.proofs.lemmas.List.Elements.{filter_map-append, All-head, All-tail}
use Rattle.std.proofs.lemmas.List.Sums.{fold-append}
use Rattle.std.proofs.lemmas.Option.{slice_get-get_or, slice_get_within, get_or_from_slice_get}
use Rattle.ff_grain.specs.declared.bintime.Bintime.{Bintime}
use Rattle.stamp_text.specs.Accepted.{IsItemInRange, IsLeapInRange}
use Rattle.stamp_text.specs.Past.{Seen, seen_of, is_leap_old, is_pending, tests_of_item, test_of}
use Rattle.stamp_text.specs.declared.lines.Item.{Item}
use Rattle.stamp_text.specs.declared.lines.Item.TheVariants as item
use Rattle.stamp_text.specs.declared.lines.Stamp.{Stamp}
use Rattle.stamp_text.proofs.AcceptedLaws.{none-holds}
use Rattle.stamp_text.proofs.PastLaws.{seen-push}
use Rattle.ff_estimator.specs.Leaps.{leap_of_item, leaps_of, latest_leap, signs_before, fields_of, still_to_come, fields_at, sum_with, sum_kept, fields_by, leaps_with, no_leaps, IsLeap, AreFew}
use Rattle.ff_estimator.specs.Daemons.{AreLeapsOf}
use Rattle.ff_estimator.specs.declared.leaps.Leap.{Leap}
use Rattle.ff_estimator.specs.declared.leaps.Leaps.{Leaps}
use Rattle.ff_estimator.specs.declared.leaps.LeapFields.{LeapFields}
use Rattle.ff_estimator.proofs.Taken.{IsSign}

-- one more item
pub leaps-push : (items : List Item) (x : Item) → leaps_of (items ++ x ∷ []) ≡ leaps_of items ++ option_to_list (leap_of_item x)
leaps-push items (item.Stamp s) = filter_map-append leap_of_item items (item.Stamp s ∷ [])
leaps-push items (item.Set count at) = filter_map-append leap_of_item items (item.Set count at ∷ [])
leaps-push items (item.Leap count leap) = filter_map-append leap_of_item items (item.Leap count leap ∷ [])

latest-push : (leaps : List Leap) (l : Leap) → latest_leap (leaps ++ l ∷ []) ≡ Some l
latest-push leaps l =
    slice_get-get_or (leaps ++ l ∷ []) (length (leaps ++ l ∷ []) - 1) l (omega (arith, length_push leaps l))
    ∙ ap (λ l. Some l) (get_or_push leaps l l (length (leaps ++ l ∷ []) - 1) (omega (arith, length_push leaps l)))

signs-push : (count : ℕ) (leaps : List Leap) (l : Leap) → signs_before count (leaps ++ l ∷ []) ≡ cond (ltb l.count count)
    (signs_before count leaps +ℤ l.sign) (signs_before count leaps)
signs-push count leaps l = fold-append (λ sum l. cond (ltb l.count count) (sum +ℤ l.sign) sum) (pos 0) leaps (l ∷ [])

-- where nothing was accepted
pub leaps-none : AreLeapsOf no_leaps []
leaps-none count late = refl

-- an item that is no leap second leaves them as they are
pub leaps-stay : (k : Leaps) (items : List Item) (s : Stamp) → AreLeapsOf k items → IfSome (seen_of items).stamp (λ p. p.tf ≤ s.tf)
    → AreLeapsOf k (items ++ item.Stamp s ∷ [])
leaps-stay k items s are later count late =
    let seen = seen-push items (item.Stamp s) in
    let here : s.tf ≤ count = subst (λ (q : Seen). IfSome q.stamp (λ s. s.tf ≤ count)) seen late in
    let same : leaps_of (items ++ item.Stamp s ∷ []) ≡ leaps_of items = leaps-push items (item.Stamp s) ∙ append-nil (leaps_of items) in
    ap (λ (ls : List Leap). fields_at ls count) same ∙ are count (before (seen_of items).stamp later here)
  where
    before : (o : Option Stamp) → IfSome o (λ p. p.tf ≤ s.tf) → s.tf ≤ count → IfSome o (λ p. p.tf ≤ count)
    before None h here = tt
    before (Some p) h here = omega (arith, h, here)

pub leaps-set : (k : Leaps) (items : List Item) (count : ℕ) (at : Bintime) → AreLeapsOf k items → AreLeapsOf k (items ++ item.Set count at ∷ [])
leaps-set k items n at are count late =
    let same : leaps_of (items ++ item.Set n at ∷ []) ≡ leaps_of items = leaps-push items (item.Set n at) ∙ append-nil (leaps_of items) in
    ap (λ (ls : List Leap). fields_at ls count) same ∙ are count
    (subst (λ (q : Seen). IfSome q.stamp (λ s. s.tf ≤ count)) (seen-push items (item.Set n at)) late)

-- the sum of all, where the latest is before a count
sum-settled : (total : ℤ) (latest : Option Leap) (count : ℕ) → IfSome latest (λ l. l.count < count)
    → (fields_by total latest count).total ≡ sum_with total latest
sum-settled total None count h = refl
sum-settled total (Some l) count h =
    let test : leb count l.count ≡ false = grind (arith, nat_tests) in
    ap (λ t. (cond t (fields_of (Some l) total) (fields_of None (total +ℤ l.sign))).total) test

-- the sum that is told at a count is that of the signs before it
fields-total : (o : Option Leap) (total : ℤ) → (fields_of o total).total ≡ total
fields-total None total = refl
fields-total (Some l) total = refl

-- a leap second that is accepted comes behind a stamp, which comes behind the leap second before it
record Comes (seen : Seen) (count : ℕ) : Type 0 where
  stamp : Stamp
  is : seen.stamp ≡ Some stamp
  later : stamp.tf < count
  settled : IfSome seen.leap (λ n. n < stamp.tf)

comes-by : (stamp : Option Stamp) (leap : Option ℕ) (count : ℕ) → is_leap_old count stamp ≡ false → is_pending leap stamp ≡ false → (s : Stamp)
    × (stamp ≡ Some s) × (s.tf < count) × IfSome leap (λ n. n < s.tf)
comes-by None leap count old pending = absurd (cc)
comes-by (Some s) None count old pending = (s, refl, grind (arith, nat_tests), tt)
comes-by (Some s) (Some n) count old pending = (s, refl, grind (arith, nat_tests), grind (arith, nat_tests))

comes : (freq : ℕ) (seen : Seen) (count : ℕ) (leap : ℤ) → test_of freq seen (item.Leap count leap) ≡ Ok tt → Comes seen count
unfolding test_of
comes freq seen count leap e =
    let none = none-holds (tests_of_item freq seen (item.Leap count leap)) e in
    let all = comes-by seen.stamp seen.leap count none.0 none.1.0 in
    record { stamp = all.0; is = all.1; later = all.2; settled = all.3 }

-- one more leap second
one-more : (leaps : List Leap) (l : Leap) (count : ℕ) (total : ℤ) → signs_before count leaps ≡ total
    → fields_at (leaps ++ l ∷ []) count ≡ fields_by total (Some l) count
one-more leaps l count total e =
    ap₂ (λ o sum. fields_of (still_to_come count o) sum) (latest-push leaps l)
    (signs-push count leaps l ∙ ap (λ sum. cond (ltb l.count count) (sum +ℤ l.sign) sum) e)
    ∙ by_test (leb count l.count) (ltb l.count count) refl refl
  where
    by_test : (a b : Bool) → leb count l.count ≡ a → ltb l.count count ≡ b
        → fields_of (cond a (Some l) None) (cond b (total +ℤ l.sign) total) ≡ cond a (fields_of (Some l) total) (fields_of None (total +ℤ l.sign))
    by_test true true ea eb = absurd (grind (arith, nat_tests))
    by_test true false ea eb = refl
    by_test false true ea eb = refl
    by_test false false ea eb = absurd (grind (arith, nat_tests))

latest-settled : (latest : Option Leap) (leap : Option ℕ) (tf count : ℕ) → option_map (λ l. l.count) latest ≡ leap → IfSome leap (λ n. n < tf)
    → tf ≤ count → IfSome latest (λ l. l.count < count)
latest-settled None leap tf count e h late = tt
latest-settled (Some l) leap tf count e h late = let below : l.count < tf = subst (λ (o : Option ℕ). IfSome o (λ n. n < tf)) (sym e) h in omega arith

pub leaps-leap : (freq : ℕ) (k : Leaps) (items : List Item) (count : ℕ) (leap : ℤ) → AreLeapsOf k items
    → option_map (λ l. l.count) k.latest ≡ (seen_of items).leap → test_of freq (seen_of items) (item.Leap count leap) ≡ Ok tt
    → AreLeapsOf (leaps_with k count leap) (items ++ item.Leap count leap ∷ [])
leaps-leap freq k items n leap are latest e count late =
    let x : Item = item.Leap n leap in
    let l : Leap = record { count = n; sign = leap } in
    let c = comes freq (seen_of items) n leap e in
    let old : IfSome (seen_of items).stamp (λ s. s.tf ≤ count) = subst (λ (q : Seen). IfSome q.stamp (λ s. s.tf ≤ count)) (seen-push items x) late in
    let here : c.stamp.tf ≤ count = subst (λ (o : Option Stamp). IfSome o (λ s. s.tf ≤ count)) c.is old in
    let settled = latest-settled k.latest (seen_of items).leap c.stamp.tf count latest c.settled here in
    let total : signs_before count (leaps_of items) ≡ sum_kept k = sym
    (fields-total (still_to_come count (latest_leap (leaps_of items))) (signs_before count (leaps_of items)))
    ∙ ap (λ (f : LeapFields). f.total) (are count old) ∙ sum-settled k.total k.latest count settled in
    ap (λ (ls : List Leap). fields_at ls count) (leaps-push items x) ∙ one-more (leaps_of items) l count (sum_kept k) total

-- a leap second of a file adds one at most
few-more : (k : Leaps) (n count : ℕ) (leap : ℤ) → AreFew k n → count < 2 ^ 62 → (leap ≡ pos 1) ⊎ (leap ≡ negsuc 0) → AreFew (leaps_with k count leap) (n + 1)
few-more k n count leap few below (inl e) = record {
  low = omega (arith, ints, few.least);
  high = omega (arith, ints, few.most);
  least = omega (arith, ints, few.least, e);
  most = omega (arith, ints, few.most, e);
  latest = record { count = below; sign = inl e };
}
few-more k n count leap few below (inr e) = record {
  low = omega (arith, ints, few.least);
  high = omega (arith, ints, few.most);
  least = omega (arith, ints, few.least, e);
  most = omega (arith, ints, few.most, e);
  latest = record { count = below; sign = inr e };
}

pub leaps-few : (k : Leaps) (n count : ℕ) (leap : ℤ) → AreFew k n → IsLeapInRange count leap → AreFew (leaps_with k count leap) (n + 1)
leaps-few k n count leap few range = few-more k n count leap few range.count range.sign

pub few-none : AreFew no_leaps 0
few-none = record { low = omega (arith, ints); high = omega (arith, ints); least = omega (arith, ints); most = omega (arith, ints); latest = tt }

pub few-within : (k : Leaps) (n m : ℕ) → n ≤ m → AreFew k n → AreFew k m
few-within k n m more few = record {
  low = omega (arith, ints, few.low);
  high = omega (arith, ints, few.high);
  least = omega (arith, ints, few.least);
  most = omega (arith, ints, few.most);
  latest = few.latest;
}

-- the leap seconds of items in range are in range
leap-cons : (l : Leap) (ls : List Leap) → IsLeap l → All IsLeap ls → All IsLeap (l ∷ ls)
leap-cons l ls here rest zero d within = here
leap-cons l ls here rest (suc k) d within = rest k d (omega arith)

pub leaps-ranged : (items : List Item) → All IsItemInRange items → All IsLeap (leaps_of items)
leaps-ranged [] all = λ k d within. absurd (omega arith)
leaps-ranged (item.Stamp s ∷ xs) all = leaps-ranged xs (All-tail IsItemInRange (item.Stamp s) xs all)
leaps-ranged (item.Set count at ∷ xs) all = leaps-ranged xs (All-tail IsItemInRange (item.Set count at) xs all)
leaps-ranged (item.Leap count leap ∷ xs) all =
    let here : IsLeapInRange count leap = All-head IsItemInRange (item.Leap count leap) xs all in
    leap-cons (record { count = count; sign = leap }) (leaps_of xs) (record { count = here.count; sign = here.sign })
    (leaps-ranged xs (All-tail IsItemInRange (item.Leap count leap) xs all))

-- so what is told of them is sane
pub record AreSaneFields (f : LeapFields) : Type 0 where
  pub next : f.next < 2 ^ 62
  pub sign : IsSign f.sign

fields-by-range : (o : Option Leap) (total : ℤ) → IfSome o IsLeap → AreSaneFields (fields_of o total)
fields-by-range None total h = record { next = omega arith; sign = inl refl }
fields-by-range (Some l) total h = record { next = h.count; sign = inr h.sign }

come-range : (count : ℕ) (o : Option Leap) → IfSome o IsLeap → IfSome (still_to_come count o) IsLeap
come-range count None h = tt
come-range count (Some l) h = elim (leb count l.count) as (λ t. IfSome (cond t (Some l) None) IsLeap) [ true ↦ h | false ↦ tt ]

latest-range : (leaps : List Leap) → All IsLeap leaps → IfSome (latest_leap leaps) IsLeap
latest-range leaps all = by_get (latest_leap leaps) refl
  where
    by_get : (o : Option Leap) → slice_get leaps (length leaps - 1) ≡ o → IfSome o IsLeap
    by_get None e = tt
    by_get (Some l) e = subst IsLeap (get_or_from_slice_get leaps (length leaps - 1) l l e)
        (all (length leaps - 1) l (slice_get_within leaps (length leaps - 1) l e))

pub fields-sane : (items : List Item) (count : ℕ) → All IsItemInRange items → AreSaneFields (fields_at (leaps_of items) count)
fields-sane items count all =
    let leaps : List Leap = leaps_of items in
    fields-by-range (still_to_come count (latest_leap leaps)) (signs_before count leaps)
    (come-range count (latest_leap leaps) (latest-range leaps (leaps-ranged items all)))
