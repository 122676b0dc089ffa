-- The events of accepted items, which a clock can go by one after another.
use Rattle.std.proofs.Common.{◌≡◌, inl, ℕ, ℤ, zero, suc, ◌+◌, ◌/◌, ◌<◌, ◌≤◌, true, List, [], ◌∷◌, ◌++◌, length, map, get_or, Option, None, Some, IfSome, Result, Ok, Err, All, refl, sym, ap, ap₂, ◌∙◌, subst, arith, append-nil, append_assoc}
use Rattle.std.specs.List.{AllPairs}
use Rattle.std.specs.Option.{option_to_list}
use Rattle.std.proofs.Math.Nat.{div-le_of_le-mul}
use Rattle.std.proofs.Math.Seq.{take-append_seam}
use Rattle.std.proofs.lemmas.Int.{ints}
use Rattle.std.proofs.lemmas.List.{length_push, length-map, get_or-map}
use Rattle.std.proofs.lemmas.List.Elements.{filter_map-append, All-take}
use Rattle.ff_grain.specs.Periods.{nominal_period}
use Rattle.ff_grain.specs.declared.bintime.Bintime.{Bintime}
use Rattle.stamp_text.specs.Accepted.{IsInRange, IsSetInRange, IsLeapInRange, IsItemInRange, IsPlausible, AreAccepted, accepted_with}
use Rattle.stamp_text.specs.Past.{AreAcceptedItems, accept_item, stamp_of_item, stamps_of, counts_of}
use Rattle.stamp_text.specs.declared.accepts.Refused.{Refused}
use Rattle.stamp_text.specs.declared.lines.Item.{Item}
use Rattle.stamp_text.specs.declared.lines.Item.TheVariants as item
use Rattle.stamp_text.specs.declared.lines.Stamp.{Stamp}
use Rattle.stamp_text.proofs.PastLaws.{items-none, item-push}
use Rattle.ff_hands.specs.Orders.{is_sane_estimate, is_sane}
use Rattle.ff_hands.specs.Windups.{reset_estimate}
use Rattle.ff_hands.proofs.Orders.{sane-is}
use Rattle.ff_estimator.specs.Estimates.{full_at, fed_by}
use Rattle.ff_estimator.specs.Folds.{fold_of}
use Rattle.ff_estimator.specs.Leaps.{leaps_of, fields_at}
use Rattle.ff_estimator.specs.Events.{with_leaps, without_leaps, full_behind, fed_of, event_behind, events_from, events_of, fulls_of, count_of_event, order_of_event, AreOf, IsLate, AreInTurn}
use Rattle.ff_estimator.specs.declared.fulls.Event.{Event}
use Rattle.ff_estimator.specs.declared.fulls.Event.TheVariants as event
use Rattle.ff_estimator.specs.declared.fulls.Fed.TheVariants as fed
use Rattle.ff_estimator.specs.declared.fulls.Full.{Full}
use Rattle.ff_estimator.specs.declared.leaps.LeapFields.{LeapFields}
use Rattle.ff_estimator.proofs.Taken.{sane-from}
use Rattle.ff_estimator.proofs.Newest.{count_at-push}
use Rattle.ff_estimator.proofs.Sane.{accepted-take, full-sane}
use Rattle.ff_estimator.proofs.Folds.{fold_of-push}
use Rattle.ff_estimator.proofs.LeapLaws.{AreSaneFields, fields-sane}

-- events of items in two parts
events-append : (freq : ℕ) (before xs ys : List Item) → events_from freq before (xs ++ ys) ≡ events_from freq before xs ++ events_from freq (before ++ xs) ys
events-append freq before [] ys = ap (λ (b : List Item). events_from freq b ys) (sym (append-nil before))
events-append freq before (x ∷ xs) ys =
    let here : List Event = option_to_list (event_behind freq before x) in
    ap (λ (es : List Event). here ++ es) (events-append freq (before ++ x ∷ []) xs ys
    ∙ ap (λ (b : List Item). events_from freq (before ++ x ∷ []) xs ++ events_from freq b ys) (append_assoc before (x ∷ []) xs))
    ∙ sym (append_assoc here (events_from freq (before ++ x ∷ []) xs) (events_from freq (before ++ (x ∷ xs)) ys))

-- one more item
pub events-push : (freq : ℕ) (items : List Item) (x : Item) → events_of freq (items ++ x ∷ []) ≡ events_of freq items
    ++ option_to_list (event_behind freq items x)
unfolding events_of
events-push freq items x = events-append freq [] items (x ∷ [])
    ∙ ap (λ (es : List Event). events_from freq [] items ++ es) (append-nil (option_to_list (event_behind freq items x)))

-- the count of an estimate is that of the reply
full-count : (freq : ℕ) (before : List Item) (s : Stamp) → (full_behind freq before s).est.update_ffcount ≡ s.tf
unfolding full_behind full_at
full-count freq before s = count_at-push (stamps_of before) s

event-counts : (freq : ℕ) (before rest : List Item) → map count_of_event (events_from freq before rest) ≡ counts_of rest
event-counts freq before [] = refl
event-counts freq before (item.Stamp s ∷ xs) = ap₂ (λ (n : ℕ) (ns : List ℕ). n ∷ ns) (full-count freq before s)
    (event-counts freq (before ++ item.Stamp s ∷ []) xs)
event-counts freq before (item.Set count at ∷ xs) = ap (λ (ns : List ℕ). count ∷ ns) (event-counts freq (before ++ item.Set count at ∷ []) xs)
event-counts freq before (item.Leap count leap ∷ xs) = event-counts freq (before ++ item.Leap count leap ∷ []) xs

pub counts-are : (freq : ℕ) (items : List Item) → map count_of_event (events_of freq items) ≡ counts_of items
unfolding events_of
counts-are freq items = event-counts freq [] items

-- an estimate is that of the stamps, but for the leap seconds
without : (freq : ℕ) (before : List Item) (s : Stamp) → without_leaps (full_behind freq before s) ≡ full_at freq (stamps_of before ++ s ∷ [])
    (length (stamps_of before))
unfolding full_behind full_at
without freq before s = refl

stamps-append : (xs ys : List Item) → stamps_of (xs ++ ys) ≡ stamps_of xs ++ stamps_of ys
stamps-append xs ys = filter_map-append stamp_of_item xs ys

fold-from : (freq : ℕ) (before rest : List Item) → fold_of freq (stamps_of (before ++ rest)) ≡ fold_of freq (stamps_of before)
    ++ map without_leaps (fulls_of (events_from freq before rest))
fold-from freq before [] = ap (λ (b : List Item). fold_of freq (stamps_of b)) (append-nil before) ∙ sym (append-nil (fold_of freq (stamps_of before)))
fold-from freq before (item.Stamp s ∷ xs) =
    let mid : List Item = before ++ item.Stamp s ∷ [] in
    let rest : List Full = map without_leaps (fulls_of (events_from freq mid xs)) in
    let full : Full = without_leaps (full_behind freq before s) in
    let here : fold_of freq (stamps_of mid) ≡ fold_of freq (stamps_of before) ++ full ∷ [] =
    ap (fold_of freq) (stamps-append before (item.Stamp s ∷ [])) ∙ fold_of-push freq (stamps_of before) s
    ∙ ap (λ (f : Full). fold_of freq (stamps_of before) ++ f ∷ []) (sym (without freq before s)) in
    ap (λ (b : List Item). fold_of freq (stamps_of b)) (sym (append_assoc before (item.Stamp s ∷ []) xs))
    ∙ fold-from freq mid xs
    ∙ ap (λ (fs : List Full). fs ++ rest) here
    ∙ append_assoc (fold_of freq (stamps_of before)) (full ∷ []) rest
fold-from freq before (item.Set count at ∷ xs) =
    let mid : List Item = before ++ item.Set count at ∷ [] in
    let rest : List Full = map without_leaps (fulls_of (events_from freq mid xs)) in
    ap (λ (b : List Item). fold_of freq (stamps_of b)) (sym (append_assoc before (item.Set count at ∷ []) xs))
    ∙ fold-from freq mid xs
    ∙ ap (λ (ss : List Stamp). fold_of freq ss ++ rest) (stamps-append before (item.Set count at ∷ []) ∙ append-nil (stamps_of before))
fold-from freq before (item.Leap count leap ∷ xs) =
    let mid : List Item = before ++ item.Leap count leap ∷ [] in
    let rest : List Full = map without_leaps (fulls_of (events_from freq mid xs)) in
    ap (λ (b : List Item). fold_of freq (stamps_of b)) (sym (append_assoc before (item.Leap count leap ∷ []) xs))
    ∙ fold-from freq mid xs
    ∙ ap (λ (ss : List Stamp). fold_of freq ss ++ rest) (stamps-append before (item.Leap count leap ∷ []) ∙ append-nil (stamps_of before))

pub fold-told : (freq : ℕ) (items : List Item) → map without_leaps (fulls_of (events_of freq items)) ≡ fold_of freq (stamps_of items)
unfolding events_of fold_of
fold-told freq items = sym (fold-from freq [] items)

-- what is known where an item stands among others
pub record Stands (freq : ℕ) (front : List Item) (x : Item) : Type 0 where
  pub ranged : All IsItemInRange front
  pub here : IsItemInRange x
  pub stamps : AreAccepted freq (stamps_of (front ++ x ∷ []))

all-front : {A : Type 0} (P : A → Type 0) (xs ys : List A) → All P (xs ++ ys) → All P xs
all-front P xs ys all = subst (All P) (take-append_seam xs ys) (All-take P (length xs) (xs ++ ys) all)

all-last : {A : Type 0} (P : A → Type 0) (xs : List A) (x : A) → All P (xs ++ x ∷ []) → P x
all-last P [] x all = all 0 x (omega arith)
all-last P (y ∷ xs) x all = all-last P xs x (λ k d within. all (suc k) d (omega arith))

stands : (freq : ℕ) (front back : List Item) (x : Item) → AreAcceptedItems freq ((front ++ x ∷ []) ++ back) → Stands freq front x
stands freq front back x are =
    let upto : List Item = front ++ x ∷ [] in
    let ranged : All IsItemInRange upto = all-front IsItemInRange upto back are.timed in
    let stamps : AreAccepted freq (stamps_of upto ++ stamps_of back) = subst (AreAccepted freq) (stamps-append upto back) are.stamps in
    record {
      ranged = all-front IsItemInRange front (x ∷ []) ranged;
      here = all-last IsItemInRange front x ranged;
      stamps = subst (AreAccepted freq) (take-append_seam (stamps_of upto) (stamps_of back))
          (accepted-take freq (length (stamps_of upto)) (stamps_of upto ++ stamps_of back) stamps);
    }

one-cons : (P : Event → Type 0) (e : Event) (es : List Event) → P e → All P es → All P (e ∷ es)
one-cons P e es h all zero d within = h
one-cons P e es h all (suc k) d within = all k d (omega arith)

one-more : (P : Event → Type 0) (o : Option Event) (es : List Event) → IfSome o P → All P es → All P (option_to_list o ++ es)
one-more P None es h all = all
one-more P (Some e) es h all = one-cons P e es h all

-- what each item has among accepted ones, its event has
each-event : (P : Event → Type 0) (freq : ℕ) (before rest : List Item) → AreAcceptedItems freq (before ++ rest)
    → ((front : List Item) (x : Item) → Stands freq front x → IfSome (event_behind freq front x) P) → All P (events_from freq before rest)
each-event P freq before [] are each = λ k d within. absurd (omega arith)
each-event P freq before (x ∷ xs) are each =
    let whole : AreAcceptedItems freq ((before ++ x ∷ []) ++ xs) = subst (AreAcceptedItems freq) (sym (append_assoc before (x ∷ []) xs)) are in
    one-more P (event_behind freq before x) (events_from freq (before ++ x ∷ []) xs) (each before x (stands freq before xs x whole))
    (each-event P freq (before ++ x ∷ []) xs whole each)

pub all-events : (P : Event → Type 0) (freq : ℕ) (items : List Item) → AreAcceptedItems freq items
    → ((front : List Item) (x : Item) → Stands freq front x → IfSome (event_behind freq front x) P) → All P (events_of freq items)
unfolding events_of
all-events P freq items are each = each-event P freq [] items are each

-- an estimate stays sane with sane leap seconds
leaps-sane : (l : LeapFields) (f : Full) → AreSaneFields l → is_sane_estimate f.est ≡ true → is_sane_estimate (with_leaps l f).est ≡ true
leaps-sane l f fields sane =
    let is = sane-is f.est sane in
    sane-from (with_leaps l f).est (record { update = is.update; period = is.period; low = is.low; high = is.high }) fields.next fields.sign

behind-sane : (freq : ℕ) (front : List Item) (s : Stamp) → 1000000 ≤ freq → Stands freq front (item.Stamp s)
    → is_sane_estimate (full_behind freq front s).est ≡ true
unfolding full_behind
behind-sane freq front s low st =
    let stamps : AreAccepted freq (stamps_of front ++ s ∷ []) = subst (AreAccepted freq) (stamps-append front (item.Stamp s ∷ [])) st.stamps in
    leaps-sane (fields_at (leaps_of front) s.tf) (full_at freq (stamps_of front ++ s ∷ []) (length (stamps_of front)))
    (fields-sane front s.tf st.ranged) (full-sane freq (stamps_of front ++ s ∷ []) (length (stamps_of front)) low stamps
    (omega (arith, length_push (stamps_of front) s)))

-- so is what a set resets to
pub reset-sane : (at : Bintime) (count freq : ℕ) → 1000000 ≤ freq → IsSetInRange count at → is_sane_estimate (reset_estimate at count freq) ≡ true
unfolding nominal_period
reset-sane at count freq low range =
    let most : 9223372036854775808 / freq ≤ 9223372036855 = div-le_of_le-mul freq (omega arith) in
    sane-from (reset_estimate at count freq) (record {
      update = range.count;
      period = omega arith;
      low = omega (arith, ints, range.at.low);
      high = omega (arith, ints, range.at.high);
    }) (omega arith) (inl refl)

event-sane : (freq : ℕ) (front : List Item) (x : Item) → 1000000 ≤ freq → Stands freq front x
    → IfSome (event_behind freq front x) (λ e. is_sane (order_of_event freq e) ≡ true)
event-sane freq front (item.Stamp s) low st = behind-sane freq front s low st
event-sane freq front (item.Set count at) low st = reset-sane at count freq low st.here
event-sane freq front (item.Leap count leap) low st = tt

event-late : (freq : ℕ) (front : List Item) (x : Item) → Stands freq front x → IfSome (event_behind freq front x) IsLate
event-late freq front (item.Stamp s) st =
    let stamps : AreAccepted freq (stamps_of front ++ s ∷ []) = subst (AreAccepted freq) (stamps-append front (item.Stamp s ∷ [])) st.stamps in
    let sound : s.ta < s.tf = (all-last (IsPlausible freq) (stamps_of front) s stamps.sound).counters in
    subst (λ n. 0 < n) (sym (full-count freq front s)) (omega arith)
event-late freq front (item.Set count at) st = tt
event-late freq front (item.Leap count leap) st = tt

pairs-back : (f : Event → ℕ) (es : List Event) → AllPairs (λ a b. a < b) (map f es) → AllPairs (λ e later. f e < f later) es
pairs-back f es pairs i j d order within =
    let many = length-map es f in
    let here = get_or-map f es i d (f d) (omega arith) in
    let there = get_or-map f es j d (f d) within in
    let less = pairs i j (f d) order (omega arith) in
    omega arith

-- the events of accepted items come in turn
pub in-turn : (freq : ℕ) (items : List Item) → 1000000 ≤ freq → AreAcceptedItems freq items → AreInTurn freq (events_of freq items)
in-turn freq items low are = record {
  sane = all-events (λ e. is_sane (order_of_event freq e) ≡ true) freq items are (λ front x st. event-sane freq front x low st);
  late = all-events IsLate freq items are (λ front x st. event-late freq front x st);
  rising = pairs-back count_of_event (events_of freq items) (subst (AllPairs (λ a b. a < b)) (sym (counts-are freq items)) are.rising);
}

pub of-turn : (events : List Event) (freq : ℕ) (items : List Item) → 1000000 ≤ freq → AreOf events freq items → AreInTurn freq events
of-turn events freq items low are = subst (AreInTurn freq) (sym are.fold) (in-turn freq items low are.accepted)

pub of-rises : (events : List Event) (freq : ℕ) (items : List Item) (i : ℕ) (d : Event) → 1000000 ≤ freq → AreOf events freq items → i
    + 1 < length events → count_of_event (get_or events i d) ≤ count_of_event (get_or events (i + 1) d)
of-rises events freq items i d low are within = (let this = (of-turn events freq items low are).rising i (i + 1) d (omega arith) within in omega arith)

-- nothing was said of no items
pub of-none : (freq : ℕ) → AreOf [] freq []
unfolding events_of
of-none freq = record { fold = refl; accepted = items-none freq }

-- one more item that is accepted
of-item : (freq : ℕ) (items : List Item) (x : Item) (events : List Event) → IsItemInRange x → AreOf events freq items
    → accept_item freq items x ≡ Ok tt → AreOf (events ++ option_to_list (event_behind freq items x)) freq (items ++ x ∷ [])
of-item freq items x events timed are e = record {
  fold = ap (λ (es : List Event). es ++ option_to_list (event_behind freq items x)) are.fold ∙ sym (events-push freq items x);
  accepted = item-push freq items x are.accepted timed e;
}

estimate-by : (freq : ℕ) (items : List Item) (s : Stamp) (events : List Event) (full : Full) (r : Result (Unit {0}) Refused) → accept_item freq items
    (item.Stamp s) ≡ r → IsInRange s → AreOf events freq items → fed.Estimate full ≡ fed_by r (full_behind freq items s)
    → AreOf (events ++ event.Estimate full ∷ []) freq (accepted_with items (item.Stamp s) r)
estimate-by freq items s events full (Ok o) e timed are is =
    let here : full ≡ full_behind freq items s = cc in
    subst (λ (f : Full). AreOf (events ++ event.Estimate f ∷ []) freq (items ++ item.Stamp s ∷ [])) (sym here)
    (of-item freq items (item.Stamp s) events timed are e)
estimate-by freq items s events full (Err why) e timed are is = absurd (cc)

pub of-estimate : (freq : ℕ) (items : List Item) (s : Stamp) (events : List Event) (full : Full) → IsInRange s → AreOf events freq items
    → fed.Estimate full ≡ fed_of freq items s → AreOf (events ++ event.Estimate full ∷ []) freq
    (accepted_with items (item.Stamp s) (accept_item freq items (item.Stamp s)))
of-estimate freq items s events full timed are is = estimate-by freq items s events full (accept_item freq items (item.Stamp s)) refl timed are is

refused-by : (freq : ℕ) (items : List Item) (s : Stamp) (events : List Event) (why : Refused) (r : Result (Unit {0}) Refused) → AreOf events freq
    items → fed.Refused why ≡ fed_by r (full_behind freq items s) → AreOf events freq (accepted_with items (item.Stamp s) r)
refused-by freq items s events why (Ok o) are is = absurd (cc)
refused-by freq items s events why (Err other) are is = are

pub of-refused : (freq : ℕ) (items : List Item) (s : Stamp) (events : List Event) (why : Refused) → AreOf events freq items
    → fed.Refused why ≡ fed_of freq items s → AreOf events freq (accepted_with items (item.Stamp s) (accept_item freq items (item.Stamp s)))
of-refused freq items s events why are is = refused-by freq items s events why (accept_item freq items (item.Stamp s)) are is

pub of-set : (freq : ℕ) (items : List Item) (count : ℕ) (at : Bintime) (events : List Event) → IsSetInRange count at → AreOf events freq items
    → accept_item freq items (item.Set count at) ≡ Ok tt → AreOf (events ++ event.Set count at ∷ []) freq (items ++ item.Set count at ∷ [])
of-set freq items count at events timed are e = of-item freq items (item.Set count at) events timed are e

pub of-leap : (freq : ℕ) (items : List Item) (count : ℕ) (leap : ℤ) (events : List Event) → IsLeapInRange count leap → AreOf events freq items
    → accept_item freq items (item.Leap count leap) ≡ Ok tt → AreOf events freq (items ++ item.Leap count leap ∷ [])
of-leap freq items count leap events timed are e = subst (λ (es : List Event). AreOf es freq (items ++ item.Leap count leap ∷ []))
    (append-nil events) (of-item freq items (item.Leap count leap) events timed are e)
