-- What is said of accepted items, one after the other.
use Rattle.std.proofs.Common.{◌≡◌, ℕ, zero, suc, ◌+◌, ◌*◌, ◌<◌, ◌≤◌, List, [], ◌∷◌, ◌++◌, length, take, drop, get_or, map, Ok, Option, refl, sym, ap, ◌∙◌, subst, arith, length-append, append_assoc}
use Rattle.std.proofs.lemmas.List.{take_more, take-append-drop, length-map, append-nil}
use Rattle.std.proofs.lemmas.List.Elements.{filter_map-append}
use Rattle.std.specs.Option.{option_to_list}
use Rattle.std.specs.Prelude.{All, Result, Err}
use Rattle.std.proofs.lemmas.List.Elements.{All-head, All-tail}
use Rattle.stamp_text.specs.Accepted.{IsItemInRange, accepted_with}
use Rattle.stamp_text.proofs.PastLaws.{item-push, items-none}
use Rattle.stamp_text.specs.Past.{AreAcceptedItems, accept_item, accepted_items, counts_of, count_of_item, stamps_of, stamp_of_item}
use Rattle.stamp_text.specs.declared.lines.Item.{Item}
use Rattle.stamp_text.specs.declared.lines.Item.TheVariants as item
use Rattle.stamp_text.specs.declared.lines.Stamp.{Stamp}
use Rattle.stamp_text.specs.declared.accepts.Refused.{Refused}
use Rattle.ff_estimator.specs.Daemons.{Kept, StandsFor}
use Rattle.ff_estimator.specs.Estimates.{fed_by}
use Rattle.ff_estimator.specs.Events.{AreInTurn, count_of_event, event_behind, events_of, fed_of, full_behind}
use Rattle.ff_estimator.specs.declared.fulls.Fed.TheVariants as fed
use Rattle.ff_estimator.specs.declared.fulls.Event.{Event}
use Rattle.ff_estimator.proofs.Events.{events-push, counts-are, of-none, in-turn}
use Rattle.est_lane.specs.Lanes.{SameIn, SameOut}
use Rattle.est_lane.specs.declared.ends.LaneIn.{LaneIn}
use Rattle.est_lane.specs.declared.ends.LaneOut.{LaneOut}
use Rattle.replay_run.specs.Laps.{AreAcceptedBehind}

-- one of accepted items
behind-at : (freq : ℕ) (before xs : List Item) (i : ℕ) (d : Item) → i < length xs → AreAcceptedBehind freq before xs
    → IsItemInRange (get_or xs i d) × (accept_item freq (before ++ take i xs) (get_or xs i d) ≡ Ok tt)
behind-at freq before [] i d within are = absurd (omega arith)
behind-at freq before (x ∷ xs) zero d within are = (are.0, subst (λ ys. accept_item freq ys x ≡ Ok tt) (sym (append-nil before)) are.1)
behind-at freq before (x ∷ xs) (suc i) d within are =
    let rest = behind-at freq (before ++ x ∷ []) xs i d (omega arith) are.2 in
    (rest.0, subst (λ ys. accept_item freq ys (get_or xs i d) ≡ Ok tt) (append_assoc before (x ∷ []) (take i xs)) rest.1)

pub item-ranged : (freq : ℕ) (xs : List Item) (i : ℕ) (d : Item) → i < length xs → AreAcceptedBehind freq [] xs → IsItemInRange (get_or xs i d)
item-ranged freq xs i d within are = (behind-at freq [] xs i d within are).0

pub item-accepted : (freq : ℕ) (xs : List Item) (i : ℕ) (d : Item) → i < length xs → AreAcceptedBehind freq [] xs
    → accept_item freq (take i xs) (get_or xs i d) ≡ Ok tt
item-accepted freq xs i d within are = (behind-at freq [] xs i d within are).1

-- an accepted stamp is not refused
pub not-refused : (freq : ℕ) (before : List Item) (s : Stamp) (x : Item) (why : Refused) → x ≡ item.Stamp s → accept_item freq before x ≡ Ok tt
    → fed.Refused why ≡ fed_of freq before s → ⊥
not-refused freq before s x why is ok told =
    let accepted : accept_item freq before (item.Stamp s) ≡ Ok tt = ap (accept_item freq before) (sym is) ∙ ok in
    let both : fed.Refused why ≡ fed.Estimate (full_behind freq before s) = told ∙ ap (λ r. fed_by r (full_behind freq before s)) accepted in
    cc

-- one item more
pub counts-more : (xs : List Item) (i : ℕ) (d : Item) → i < length xs
    → length (counts_of (take (i + 1) xs)) ≡ length (counts_of (take i xs)) + length (option_to_list (count_of_item (get_or xs i d)))
counts-more xs i d within =
    ap (λ ys. length (counts_of ys)) (take_more xs i d within)
    ∙ ap length (filter_map-append count_of_item (take i xs) (get_or xs i d ∷ []))
    ∙ length-append (counts_of (take i xs)) (counts_of (get_or xs i d ∷ []))
    ∙ ap (λ n. length (counts_of (take i xs)) + n) (one-count (get_or xs i d))
  where
    one-count : (x : Item) → length (counts_of (x ∷ [])) ≡ length (option_to_list (count_of_item x))
    one-count (item.Stamp s) = refl
    one-count (item.Set count at) = refl
    one-count (item.Leap count leap) = refl

pub stamps-more : (xs : List Item) (i : ℕ) (d : Item) → i < length xs
    → length (stamps_of (take (i + 1) xs)) ≡ length (stamps_of (take i xs)) + length (stamps_of (get_or xs i d ∷ []))
stamps-more xs i d within =
    ap (λ ys. length (stamps_of ys)) (take_more xs i d within)
    ∙ ap length (filter_map-append stamp_of_item (take i xs) (get_or xs i d ∷ []))
    ∙ length-append (stamps_of (take i xs)) (stamps_of (get_or xs i d ∷ []))

pub events-more : (freq : ℕ) (xs : List Item) (i : ℕ) (d : Item) → i < length xs
    → events_of freq (take (i + 1) xs) ≡ events_of freq (take i xs) ++ option_to_list (event_behind freq (take i xs) (get_or xs i d))
events-more freq xs i d within = ap (events_of freq) (take_more xs i d within) ∙ events-push freq (take i xs) (get_or xs i d)

-- as many events as counts
pub events-length : (freq : ℕ) (items : List Item) → length (events_of freq items) ≡ length (counts_of items)
events-length freq items = sym (length-map (events_of freq items) count_of_event) ∙ ap length (counts-are freq items)

-- those of a part are no more than all
pub events-part : (freq k : ℕ) (items : List Item) → length (events_of freq (take k items)) ≤ length (events_of freq items)
events-part freq k items =
    let parts : counts_of items ≡ counts_of (take k items) ++ counts_of (drop k items) =
    ap counts_of (sym (take-append-drop k items)) ∙ filter_map-append count_of_item (take k items) (drop k items) in
    let long = ap length parts ∙ length-append (counts_of (take k items)) (counts_of (drop k items)) in
    omega (arith, long, events-length freq items, events-length freq (take k items))

-- how far the counts go
pub counts-on : (xs : List Item) (i : ℕ) (d : Item) (events n : ℕ) → i < length xs → events ≡ length (counts_of (take i xs))
    → n ≡ length (option_to_list (count_of_item (get_or xs i d))) → events + n ≡ length (counts_of (take (i + 1) xs))
counts-on xs i d events n within was is = omega (arith, was, is, counts-more xs i d within)

pub events-none : (freq : ℕ) → events_of freq [] ≡ []
events-none freq = sym (of-none freq).fold

-- one more event is sent
pub sent-more : (freq : ℕ) (xs : List Item) (i : ℕ) (d : Item) (sent new : List Event) (said : Option Event) → i < length xs
    → sent ≡ events_of freq (take i xs) → said ≡ event_behind freq (take i xs) (get_or xs i d) → new ≡ sent ++ option_to_list said
    → new ≡ events_of freq (take (i + 1) xs)
sent-more freq xs i d sent new said within was is push =
    push ∙ ap (λ es. es ++ option_to_list said) was ∙ ap (λ o. events_of freq (take i xs) ++ option_to_list o) is ∙ sym (events-more freq xs i d within)

pub send-room : (freq : ℕ) (xs : List Item) (i : ℕ) (d : Item) (sent : List Event) (said : Option Event) (room : ℕ) → i < length xs
    → sent ≡ events_of freq (take i xs) → said ≡ event_behind freq (take i xs) (get_or xs i d) → length (events_of freq xs) ≤ room
    → length (sent ++ option_to_list said) ≤ room
send-room freq xs i d sent said room within was is fits =
    omega (arith, ap length (sent-more freq xs i d sent (sent ++ option_to_list said) said within was is refl), events-part freq (i + 1) xs)

pub stands-more : (freq : ℕ) (xs : List Item) (i : ℕ) (d : Item) (k : Kept) → i < length xs → StandsFor k freq (take i xs ++ get_or xs i d ∷ [])
    → StandsFor k freq (take (i + 1) xs)
stands-more freq xs i d k within stands = subst (StandsFor k freq) (sym (take_more xs i d within)) stands

pub paid-more : (xs : List Item) (i : ℕ) (d : Item) (was now first : ℕ) → i < length xs → was ≤ first + 12 * length (stamps_of (take i xs))
    → now ≤ was + 12 * length (stamps_of (get_or xs i d ∷ [])) → now ≤ first + 12 * length (stamps_of (take (i + 1) xs))
paid-more xs i d was now first within before one = omega (arith, before, one, stamps-more xs i d within)

pub same-in : (a b c : LaneIn) → SameIn a b → SameIn b c → SameIn a c
same-in a b c one two = ((two.0.0 ∙ one.0.0, two.0.1 ∙ one.0.1, two.0.2 ∙ one.0.2, two.0.3 ∙ one.0.3), two.1 ∙ one.1)

pub same-out : (a b c : LaneOut) → SameOut a b → SameOut b c → SameOut a c
same-out a b c one two = ((two.0.0 ∙ one.0.0, two.0.1 ∙ one.0.1, two.0.2 ∙ one.0.2, two.0.3 ∙ one.0.3), two.1 ∙ one.1)

-- they have what accepted items have
behind-all : (freq : ℕ) (before xs : List Item) → AreAcceptedItems freq before → AreAcceptedBehind freq before xs → AreAcceptedItems freq (before ++ xs)
behind-all freq before [] are behind = subst (AreAcceptedItems freq) (sym (append-nil before)) are
behind-all freq before (x ∷ xs) are behind =
    subst (AreAcceptedItems freq) (append_assoc before (x ∷ []) xs)
    (behind-all freq (before ++ x ∷ []) xs (item-push freq before x are behind.0 behind.1) behind.2)

pub events-turn : (freq : ℕ) (items : List Item) → 1000000 ≤ freq → AreAcceptedBehind freq [] items → AreInTurn freq (events_of freq items)
events-turn freq items low behind = in-turn freq items low (behind-all freq [] items (items-none freq) behind)

-- the accepted items of any are accepted one behind the other
behind-some : (freq : ℕ) (before more : List Item) → All IsItemInRange more
    → (ys : List Item) × (accepted_items freq before more ≡ before ++ ys) × AreAcceptedBehind freq before ys
behind-some freq before [] ranged = ([], sym (append-nil before), tt)
behind-some freq before (x ∷ xs) ranged =
    let later : All IsItemInRange xs = All-tail IsItemInRange x xs ranged in
    let split : (r : Result (Unit {0}) Refused) → accept_item freq before x ≡ r
    → (ys : List Item) × (accepted_items freq (accepted_with before x r) xs ≡ before ++ ys) × AreAcceptedBehind freq before ys =
    elim [
      | Ok o ↦ λ e.
          let rest = behind-some freq (before ++ x ∷ []) xs later in
          (x ∷ rest.0, rest.1 ∙ append_assoc before (x ∷ []) rest.0, (All-head IsItemInRange x xs ranged, e, rest.2))
      | Err why ↦ λ e. behind-some freq before xs later
    ] in
    split (accept_item freq before x) refl

pub accepted-behind : (freq : ℕ) (more : List Item) → All IsItemInRange more → AreAcceptedBehind freq [] (accepted_items freq [] more)
accepted-behind freq more ranged = let some = behind-some freq [] more ranged in subst (AreAcceptedBehind freq []) (sym some.1) some.2
