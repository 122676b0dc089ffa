-- What accepted items come to, and what follows where one more is accepted.
use Rattle.std.proofs.Common.{◌≡◌, ℕ, ℤ, ◌-◌, ◌<◌, ◌≤◌, ◌||◌, Bool, true, false, List, [], ◌∷◌, ◌++◌, length, get_or, Option, None, Some, Result, Ok, Err, All, fold, refl, ap, ◌∙◌, subst, sym, arith, append-nil, append_assoc}
use Rattle.std.specs.List.{AllPairs}
use Rattle.std.specs.Option.{option_to_list}
use Rattle.std.proofs.lemmas.Bool.Decides.{nat_tests}
use Rattle.std.proofs.lemmas.List.{length_push, get_or_push}
use Rattle.std.proofs.lemmas.List.Elements.{All-nil, All-push, All-head, All-tail, filter_map-append}
use Rattle.std.proofs.lemmas.List.Quantifiers.{all_pairs_push}
use Rattle.std.proofs.lemmas.List.Sums.{fold-append}
use Rattle.std.proofs.lemmas.Option.{slice_get-get_or}
use Rattle.ff_grain.specs.declared.bintime.Bintime.{Bintime}
use Rattle.stamp_text.specs.Accepted.{IsItemInRange, tests_of, accept_of, first_that_holds, last_of, accepted_with, AreAccepted}
use Rattle.stamp_text.specs.Past.{Seen, nothing_seen, seen_with, seen_of, is_not_behind, reply_of, is_reached, later_tests, tests_of_item, test_of, seen_after, accept_item, accepted_items, item_of_line, items_among, accepted_of, stamp_of_item, stamps_of, count_of_item, counts_of, AreAcceptedItems}
use Rattle.stamp_text.specs.declared.accepts.Refused.{Refused}
use Rattle.stamp_text.specs.declared.accepts.Refused.TheVariants as refused
use Rattle.stamp_text.specs.declared.lines.Item.{Item}
use Rattle.stamp_text.specs.declared.lines.Item.TheVariants as item
use Rattle.stamp_text.specs.declared.lines.Line.{Line}
use Rattle.stamp_text.specs.declared.lines.Line.TheVariants as gives
use Rattle.stamp_text.specs.declared.lines.Stamp.{Stamp}
use Rattle.stamp_text.proofs.AcceptedLaws.{none-holds, sound-by, follows-by, accepted-push, accepted-none}

-- where the first tests refuse, so do all
pub tests-refuse : (xs ys : List (Bool × Refused)) (why : Refused) → first_that_holds xs ≡ Err why → first_that_holds (xs ++ ys) ≡ Err why
tests-refuse [] ys why e = absurd (cc)
tests-refuse ((true, w) ∷ xs) ys why e = e
tests-refuse ((false, w) ∷ xs) ys why e = tests-refuse xs ys why e

-- where they do not, the others decide
pub tests-pass : (xs ys : List (Bool × Refused)) → first_that_holds xs ≡ Ok tt → first_that_holds (xs ++ ys) ≡ first_that_holds ys
tests-pass [] ys e = refl
tests-pass ((true, w) ∷ xs) ys e = absurd (cc)
tests-pass ((false, w) ∷ xs) ys e = tests-pass xs ys e

-- the tests of a stamp
pub stamp-refused : (freq : ℕ) (seen : Seen) (s : Stamp) (why : Refused) → accept_of seen.stamp s freq ≡ Err why → test_of freq seen (item.Stamp s) ≡ Err why
unfolding accept_of test_of
stamp-refused freq seen s why e = tests-refuse (tests_of seen.stamp s freq) (later_tests seen.set s) why e

pub stamp-passed : (freq : ℕ) (seen : Seen) (s : Stamp) → accept_of seen.stamp s freq ≡ Ok tt
    → test_of freq seen (item.Stamp s) ≡ first_that_holds (later_tests seen.set s)
unfolding accept_of test_of
stamp-passed freq seen s e = tests-pass (tests_of seen.stamp s freq) (later_tests seen.set s) e

-- one more item
pub seen-push : (items : List Item) (x : Item) → seen_of (items ++ x ∷ []) ≡ seen_with (seen_of items) x
seen-push items x = fold-append seen_with nothing_seen items (x ∷ [])

pub seen-with : (items : List Item) (x : Item) (r : Result (Unit {0}) Refused) → seen_of (accepted_with items x r) ≡ seen_after (seen_of items) x r
seen-with items x (Ok o) = seen-push items x
seen-with items x (Err why) = refl

-- the newest of stamps
last-push : (xs : List Stamp) (s : Stamp) → last_of (xs ++ s ∷ []) ≡ Some s
last-push xs s =
    slice_get-get_or (xs ++ s ∷ []) (length (xs ++ s ∷ []) - 1) s (omega (arith, length_push xs s))
    ∙ ap (λ s. Some s) (get_or_push xs s s (length (xs ++ s ∷ []) - 1) (omega (arith, length_push xs s)))

-- the latest stamp is the last one
stamp-from : (seen : Seen) (before : List Stamp) (items : List Item) → seen.stamp ≡ last_of before
    → (fold seen_with seen items).stamp ≡ last_of (before ++ stamps_of items)
stamp-from seen before [] e = e ∙ ap last_of (sym (append-nil before))
stamp-from seen before (item.Stamp s ∷ xs) e = stamp-from (seen_with seen (item.Stamp s)) (before ++ s ∷ []) xs (sym (last-push before s))
    ∙ ap last_of (append_assoc before (s ∷ []) (stamps_of xs))
stamp-from seen before (item.Set count at ∷ xs) e = stamp-from (seen_with seen (item.Set count at)) before xs e
stamp-from seen before (item.Leap count leap ∷ xs) e = stamp-from (seen_with seen (item.Leap count leap)) before xs e

pub seen-stamp : (items : List Item) → (seen_of items).stamp ≡ last_of (stamps_of items)
seen-stamp items = stamp-from nothing_seen [] items refl

-- the stamps and the counts with one more item
pub stamps-push : (items : List Item) (x : Item) → stamps_of (items ++ x ∷ []) ≡ stamps_of items ++ option_to_list (stamp_of_item x)
stamps-push items (item.Stamp s) = filter_map-append stamp_of_item items (item.Stamp s ∷ [])
stamps-push items (item.Set count at) = filter_map-append stamp_of_item items (item.Set count at ∷ [])
stamps-push items (item.Leap count leap) = filter_map-append stamp_of_item items (item.Leap count leap ∷ [])

pub counts-push : (items : List Item) (x : Item) → counts_of (items ++ x ∷ []) ≡ counts_of items ++ option_to_list (count_of_item x)
counts-push items (item.Stamp s) = filter_map-append count_of_item items (item.Stamp s ∷ [])
counts-push items (item.Set count at) = filter_map-append count_of_item items (item.Set count at ∷ [])
counts-push items (item.Leap count leap) = filter_map-append count_of_item items (item.Leap count leap ∷ [])

-- a stamp that is accepted passes the tests of its times, and those behind them
pub stamp-accepted : (freq : ℕ) (seen : Seen) (s : Stamp) → test_of freq seen (item.Stamp s) ≡ Ok tt → accept_of seen.stamp s freq ≡ Ok tt
stamp-accepted freq seen s e =
    let split : (r : Result (Unit {0}) Refused) → accept_of seen.stamp s freq ≡ r → r ≡ Ok tt =
    elim [ Ok o ↦ λ is. refl | Err why ↦ λ is. (let refuses = stamp-refused freq seen s why is in absurd (cc)) ] in
    split (accept_of seen.stamp s freq) refl

stamp-later : (freq : ℕ) (seen : Seen) (s : Stamp) → test_of freq seen (item.Stamp s) ≡ Ok tt → is_not_behind s.ta seen.set ≡ false
stamp-later freq seen s e =
    let rest : first_that_holds (later_tests seen.set s) ≡ Ok tt = sym (stamp-passed freq seen s (stamp-accepted freq seen s e)) ∙ e in
    (none-holds (later_tests seen.set s) rest).1.0

-- it comes behind all counts that were reached
behind-stamp : (freq : ℕ) (stamp : Option Stamp) (s : Stamp) (c : ℕ) → accept_of stamp s freq ≡ Ok tt → is_not_behind c (reply_of stamp) ≡ true → c < s.tf
behind-stamp freq None s c e h = absurd (cc)
behind-stamp freq (Some p) s c e h =
    let sound = sound-by freq (Some p) s e in
    let follows = follows-by freq p s e in
    let most : c ≤ p.tf = grind (arith, nat_tests) in
    omega (arith, sound.counters, follows.counters)

behind-set : (set : Option ℕ) (count c : ℕ) → is_not_behind count set ≡ false → is_not_behind c set ≡ true → c < count
behind-set None count c out within = absurd (cc)
behind-set (Some n) count c out within = grind (arith, nat_tests)

pub above-stamp : (freq : ℕ) (seen : Seen) (s : Stamp) (c : ℕ) → test_of freq seen (item.Stamp s) ≡ Ok tt → is_reached seen c ≡ true → c < s.tf
above-stamp freq seen s c e h =
    let accepted = stamp-accepted freq seen s e in
    let forward : s.ta < s.tf = (sound-by freq seen.stamp s accepted).counters in
    let split : (a b : Bool) → is_not_behind c (reply_of seen.stamp) ≡ a → is_not_behind c seen.set ≡ b → (a || b) ≡ true → c < s.tf =
    elim [
      | true ↦ λ b ea eb h. behind-stamp freq seen.stamp s c accepted ea
      | false ↦ elim [
        | true ↦ λ ea eb h. (let below = behind-set seen.set s.ta c (stamp-later freq seen s e) eb in omega arith)
        | false ↦ λ ea eb h. absurd (cc)
      ]
    ] in
    split _ _ refl refl h

-- so does a set
pub above-set : (freq : ℕ) (seen : Seen) (count : ℕ) (at : Bintime) (c : ℕ) → test_of freq seen (item.Set count at) ≡ Ok tt
    → is_reached seen c ≡ true → c < count
unfolding test_of
above-set freq seen count at c e h =
    let not_reached : is_reached seen count ≡ false = (none-holds ((is_reached seen count, refused.SetOld) ∷ []) e).0 in
    let split : (stamp : Option ℕ) (set : Option ℕ) → (is_not_behind count stamp || is_not_behind count set) ≡ false
    → (is_not_behind c stamp || is_not_behind c set) ≡ true → c < count =
    elim [
      | None ↦ λ set out within. behind-set set count c out within
      | Some n ↦ elim [ None ↦ λ out within. grind (arith, nat_tests) | Some m ↦ λ out within. grind (arith, nat_tests) ]
    ] in
    split (reply_of seen.stamp) seen.set not_reached h

-- a leap second that is accepted is one of a hundred at most
few-leap : (freq : ℕ) (seen : Seen) (count : ℕ) (leap : ℤ) → test_of freq seen (item.Leap count leap) ≡ Ok tt → seen.leaps < 100
unfolding test_of
few-leap freq seen count leap e = (let few = (none-holds (tests_of_item freq seen (item.Leap count leap)) e).1.1.1.0 in grind (arith, nat_tests))

-- what one more count behind all others leaves
record Counted (items : List Item) (x : Item) : Type 0 where
  rising : AllPairs (λ a b. a < b) (counts_of (items ++ x ∷ []))
  reached : All (λ c. is_reached (seen_of (items ++ x ∷ [])) c ≡ true) (counts_of (items ++ x ∷ []))

one-counted : (freq : ℕ) (items : List Item) (x : Item) (n : ℕ) → AreAcceptedItems freq items → count_of_item x ≡ Some n
    → ((c : ℕ) → is_reached (seen_of items) c ≡ true → c < n) → ((c : ℕ) → c ≤ n → is_reached (seen_with (seen_of items) x) c ≡ true) → Counted items x
one-counted freq items x n are is above reach =
    let counts : counts_of (items ++ x ∷ []) ≡ counts_of items ++ n ∷ [] = counts-push items x
    ∙ ap (λ (o : Option ℕ). counts_of items ++ option_to_list o) is in
    let seen = seen-push items x in
    record {
      rising = subst (AllPairs (λ a b. a < b)) (sym counts) (all_pairs_push (λ a b. a < b) (counts_of items) n are.rising
          (λ k d within. above (get_or (counts_of items) k d) (are.reached k d within)));
      reached = subst (λ (cs : List ℕ). All (λ c. is_reached (seen_of (items ++ x ∷ [])) c ≡ true) cs) (sym counts)
          (subst (λ (k : Seen). All (λ c. is_reached k c ≡ true) (counts_of items ++ n ∷ [])) (sym seen)
          (All-push (λ c. is_reached (seen_with (seen_of items) x) c ≡ true) (counts_of items) n
          (λ k d within. (let below = above (get_or (counts_of items) k d) (are.reached k d within) in
          reach (get_or (counts_of items) k d) (omega arith))) (reach n (omega arith))));
    }

-- one more item that is accepted
pub item-push : (freq : ℕ) (items : List Item) (x : Item) → AreAcceptedItems freq items → IsItemInRange x → accept_item freq items x ≡ Ok tt
    → AreAcceptedItems freq (items ++ x ∷ [])
item-push freq items (item.Stamp s) are timed e =
    let x : Item = item.Stamp s in
    let seen = seen_of items in
    let counted = one-counted freq items x s.tf are refl (λ c h. above-stamp freq seen s c e h) (λ c h. grind (arith, nat_tests)) in
    let passed : accept_of (last_of (stamps_of items)) s freq ≡ Ok tt = ap (λ o. accept_of o s freq) (sym (seen-stamp items)) ∙ stamp-accepted freq seen s e in
    record {
      timed = All-push IsItemInRange items x are.timed timed;
      stamps = subst (AreAccepted freq) (sym (stamps-push items x)) (accepted-push freq (stamps_of items) s are.stamps timed passed);
      rising = counted.rising;
      reached = counted.reached;
      few = subst (λ (k : Seen). k.leaps ≤ 100) (sym (seen-push items x)) are.few;
    }
item-push freq items (item.Set count at) are timed e =
    let x : Item = item.Set count at in
    let seen = seen_of items in
    let counted = one-counted freq items x count are refl (λ c h. above-set freq seen count at c e h) (λ c h. set-reached seen count at c h) in
    record {
      timed = All-push IsItemInRange items x are.timed timed;
      stamps = subst (AreAccepted freq) (sym (stamps-push items x ∙ append-nil (stamps_of items))) are.stamps;
      rising = counted.rising;
      reached = counted.reached;
      few = subst (λ (k : Seen). k.leaps ≤ 100) (sym (seen-push items x)) are.few;
    }
  where
    set-reached : (seen : Seen) (count : ℕ) (at : Bintime) (c : ℕ) → c ≤ count → is_reached (seen_with seen (item.Set count at)) c ≡ true
    set-reached seen count at c h = grind (arith, nat_tests)
item-push freq items (item.Leap count leap) are timed e =
    let x : Item = item.Leap count leap in
    let same : counts_of (items ++ x ∷ []) ≡ counts_of items = counts-push items x ∙ append-nil (counts_of items) in
    record {
      timed = All-push IsItemInRange items x are.timed timed;
      stamps = subst (AreAccepted freq) (sym (stamps-push items x ∙ append-nil (stamps_of items))) are.stamps;
      rising = subst (AllPairs (λ a b. a < b)) (sym same) are.rising;
      reached = subst (λ (cs : List ℕ). All (λ c. is_reached (seen_of (items ++ x ∷ [])) c ≡ true) cs) (sym same)
          (subst (λ (k : Seen). All (λ c. is_reached k c ≡ true) (counts_of items)) (sym (seen-push items x)) are.reached);
      few = subst (λ (k : Seen). k.leaps ≤ 100) (sym (seen-push items x)) (let few = few-leap freq (seen_of items) count leap e in (omega arith));
    }

-- no items
pub items-none : (freq : ℕ) → AreAcceptedItems freq []
items-none freq = record {
  timed = All-nil IsItemInRange;
  stamps = accepted-none freq;
  rising = λ i j d before here. absurd (omega arith);
  reached = λ k d here. absurd (omega arith);
  few = omega arith;
}

-- the accepted items behind accepted ones
pub items-all : (freq : ℕ) (before items : List Item) → AreAcceptedItems freq before → All IsItemInRange items
    → AreAcceptedItems freq (accepted_items freq before items)
items-all freq before [] are timed = are
items-all freq before (x ∷ xs) are timed =
    let later : All IsItemInRange xs = All-tail IsItemInRange x xs timed in
    let split : (r : Result (Unit {0}) Refused) → accept_item freq before x ≡ r → AreAcceptedItems freq (accepted_items freq (accepted_with before x r) xs) =
    elim [
      | Ok o ↦ λ e. items-all freq (before ++ x ∷ []) xs (item-push freq before x are (All-head IsItemInRange x xs timed) e) later
      | Err why ↦ λ e. items-all freq before xs are later
    ] in
    split (accept_item freq before x) refl

-- the accepted items with one more line
pub item-line : (freq : ℕ) (lines : List Line) (line : Line) → accepted_of freq (lines ++ line ∷ []) ≡ accepted_items freq (accepted_of freq lines)
    (items_among (line ∷ []))
item-line freq lines line =
    ap (accepted_items freq []) (filter_map-append item_of_line lines (line ∷ []))
    ∙ fold-append (λ all x. accepted_with all x (accept_item freq all x)) [] (items_among lines) (items_among (line ∷ []))

-- the items of one line
pub item-one : (line : Line) (x : Item) → item_of_line line ≡ Some x → items_among (line ∷ []) ≡ x ∷ []
item-one (gives.Head h) x e = absurd (cc)
item-one (gives.Stamp n s) x e = cc
item-one (gives.Set n count at) x e = cc
item-one (gives.Leap n count leap) x e = cc
