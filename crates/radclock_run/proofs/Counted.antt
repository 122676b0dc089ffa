-- How many stamps of a file are accepted, and how many items are refused.
use Rattle.std.proofs.Common.{◌≡◌, ℕ, ◌+◌, ◌&&◌, Bool, List, [], ◌∷◌, length, Option, option_map, None, Some, Result, Ok, Err, is_ok, cond, refl, ap, ◌∙◌, arith, append-nil}
use Rattle.std.specs.List.{count_by}
use Rattle.std.proofs.lemmas.List.{length_push, length-map}
use Rattle.std.proofs.lemmas.List.Sums.{sum_by-cons}
use Rattle.stamp_text.specs.Accepted.{accepted_with}
use Rattle.stamp_text.specs.Past.{stamps_of}
use Rattle.stamp_text.specs.declared.accepts.Refused.{Refused}
use Rattle.stamp_text.specs.declared.lines.Item.{Item}
use Rattle.stamp_text.specs.declared.lines.Item.TheVariants as item
use Rattle.stamp_text.proofs.PastLaws.{stamps-push}
use Rattle.ff_estimator.specs.Events.{events_of, fulls_of, without_leaps}
use Rattle.ff_estimator.specs.declared.fulls.Event.{Event}
use Rattle.ff_estimator.specs.declared.fulls.Event.TheVariants as event
use Rattle.ff_hands.specs.declared.hands.Hands.{Hands}
use Rattle.callouts.specs.Firings.{asked_timers, firing_list, firings}
use Rattle.radclock_run.specs.Gathered.{is_estimate}
use Rattle.ff_estimator.proofs.Events.{fold-told}
use Rattle.ff_estimator.proofs.Folds.{length-fold_of}
use Rattle.radclock_input.specs.declared.files.ItemLine.{ItemLine}
use Rattle.radclock_input.specs.Inputs.{accepted_among}
use Rattle.radclock_run.specs.Reports.{Outcome, outcome_of, outcomes, ticks_counts, is_stamp, is_taken, refused_in}
use Rattle.radclock_run.proofs.Progress.{answer_to}

-- the first of outcomes in their count
count-first : (p : Outcome → Bool) (freq : ℕ) (accepted : List Item) (x : ItemLine) (xs : List ItemLine) → count_by p
    (outcomes freq accepted (x ∷ xs)) ≡ cond (p (outcome_of freq accepted x)) 1 0
    + count_by p (outcomes freq (accepted_with accepted x.item (answer_to freq accepted x)) xs)
count-first p freq accepted x xs = sum_by-cons (λ o. cond (p o) 1 0) (outcome_of freq accepted x)
    (outcomes freq (accepted_with accepted x.item (answer_to freq accepted x)) xs)

-- the stamps with one more item, accepted or not
pub with-stamps : (accepted : List Item) (x : Item) (r : Result (Unit {0}) Refused) → length (stamps_of (accepted_with accepted x r)) ≡ length
    (stamps_of accepted) + cond (is_stamp x && is_ok r) 1 0
with-stamps accepted (item.Stamp s) (Ok o) = ap length (stamps-push accepted (item.Stamp s)) ∙ length_push (stamps_of accepted) s
with-stamps accepted (item.Set count at) (Ok o) = omega (arith, ap length (stamps-push accepted (item.Set count at) ∙ append-nil (stamps_of accepted)))
with-stamps accepted (item.Leap count leap) (Ok o) = omega (arith, ap length (stamps-push accepted (item.Leap count leap) ∙ append-nil (stamps_of accepted)))
with-stamps accepted (item.Stamp s) (Err why) = omega arith
with-stamps accepted (item.Set count at) (Err why) = omega arith
with-stamps accepted (item.Leap count leap) (Err why) = omega arith

-- so many stamps are accepted
accepted-count : (freq : ℕ) (accepted : List Item) (items : List ItemLine) → length (stamps_of (accepted_among freq accepted items)) ≡ length
    (stamps_of accepted) + count_by is_taken (outcomes freq accepted items)
accepted-count freq accepted [] = omega arith
accepted-count freq accepted (x ∷ xs) =
    let r = answer_to freq accepted x in
    omega (arith, accepted-count freq (accepted_with accepted x.item r) xs, with-stamps accepted x.item r, count-first is_taken freq accepted x xs)

-- there are as many estimates as stamps
pub many-estimates : (freq : ℕ) (items : List Item) → length (fulls_of (events_of freq items)) ≡ length (stamps_of items)
many-estimates freq items = omega (
  arith,
  length-map (fulls_of (events_of freq items)) without_leaps,
  ap length (fold-told freq items),
  length-fold_of freq (stamps_of items),
)

-- and as many as stamps of a file are accepted
pub fulls-count : (freq : ℕ) (items : List ItemLine) (events : List Event) → events ≡ events_of freq (accepted_among freq [] items)
    → length (fulls_of events) ≡ count_by is_taken (outcomes freq [] items)
fulls-count freq items events is = omega (
  arith,
  ap (λ (es : List Event). length (fulls_of es)) is,
  many-estimates freq (accepted_among freq [] items),
  accepted-count freq [] items,
)

estimates-are : (events : List Event) → count_by is_estimate events ≡ length (fulls_of events)
estimates-are [] = refl
estimates-are (event.Estimate f ∷ es) = omega (arith, sum_by-cons (λ e. cond (is_estimate e) 1 0) (event.Estimate f) es, estimates-are es)
estimates-are (event.Set count at ∷ es) = omega (arith, sum_by-cons (λ e. cond (is_estimate e) 1 0) (event.Set count at) es, estimates-are es)

pub said-count : (freq : ℕ) (items : List ItemLine) (events : List Event) → events ≡ events_of freq (accepted_among freq [] items)
    → count_by is_estimate events ≡ count_by is_taken (outcomes freq [] items)
said-count freq items events is = estimates-are events ∙ fulls-count freq items events is

-- what an end counts
pub ends-so : (timers : Option ℕ) (q : List Outcome) (hs : List Hands) (fired accepted refused : ℕ)
    → fired ≡ length (firing_list 0 (firings (asked_timers timers) hs)) → accepted ≡ count_by is_taken q → refused ≡ refused_in q
    → record {
      accepted = accepted;
      refused = refused;
      ticks = Some (length hs);
      entries = None;
      fired = option_map (λ _. fired) timers;
    } ≡ ticks_counts timers q hs
ends-so timers q hs fired accepted refused f a r = rw (f, a, r) refl
