-- While a report is written.
use Rattle.std.proofs.Common.{◌≡◌, ℕ, ◌+◌, ◌≤◌, ◌<◌, Bool, ◌&&◌, cond, List, [], ◌∷◌, ◌++◌, Option, Result, Ok, Err, length, drop, sym, ap, ◌∙◌, arith, append_assoc, append-nil, is_ok, is_err, get_or}
use Rattle.std.specs.List.{count_by}
use Rattle.std.proofs.lemmas.List.{at_drop_more, at_drop_all}
use Rattle.std.proofs.lemmas.List.Sums.{sum_by-cons}
use Rattle.rad_io.specs.Pushes.{Wrote}
use Rattle.rad_io.specs.declared.Failed.{Failed}
use Rattle.stamp_text.specs.Accepted.{accepted_with}
use Rattle.stamp_text.specs.Past.{accept_item}
use Rattle.stamp_text.specs.declared.accepts.Refused.{Refused}
use Rattle.stamp_text.specs.declared.lines.Head.{Head}
use Rattle.stamp_text.specs.declared.lines.Item.{Item}
use Rattle.stamp_text.specs.declared.lines.Item.TheVariants as item
use Rattle.stamp_text.specs.declared.lines.Stamp.{Stamp}
use Rattle.radclock_input.specs.declared.files.ItemLine.{ItemLine}
use Rattle.radclock_run.specs.declared.reports.Tally.{Tally}
use Rattle.radclock_run.specs.Reports.{Outcome, outcome_of, outcomes, is_stamp, is_taken, refused_in}
use Rattle.radclock_run.specs.Tellings.{told_of, told}
use Rattle.radclock_run.specs.Tallies.{StandsAt}

-- some lines of the whole were written, and with them these items were accepted, up to the i-th item
pub record Progress {K T : Type 0} (written : K → Option (List ℕ)) (faults : K → ℕ) (push : K → List ℕ → Result (Unit {0}) Failed → K → Type 0)
    (stands : T → Head → List Item → Type 0) (says : List Item → Stamp → List ℕ) (head : Head) (first : List ℕ) (items : List ItemLine) (i : ℕ)
    (old new : K) (telling : T) (tally : Tally) : Type 0 where
  pub front : List (List ℕ)
  pub accepted : List Item
  pub at : StandsAt stands telling head tally accepted
  pub wrote : Wrote written faults push old front new
  pub lines : first ∷ told says [] (outcomes head.freq [] items) ≡ front ++ told says accepted (outcomes head.freq accepted (drop i items))
  pub taken : count_by is_taken (outcomes head.freq [] items) ≡ tally.accepted + count_by is_taken (outcomes head.freq accepted (drop i items))
  pub left_out : refused_in (outcomes head.freq [] items) ≡ tally.refused + refused_in (outcomes head.freq accepted (drop i items))

-- the answer to the next item
abbrev pub answer_to : ℕ → List Item → ItemLine → Result (Unit {0}) Refused
answer_to freq accepted x = accept_item freq accepted x.item

-- the line of the next item, and those after it
pub lines-next : (says : List Item → Stamp → List ℕ) (freq : ℕ) (accepted : List Item) (items : List ItemLine) (i : ℕ) (d : ItemLine) → i < length
    items → told says accepted (outcomes freq accepted (drop i items)) ≡ told_of says accepted (get_or items i d).line (get_or items i d).item
    (answer_to freq accepted (get_or items i d)) ∷ told says
    (accepted_with accepted (get_or items i d).item (answer_to freq accepted (get_or items i d)))
    (outcomes freq (accepted_with accepted (get_or items i d).item (answer_to freq accepted (get_or items i d))) (drop (i + 1) items))
lines-next says freq accepted items i d h = at_drop_more (λ xs. told says accepted (outcomes freq accepted xs)) items i d h

-- the count of answers of a kind, from the next item on
pub count-next : (p : Outcome → Bool) (freq : ℕ) (accepted : List Item) (items : List ItemLine) (i : ℕ) (d : ItemLine) → i < length items
    → count_by p (outcomes freq accepted (drop i items)) ≡ cond (p (outcome_of freq accepted (get_or items i d))) 1 0
    + count_by p (outcomes freq (accepted_with accepted (get_or items i d).item (answer_to freq accepted (get_or items i d))) (drop (i + 1) items))
count-next p freq accepted items i d h = at_drop_more (λ xs. count_by p (outcomes freq accepted xs)) items i d h
    ∙ sum_by-cons (λ o. cond (p o) 1 0) (outcome_of freq accepted (get_or items i d))
    (outcomes freq (accepted_with accepted (get_or items i d).item (answer_to freq accepted (get_or items i d))) (drop (i + 1) items))

-- the next line stands in the whole text with its end
pub next-whole : (lines front : List (List ℕ)) (line : List ℕ) (rest end : List (List ℕ)) → lines ≡ front ++ (line ∷ rest) → front
    ++ (line ∷ (rest ++ end)) ≡ lines ++ end
next-whole lines front line rest end e = sym (append_assoc front (line ∷ rest) end) ∙ ap (λ (ls : List (List ℕ)). ls ++ end) (sym e)

-- what was counted with one more answer
pub counted : (total before after now next : ℕ) (t t' : Bool) → t ≡ t' → total ≡ before + now → now ≡ cond t 1 0 + next → after ≡ cond t' 1 0
    + before → total ≡ after + next
counted total before after now next t t' e was step gained = let one : cond {A = ℕ} t 1 0 ≡ cond t' 1 0 = ap (λ t. cond t 1 0) e in omega arith

-- an answer counts at most once
pub one-answer : (x : Item) (r : Result (Unit {0}) Refused) → cond {A = ℕ} (is_stamp x && is_ok r) 1 0 + cond (is_err r) 1 0 ≤ 1
one-answer (item.Stamp s) (Ok o) = omega arith
one-answer (item.Stamp s) (Err why) = omega arith
one-answer (item.Set count at) (Ok o) = omega arith
one-answer (item.Set count at) (Err why) = omega arith
one-answer (item.Leap count leap) (Ok o) = omega arith
one-answer (item.Leap count leap) (Err why) = omega arith

-- behind the last item
pub lines-done : (says : List Item → Stamp → List ℕ) (freq : ℕ) (accepted : List Item) (items : List ItemLine) (i : ℕ)
    (lines front : List (List ℕ)) → length items ≤ i → lines ≡ front ++ told says accepted (outcomes freq accepted (drop i items)) → front ≡ lines
lines-done says freq accepted items i lines front h e = sym
    (e ∙ ap (λ (ls : List (List ℕ)). front ++ ls) (at_drop_all (λ xs. told says accepted (outcomes freq accepted xs)) items i h) ∙ append-nil front)

pub count-done : (p : Outcome → Bool) (freq : ℕ) (accepted : List Item) (items : List ItemLine) (i total now : ℕ) → length items ≤ i → total ≡ now
    + count_by p (outcomes freq accepted (drop i items)) → now ≡ total
count-done p freq accepted items i total now h e = let none : count_by p (outcomes freq accepted (drop i items)) ≡ 0 = at_drop_all
    (λ xs. count_by p (outcomes freq accepted xs)) items i h in omega arith
