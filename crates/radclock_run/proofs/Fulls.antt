-- While what a file's accepted items say is gathered.
use Rattle.std.proofs.Common.{◌≡◌, ℕ, ℤ, ◌+◌, ◌<◌, ◌≤◌, Bool, true, false, cond, not, is_ok, is_err, List, [], ◌∷◌, ◌++◌, length, drop, get_or, Result, Ok, Err, refl, sym, ap, ◌∙◌, subst, arith, zero-add}
use Rattle.std.proofs.lemmas.List.{at_drop_more}
use Rattle.stamp_text.specs.Accepted.{IsInRange, IsSetInRange, IsLeapInRange, accepted_with}
use Rattle.stamp_text.specs.Past.{accept_item}
use Rattle.stamp_text.specs.declared.accepts.Refused.{Refused}
use Rattle.stamp_text.specs.declared.lines.Item.{Item}
use Rattle.stamp_text.specs.declared.lines.Item.TheVariants as item
use Rattle.stamp_text.specs.declared.lines.Stamp.{Stamp}
use Rattle.ff_grain.specs.declared.bintime.Bintime.{Bintime}
use Rattle.ff_estimator.specs.Daemons.{Kept, StandsFor}
use Rattle.ff_estimator.specs.Estimates.{fed_by}
use Rattle.ff_estimator.specs.Events.{AreOf, fed_of, full_behind}
use Rattle.ff_estimator.specs.declared.fulls.Event.{Event}
use Rattle.ff_estimator.specs.declared.fulls.Event.TheVariants as event
use Rattle.ff_estimator.specs.declared.fulls.Full.{Full}
use Rattle.ff_estimator.specs.declared.fulls.Fed.TheVariants as fed
use Rattle.ff_estimator.proofs.Events.{of-none, of-estimate, of-refused, of-set, of-leap}
use Rattle.radclock_input.specs.declared.files.ItemLine.{ItemLine}
use Rattle.radclock_input.specs.Inputs.{accepted_among}
use Rattle.radclock_run.specs.Gathered.{Gathered, IsGathered}
use Rattle.radclock_run.specs.Reports.{outcomes, refused_in}
use Rattle.radclock_run.proofs.Progress.{count-next, count-done}

-- a daemon and events stand for the accepted ones of the first i items, and so many of them were refused
pub record Gathers (k : Kept) (events : List Event) (freq : ℕ) (items : List ItemLine) (i left_out : ℕ) : Type 0 where
  pub accepted : List Item
  pub at : Gathered k events freq accepted
  pub rest : accepted_among freq [] items ≡ accepted_among freq accepted (drop i items)
  pub others : refused_in (outcomes freq [] items) ≡ left_out + refused_in (outcomes freq accepted (drop i items))

-- what an answer tells
fed-ok : (r : Result (Unit {0}) Refused) (f full : Full) → fed.Estimate full ≡ fed_by r f → true ≡ is_ok r
fed-ok (Ok o) f full e = refl
fed-ok (Err why) f full e = absurd (cc)

fed-err : (r : Result (Unit {0}) Refused) (f : Full) (why : Refused) → fed.Refused why ≡ fed_by r f → false ≡ is_ok r
fed-err (Ok o) f why e = absurd (cc)
fed-err (Err w) f why e = refl

-- a stamp that is accepted, and one that is not
pub gathered-estimate : (freq : ℕ) (all : List Item) (s : Stamp) (k : Kept) (events : List Event) (full : Full) → IsInRange s → AreOf events freq all
    → StandsFor k freq (accepted_with all (item.Stamp s) (accept_item freq all (item.Stamp s))) → fed.Estimate full ≡ fed_of freq all s
    → IsGathered k (events ++ event.Estimate full ∷ []) freq all (item.Stamp s) true
gathered-estimate freq all s k events full timed are stands is = record {
  gathered = record { stands = stands; are = of-estimate freq all s events full timed are is };
  answer = fed-ok (accept_item freq all (item.Stamp s)) (full_behind freq all s) full is;
}

pub gathered-refused : (freq : ℕ) (all : List Item) (s : Stamp) (k : Kept) (events : List Event) (why : Refused) → AreOf events freq all
    → StandsFor k freq (accepted_with all (item.Stamp s) (accept_item freq all (item.Stamp s))) → fed.Refused why ≡ fed_of freq all s
    → IsGathered k events freq all (item.Stamp s) false
gathered-refused freq all s k events why are stands is = record {
  gathered = record { stands = stands; are = of-refused freq all s events why are is };
  answer = fed-err (accept_item freq all (item.Stamp s)) (full_behind freq all s) why is;
}

-- so with a set, and with a leap second
answered : (k : Kept) (events : List Event) (freq : ℕ) (all : List Item) (x : Item) (r : Result (Unit {0}) Refused) → r ≡ accept_item freq all x
    → StandsFor k freq (accepted_with all x r) → AreOf events freq (accepted_with all x r) → IsGathered k events freq all x (is_ok r)
answered k events freq all x r e stands are = record {
  gathered = record {
    stands = subst (λ r. StandsFor k freq (accepted_with all x r)) e stands;
    are = subst (λ r. AreOf events freq (accepted_with all x r)) e are;
  };
  answer = ap is_ok e;
}

pub gathered-set : (freq : ℕ) (all : List Item) (count : ℕ) (at : Bintime) (k : Kept) (events : List Event) → IsSetInRange count at
    → AreOf events freq all → Ok tt ≡ accept_item freq all (item.Set count at) → StandsFor k freq (all ++ item.Set count at ∷ [])
    → IsGathered k (events ++ event.Set count at ∷ []) freq all (item.Set count at) true
gathered-set freq all count at k events timed are e stands =
    answered k (events ++ event.Set count at ∷ []) freq all (item.Set count at) (Ok tt) e stands (of-set freq all count at events timed are (sym e))

pub gathered-none-of : (freq : ℕ) (all : List Item) (x : Item) (k : Kept) (events : List Event) (why : Refused) → AreOf events freq all
    → Err why ≡ accept_item freq all x → StandsFor k freq all → IsGathered k events freq all x false
gathered-none-of freq all x k events why are e stands = answered k events freq all x (Err why) e stands are

pub gathered-leap : (freq : ℕ) (all : List Item) (count : ℕ) (leap : ℤ) (k : Kept) (events : List Event)
    (r : Result (Unit {0}) Refused) → IsLeapInRange count leap → AreOf events freq all → r ≡ accept_item freq all (item.Leap count leap)
    → StandsFor k freq (accepted_with all (item.Leap count leap) r) → IsGathered k events freq all (item.Leap count leap) (is_ok r)
gathered-leap freq all count leap k events (Ok o) timed are e stands =
    answered k events freq all (item.Leap count leap) (Ok o) e stands (of-leap freq all count leap events timed are (sym e))
gathered-leap freq all count leap k events (Err why) timed are e stands = answered k events freq all (item.Leap count leap) (Err why) e stands are

-- no items
pub gathered-none : (k : Kept) (events : List Event) (freq : ℕ) → StandsFor k freq [] → events ≡ [] → Gathered k events freq []
gathered-none k events freq stands none = record { stands = stands; are = subst (λ (es : List Event). AreOf es freq []) (sym none) (of-none freq) }

pub gathers-none : (k : Kept) (events : List Event) (freq : ℕ) (items : List ItemLine) → StandsFor k freq [] → events ≡ [] → Gathers k events freq items 0 0
gathers-none k events freq items stands none = record { accepted = []; at = gathered-none k events freq stands none; rest = refl; others = sym (zero-add _) }

-- one more item
err-count : (r : Result (Unit {0}) Refused) (taken : Bool) (before after : ℕ) → taken ≡ is_ok r → after ≡ before + cond {A = ℕ} (not taken) 1 0
    → after ≡ cond {A = ℕ} (is_err r) 1 0 + before
err-count (Ok o) taken before after e is = (let same : cond {A = ℕ} (not taken) 1 0 ≡ 0 = ap (λ t. cond {A = ℕ} (not t) 1 0) e in omega arith)
err-count (Err why) taken before after e is = (let same : cond {A = ℕ} (not taken) 1 0 ≡ 1 = ap (λ t. cond {A = ℕ} (not t) 1 0) e in omega arith)

pub gathers-next : (k k' : Kept) (events events' : List Event) (freq : ℕ) (items : List ItemLine) (i before after : ℕ) (d : ItemLine)
    (taken : Bool) → i < length items → (g : Gathers k events freq items i before) → IsGathered k' events' freq g.accepted (get_or items i d).item
    taken → after ≡ before + cond {A = ℕ} (not taken) 1 0 → Gathers k' events' freq items (i + 1) after
gathers-next k k' events events' freq items i before after d taken within g next one =
    let x = (get_or items i d).item in
    let r = accept_item freq g.accepted x in
    let counted = count-next (λ o. is_err o.answer) freq g.accepted items i d within in
    record {
      accepted = accepted_with g.accepted x r;
      at = next.gathered;
      rest = g.rest ∙ at_drop_more (λ xs. accepted_among freq g.accepted xs) items i d within;
      others = omega (arith, g.others, counted, err-count r taken before after next.answer one);
    }

pub at-most-one : (taken : Bool) (n : ℕ) → n ≡ cond {A = ℕ} (not taken) 1 0 → n ≤ 1
at-most-one true n e = omega arith
at-most-one false n e = omega arith

-- behind the last item
pub gathers-done : (k : Kept) (events : List Event) (freq : ℕ) (items : List ItemLine) (i n : ℕ) → length items ≤ i → Gathers k events freq items i n
    → n ≡ refused_in (outcomes freq [] items)
gathers-done k events freq items i n ended g = count-done (λ o. is_err o.answer) freq g.accepted items i _ n ended g.others
