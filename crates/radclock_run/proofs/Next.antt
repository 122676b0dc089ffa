-- What an accepted stamp is, where it is told.
use Rattle.std.proofs.Common.{◌≡◌, ℕ, ◌≤◌, ◌+◌, List, [], ◌∷◌, ◌++◌, cond, ◌&&◌, is_ok, Result, Ok, Err, OnOk, sym, ap, ◌∙◌, subst, arith}
use Rattle.stamp_text.specs.Accepted.{accept_of, accepted_with, last_of}
use Rattle.stamp_text.specs.Past.{accept_item, seen_of, seen_with, stamps_of, test_of}
use Rattle.stamp_text.specs.declared.accepts.Refused.{Refused}
use Rattle.stamp_text.specs.declared.lines.Head.{Head}
use Rattle.stamp_text.specs.declared.lines.Item.{Item}
use Rattle.stamp_text.specs.declared.lines.Item.TheVariants as item
use Rattle.stamp_text.specs.declared.lines.Stamp.{Stamp}
use Rattle.stamp_text.proofs.AcceptedLaws.{sound-by}
use Rattle.stamp_text.proofs.PastLaws.{seen-push, seen-stamp, stamp-accepted}
use Rattle.ff_estimator.specs.Estimates.{fed_by}
use Rattle.ff_estimator.specs.declared.fulls.Fed.TheVariants as fed
use Rattle.ff_estimator.specs.declared.fulls.Full.{Full}
use Rattle.radclock_run.specs.Reports.{is_stamp}
use Rattle.radclock_run.specs.Tallies.{StandsAt}
use Rattle.radclock_run.specs.declared.reports.Tally.{Tally}
use Rattle.radclock_run.proofs.Counted.{with-stamps}

-- its times go on behind the stamp before it
pub by-times : (freq : ℕ) (items : List Item) (s : Stamp) → accept_item freq items (item.Stamp s) ≡ Ok tt → accept_of (last_of (stamps_of items)) s freq ≡ Ok tt
by-times freq items s e = ap (λ o. accept_of o s freq) (sym (seen-stamp items)) ∙ stamp-accepted freq (seen_of items) s e

pub forward : (freq : ℕ) (items : List Item) (x : Item) (s : Stamp) → x ≡ item.Stamp s → accept_item freq items x ≡ Ok tt → s.ta ≤ s.tf
forward freq items x s is e =
    let sound = sound-by freq (last_of (stamps_of items)) s (by-times freq items s (ap (accept_item freq items) (sym is) ∙ e)) in
    omega (arith, sound.counters)

pub on-ok : {T E : Type 0} (r : Result T E) (P : Type 0) → P → OnOk r P
on-ok (Ok x) P p = p
on-ok (Err e) P p = tt

-- a daemon does not refuse it
pub not-refused : (r : Result (Unit {0}) Refused) (f : Full) (why : Refused) → r ≡ Ok tt → fed.Refused why ≡ fed_by r f → ⊥
not-refused (Ok o) f why e is = absurd (cc)
not-refused (Err w) f why e is = absurd (cc)

pub more-stamps : (x : Item) (old new n : ℕ) → new ≡ old + n → n ≡ cond {A = ℕ} (is_stamp x) 1 0 → new ≡ old
    + cond {A = ℕ} (is_stamp x && is_ok {T = Unit {0}} {E = Refused} (Ok tt)) 1 0
more-stamps (item.Stamp s) old new n e is = omega arith
more-stamps (item.Set count at) old new n e is = omega arith
more-stamps (item.Leap count leap) old new n e is = omega arith

-- a value and a tally go on with an accepted item
pub stands-next : {T : Type 0} (stands : T → Head → List Item → Type 0) (telling telling' : T) (head : Head) (old new : Tally) (items : List Item)
    (x : Item) → StandsAt stands telling head old items → Ok tt ≡ test_of head.freq old.past x
    → new.past ≡ seen_with old.past x → new.accepted ≡ old.accepted + cond {A = ℕ} (is_stamp x && is_ok {T = Unit {0}} {E = Refused} (Ok tt)) 1 0
    → (accept_item head.freq items x ≡ Ok tt → stands telling' head (items ++ x ∷ []))
    → StandsAt stands telling' head new (accepted_with items x (accept_item head.freq items x))
stands-next stands telling telling' head old new items x at test past count stood =
    let answer : accept_item head.freq items x ≡ Ok tt = ap (λ seen. test_of head.freq seen x) (sym at.seen) ∙ sym test in
    subst (StandsAt stands telling' head new) (sym (ap (accepted_with items x) answer)) (record {
      stood = stood answer;
      count = omega (arith, with-stamps items x (Ok tt), at.count, count);
      seen = past ∙ ap (λ seen. seen_with seen x) at.seen ∙ sym (seen-push items x);
    })
