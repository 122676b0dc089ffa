-- While accepted stamps and sets are counted.
use Rattle.std.proofs.Common.{◌≡◌, ℕ, ◌+◌, ◌<◌, true, List, [], ◌∷◌, ◌++◌, Result, Ok, Err, length, sym, ap, ◌∙◌, subst, arith, append-nil}
use Rattle.std.proofs.lemmas.List.{length_push}
use Rattle.stamp_text.specs.Accepted.{accepted_with}
use Rattle.stamp_text.specs.Past.{accept_item, counts_of, seen_with, test_of}
use Rattle.stamp_text.specs.declared.accepts.Refused.{Refused}
use Rattle.stamp_text.specs.declared.lines.Item.{Item}
use Rattle.stamp_text.specs.declared.lines.Item.TheVariants as item
use Rattle.stamp_text.proofs.PastLaws.{counts-push, seen-push}
use Rattle.radclock_input.specs.declared.stops.Stop.{Stop}
use Rattle.radclock_input.specs.declared.quota.Quota.{Quota}
use Rattle.radclock_input.specs.Readings.{Admits, Counts, IsCounted, IsOver, IsSpent, weight_of}

-- one more item
pub weighs : (items : List Item) (x : Item) → length (counts_of (items ++ x ∷ [])) ≡ length (counts_of items) + weight_of x
weighs items (item.Stamp s) = ap length (counts-push items (item.Stamp s)) ∙ length_push (counts_of items) s.tf
weighs items (item.Set count at) = ap length (counts-push items (item.Set count at)) ∙ length_push (counts_of items) count
weighs items (item.Leap count leap) = omega (arith, ap length (counts-push items (item.Leap count leap) ∙ append-nil (counts_of items)))

-- the answer to it
answer-is : (q : Quota) (freq : ℕ) (x : Item) (r : Result (Unit {0}) Refused) (items : List Item) → r ≡ test_of freq q.past x → Counts q items
    → accept_item freq items x ≡ r
answer-is q freq x r items test counts = ap (λ seen. test_of freq seen x) (sym counts.seen) ∙ sym test

pub admits-refused : (old new : Quota) (freq : ℕ) (x : Item) (why : Refused) → new.limited ≡ old.limited → new.accepted ≡ old.accepted
    → new.past ≡ old.past → Err why ≡ test_of freq old.past x → Admits old new freq x
admits-refused old new freq x why same count past test = record {
  same = same;
  counts = λ on items counts. subst (Counts new) (sym (ap (accepted_with items x) (answer-is old freq x (Err why) items test counts)))
      (record { count = count ∙ counts.count; seen = past ∙ counts.seen; few = counts.few });
}

pub admits-counted : (old mid new : Quota) (freq : ℕ) (x : Item) → mid.limited ≡ old.limited → mid.accepted ≡ old.accepted
    → mid.past ≡ seen_with old.past x → Ok tt ≡ test_of freq old.past x → IsCounted mid new x → Admits old new freq x
admits-counted old mid new freq x same count past test is = record {
  same = is.same ∙ same;
  counts = λ on items counts. subst (Counts new) (sym (ap (accepted_with items x) (answer-is old freq x (Ok tt) items test counts))) (record {
    count = omega (arith, is.count, count, counts.count, weighs items x);
    seen = is.past ∙ past ∙ ap (λ seen. seen_with seen x) counts.seen ∙ sym (seen-push items x);
    few = omega (arith, is.few (omega (arith, count, counts.count, counts.few)), is.count, count, counts.count, weighs items x);
  });
}

pub spent-over : (old mid : Quota) (freq : ℕ) (x : Item) (s : Stop) → old.limited ≡ true → mid.accepted ≡ old.accepted
    → Ok tt ≡ test_of freq old.past x → IsOver s mid x → IsSpent s old freq x
spent-over old mid freq x s on count test is = record {
  limit = is.limit;
  limited = on;
  many = λ items counts. subst (λ (xs : List Item). 16384 < length (counts_of xs))
      (sym (ap (accepted_with items x) (answer-is old freq x (Ok tt) items test counts))) (omega (arith, is.over, count, counts.count, weighs items x));
}
