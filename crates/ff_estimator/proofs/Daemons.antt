-- What a daemon keeps behind one more item.
use Rattle.std.proofs.Common.{◌≡◌, ◌⊎◌, inl, inr, ℕ, ℤ, pos, negsuc, ◌+◌, ◌<◌, ◌≤◌, List, [], ◌∷◌, ◌++◌, length, Option, None, Some, IfSome, Result, Ok, Err, refl, sym, ap, ◌∙◌, subst, arith, append-nil}
use mir.Val.{to_z, of_z}
use mir.Syntax.{w8}
use Rattle.std.specs.Option.{option_map}
use Rattle.std.proofs.lemmas.Bool.Decides.{nat_tests}
use Rattle.ff_grain.specs.declared.bintime.Bintime.{Bintime}
use Rattle.stamp_text.specs.Accepted.{IsLeapInRange, accept_of, accepted_with}
use Rattle.stamp_text.specs.Past.{Seen, seen_of, seen_after, tests_of_item, test_of, stamps_of}
use Rattle.stamp_text.specs.declared.accepts.Refused.{Refused}
use Rattle.stamp_text.specs.declared.lines.Item.{Item}
use Rattle.stamp_text.specs.declared.lines.Item.TheVariants as item
use Rattle.stamp_text.specs.declared.lines.Stamp.{Stamp}
use Rattle.stamp_text.proofs.AcceptedLaws.{none-holds, sound-by, follows-by}
use Rattle.stamp_text.proofs.PastLaws.{stamp-accepted, stamps-push}
use Rattle.rtt_window.specs.Windows as windows
use Rattle.ff_estimator.specs.Choices.{taken_before}
use Rattle.ff_estimator.specs.Leaps.{AreFew, leaps_with}
use Rattle.ff_estimator.specs.Daemons.{Kept, StandsFor, AreLeapsOf, Holds}
use Rattle.ff_estimator.specs.declared.leaps.Leaps.{Leaps}
use Rattle.ff_estimator.proofs.LeapLaws.{leaps-stay, leaps-set, leaps-leap, leaps-few}

-- a stamp that is accepted is accepted behind the newest one
pub accepted-newest : (freq : ℕ) (seen : Seen) (newest : Option Stamp) (s : Stamp) (r : Result (Unit {0}) Refused) → seen.stamp ≡ newest
    → r ≡ test_of freq seen (item.Stamp s) → r ≡ Ok tt → accept_of newest s freq ≡ Ok tt
accepted-newest freq seen newest s r is test passed = ap (λ o. accept_of o s freq) (sym is) ∙ stamp-accepted freq seen s (sym test ∙ passed)

-- its reply comes later
pub reply-later : (newest : Option Stamp) (s : Stamp) (freq : ℕ) → accept_of newest s freq ≡ Ok tt → IfSome newest (λ p. p.tf ≤ s.tf)
reply-later None s freq e = tt
reply-later (Some p) s freq e =
    let sound = sound-by freq (Some p) s e in
    let follows = follows-by freq p s e in
    omega (arith, sound.counters, follows.counters)

-- one more stamp
pub stamp-stands : (k : Kept) (freq : ℕ) (items : List Item) (s : Stamp) → windows.StandsFor k.window freq (stamps_of items ++ s ∷ [])
    → k.taken ≡ taken_before freq (stamps_of items ++ s ∷ []) (length (stamps_of items ++ s ∷ [])) → k.past ≡ seen_of (items ++ item.Stamp s ∷ [])
    → AreLeapsOf k.leaps items → IfSome (seen_of items).stamp (λ p. p.tf ≤ s.tf)
    → StandsFor k freq (items ++ item.Stamp s ∷ [])
stamp-stands k freq items s window taken past leaps later =
    let same = sym (stamps-push items (item.Stamp s)) in
    record {
      window = subst (windows.StandsFor k.window freq) same window;
      taken = subst (λ (ss : List Stamp). k.taken ≡ taken_before freq ss (length ss)) same taken;
      past = past;
      leaps = leaps-stay k.leaps items s leaps later;
    }

-- one more set
pub set-stands : (k : Kept) (past : Seen) (freq : ℕ) (items : List Item) (count : ℕ) (at : Bintime) (r : Result (Unit {0}) Refused) → StandsFor k
    freq items → past ≡ seen_of (accepted_with items (item.Set count at) r)
    → StandsFor (record k { past = past }) freq (accepted_with items (item.Set count at) r)
set-stands k past freq items count at (Ok o) was is =
    let same = sym (stamps-push items (item.Set count at) ∙ append-nil (stamps_of items)) in
    record {
      window = subst (windows.StandsFor k.window freq) same was.window;
      taken = subst (λ (ss : List Stamp). k.taken ≡ taken_before freq ss (length ss)) same was.taken;
      past = is;
      leaps = leaps-set k.leaps items count at was.leaps;
    }
set-stands k past freq items count at (Err why) was is = record { window = was.window; taken = was.taken; past = is; leaps = was.leaps }

pub set-holds : (k : Kept) (past : Seen) (freq count : ℕ) (at : Bintime) (r : Result (Unit {0}) Refused) → Holds k freq
    → past ≡ seen_after k.past (item.Set count at) r → Holds (record k { past = past }) freq
set-holds k past freq count at (Ok o) h is = record {
  at = h.at;
  low = h.low;
  high = h.high;
  bounded = h.bounded;
  newest = ap (λ (p : Seen). p.stamp) is ∙ h.newest;
  latest = h.latest ∙ sym (ap (λ (p : Seen). p.leap) is);
  few = subst (AreFew k.leaps) (sym (ap (λ (p : Seen). p.leaps) is)) h.few;
  hundred = subst (λ n. n ≤ 100) (sym (ap (λ (p : Seen). p.leaps) is)) h.hundred;
}
set-holds k past freq count at (Err why) h is = record {
  at = h.at;
  low = h.low;
  high = h.high;
  bounded = h.bounded;
  newest = ap (λ (p : Seen). p.stamp) is ∙ h.newest;
  latest = h.latest ∙ sym (ap (λ (p : Seen). p.leap) is);
  few = subst (AreFew k.leaps) (sym (ap (λ (p : Seen). p.leaps) is)) h.few;
  hundred = subst (λ n. n ≤ 100) (sym (ap (λ (p : Seen). p.leaps) is)) h.hundred;
}

-- a sign in eight bits
pub sign-back : (z : ℤ) → (z ≡ pos 1) ⊎ (z ≡ negsuc 0) → to_z w8 (of_z w8 z) ≡ z
sign-back z (inl e) = rw e refl
sign-back z (inr e) = rw e refl

-- one more leap second
pub leap-stands : (k : Kept) (past : Seen) (leaps : Leaps) (freq : ℕ) (items : List Item) (count : ℕ) (leap : ℤ)
    (r : Result (Unit {0}) Refused) → Holds k freq → StandsFor k freq items → r ≡ test_of freq k.past (item.Leap count leap) → r ≡ Ok tt
    → past ≡ seen_of (accepted_with items (item.Leap count leap) r) → leaps ≡ leaps_with k.leaps count leap
    → StandsFor (record k { past = past; leaps = leaps }) freq (accepted_with items (item.Leap count leap) (Ok tt))
leap-stands k past leaps freq items count leap r h was test passed is leaps-is =
    let same = sym (stamps-push items (item.Leap count leap) ∙ append-nil (stamps_of items)) in
    let here : test_of freq (seen_of items) (item.Leap count leap) ≡ Ok tt = ap (λ (p : Seen). test_of freq p (item.Leap count leap)) (sym was.past)
    ∙ sym test ∙ passed in
    record {
      window = subst (windows.StandsFor k.window freq) same was.window;
      taken = subst (λ (ss : List Stamp). k.taken ≡ taken_before freq ss (length ss)) same was.taken;
      past = is ∙ ap (λ r. seen_of (accepted_with items (item.Leap count leap) r)) passed;
      leaps = subst (λ (l : Leaps). AreLeapsOf l (items ++ item.Leap count leap ∷ [])) (sym leaps-is)
          (leaps-leap freq k.leaps items count leap was.leaps (h.latest ∙ ap (λ (p : Seen). p.leap) was.past) here);
    }

few-leap : (freq : ℕ) (seen : Seen) (count : ℕ) (leap : ℤ) → test_of freq seen (item.Leap count leap) ≡ Ok tt → seen.leaps < 100
unfolding test_of
few-leap freq seen count leap e = (let few = (none-holds (tests_of_item freq seen (item.Leap count leap)) e).1.1.1.0 in grind (arith, nat_tests))

pub leap-holds : (k : Kept) (past : Seen) (leaps : Leaps) (freq count : ℕ) (leap : ℤ) (r : Result (Unit {0}) Refused) → IsLeapInRange count leap
    → Holds k freq → r ≡ test_of freq k.past (item.Leap count leap) → r ≡ Ok tt → past ≡ seen_after k.past (item.Leap count leap) r
    → leaps ≡ leaps_with k.leaps count leap → Holds (record k { past = past; leaps = leaps }) freq
leap-holds k past leaps freq count leap r range h test passed is leaps-is =
    let after = is ∙ ap (seen_after k.past (item.Leap count leap)) passed in
    let few = few-leap freq k.past count leap (sym test ∙ passed) in
    let many : past.leaps ≡ k.past.leaps + 1 = ap (λ (p : Seen). p.leaps) after in
    record {
      at = h.at;
      low = h.low;
      high = h.high;
      bounded = h.bounded;
      newest = ap (λ (p : Seen). p.stamp) after ∙ h.newest;
      latest = ap (λ (l : Leaps). option_map (λ l. l.count) l.latest) leaps-is ∙ sym (ap (λ (p : Seen). p.leap) after);
      few = subst (λ (l : Leaps). AreFew l past.leaps) (sym leaps-is)
          (subst (AreFew (leaps_with k.leaps count leap)) (sym many) (leaps-few k.leaps k.past.leaps count leap h.few range));
      hundred = omega (arith, many, few);
    }
