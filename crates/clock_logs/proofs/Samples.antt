-- What makes a log legal or not.
use Rattle.std.proofs.Common.{◌≡◌, ℕ, zero, suc, ◌+◌, ◌≤◌, nat_le, Bool, true, ◌&&◌, List, [], ◌∷◌, slice_get, Option, Some, None, refl, ap, sym, subst, ◌∙◌, ◌<◌, ◌≤ℤ◌, min, max, arith}
use Rattle.std.proofs.lemmas.Bool.Decides.{nat_tests}
use Rattle.std.specs.Prelude.{⊤}
use Rattle.ff_grain.specs.Grains.{number_of}
use Rattle.ff_hands.specs.declared.hands.Hands.{Hands}
use Rattle.clock_lines.specs.declared.readings.Entry.{Entry}
use Rattle.clock_lines.specs.declared.readings.Entry.TheVariants as entry
use Rattle.clock_lines.specs.declared.readings.Reading.{Reading}
use Rattle.clock_logs.specs.Logs.{tick_shown, count_shown, IsEntry, IsLog}
use Rattle.clock_logs.specs.Rises.{Clock, GoesOn, IsUninterrupted, Reads, Rises}

-- what entries show never falls, by a test
abbrev above : Option ℕ → ℕ → Bool
above None low = true
above (Some x) low = nat_le low x

abbrev risen : Option ℕ → ℕ → ℕ
risen None low = low
risen (Some x) low = x

abbrev pub climbs : {A : Type 0} → (A → Option ℕ) → ℕ → List A → Bool
climbs shown low [] = true
climbs shown low (e ∷ es) = above (shown e) low && climbs shown (risen (shown e) low) es

step : (o : Option ℕ) (low : ℕ) (rest : Bool) → (above o low && rest) ≡ true → (low ≤ risen o low) × (rest ≡ true)
step None low rest is = (omega arith, is)
step (Some x) low rest is = grind (arith, nat_tests)

floor : {A : Type 0} (shown : A → Option ℕ) (es : List A) (low j y : ℕ) (e : A) → climbs shown low es ≡ true → slice_get es j ≡ Some e
    → shown e ≡ Some y → low ≤ y
floor shown [] low j y e is at shows = grind arith
floor shown (d ∷ es) low zero y e is at shows =
    let one = step (shown d) low _ is in
    let same : shown d ≡ Some y = grind arith in
    let risen_is : risen (shown d) low ≡ y = ap (λ o. risen o low) same in
    omega arith
floor shown (d ∷ es) low (suc j) y e is at shows =
    let one = step (shown d) low _ is in
    let more = floor shown es (risen (shown d) low) j y e one.1 at shows in
    omega arith

pub rise : {A : Type 0} (shown : A → Option ℕ) (es : List A) (low : ℕ) → climbs shown low es ≡ true
    → (i j x y : ℕ) (d e : A) → i < j → slice_get es i ≡ Some d → slice_get es j ≡ Some e → shown d ≡ Some x → shown e ≡ Some y → x ≤ y
rise shown [] low is i j x y d e order at then first last = grind arith
rise shown (c ∷ es) low is i zero x y d e order at then first last = absurd (omega arith)
rise shown (c ∷ es) low is zero (suc j) x y d e order at then first last =
    let one = step (shown c) low _ is in
    let same : shown c ≡ Some x = grind arith in
    let risen_is : risen (shown c) low ≡ x = ap (λ o. risen o low) same in
    let more = floor shown es (risen (shown c) low) j y e one.1 then last in
    omega arith
rise shown (c ∷ es) low is (suc i) (suc j) x y d e order at then first last =
    rise shown es (risen (shown c) low) (step (shown c) low _ is).1 i j x y d e (omega arith) at then first last

-- each of a list, with its place
abbrev pub AllAt : {A : Type 0} → (ℕ → A → Type 0) → ℕ → List A → Type 0
AllAt P k [] = ⊤
AllAt P k (x ∷ xs) = P k x × AllAt P (k + 1) xs

pub at_each : {A : Type 0} (P : ℕ → A → Type 0) (xs : List A) (k : ℕ) → AllAt P k xs → (i : ℕ) (x : A) → slice_get xs i ≡ Some x → P (k + i) x
at_each P [] k all i x at = absurd (grind arith)
at_each P (y ∷ ys) k all zero x at = (let same : y ≡ x = grind arith in let here : k ≡ k + 0 = omega arith in subst (λ n. P n x) here (rw (← same) all.0))
at_each P (y ∷ ys) k all (suc i) x at = (let here : k + 1 + i ≡ k + suc i = omega arith in subst (λ n. P n x) here (at_each P ys (k + 1) all.1 i x at))

pub each_at : {A : Type 0} (P : ℕ → A → Type 0) (xs : List A) → AllAt P 0 xs → (i : ℕ) (x : A) → slice_get xs i ≡ Some x → P i x
each_at P xs all i x at = (let here : 0 + i ≡ i = omega arith in subst (λ n. P n x) here (at_each P xs 0 all i x at))

pub legal_by : (ts : List Hands) (es : List Entry) → AllAt (λ k. IsEntry ts) 0 es → climbs tick_shown 0 es ≡ true → climbs count_shown 0 es ≡ true → IsLog ts es
legal_by ts es all ticks_climb counts_climb = record {
  each = each_at (λ k. IsEntry ts) es all;
  ticks_rise = rise tick_shown es 0 ticks_climb;
  counts_rise = rise count_shown es 0 counts_climb;
}

-- no tick interrupts a clock from a tick to itself, or to the next one where that does not
pub same_tick : (c : Clock) (ts : List Hands) (m : ℕ) → IsUninterrupted c ts m m
same_tick c ts m k h low high at = absurd (omega arith)

pub next_tick : (c : Clock) (ts : List Hands) (m : ℕ) (g : Hands) → slice_get ts (m + 1) ≡ Some g → GoesOn c g.how → IsUninterrupted c ts m (m + 1)
next_tick c ts m g there goes k h low high at =
    let here : k ≡ m + 1 = omega arith in
    let same : Some g ≡ Some h = sym there ∙ (ap (slice_get ts) (sym here) ∙ at) in
    let is : g ≡ h = grind arith in
    subst (λ (x : Hands). GoesOn c x.how) is goes

-- two readings of a clock that do not rise, of two readers
pub two_rise : (ts : List Hands) (c : Clock) (r s : Reading) → Rises ts ((entry.Read r ∷ []) ∷ (entry.Read s ∷ []) ∷ []) → Reads c r.kind
    → Reads c s.kind → r.count ≤ s.count → IsUninterrupted c ts (min r.tick s.tick) (max r.tick s.tick) → number_of r.time ≤ℤ number_of s.time
two_rise ts c r s rises reads also order on =
    rises c r s record { reader = 0; place = 0; entries = entry.Read r ∷ []; log = refl; here = refl } record {
      reader = 1;
      place = 0;
      entries = entry.Read s ∷ [];
      log = refl;
      here = refl;
    } reads also order on

-- and of one
pub one_rises : (ts : List Hands) (c : Clock) (r s : Reading) → Rises ts ((entry.Read r ∷ entry.Read s ∷ []) ∷ []) → Reads c r.kind → Reads c s.kind
    → r.count ≤ s.count → IsUninterrupted c ts (min r.tick s.tick) (max r.tick s.tick) → number_of r.time ≤ℤ number_of s.time
one_rises ts c r s rises reads also order on =
    rises c r s record { reader = 0; place = 0; entries = entry.Read r ∷ entry.Read s ∷ []; log = refl; here = refl } record {
      reader = 0;
      place = 1;
      entries = entry.Read r ∷ entry.Read s ∷ [];
      log = refl;
      here = refl;
    } reads also order on
