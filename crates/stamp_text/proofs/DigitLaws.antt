-- Values of digits.
use Rattle.std.proofs.Common.{◌≡◌, ℕ, ◌%◌, length-take, Bool, false, take, get_or, ◌+◌, ◌-◌, ◌*◌, ◌^◌, ◌<◌, ◌≤◌, ◌&&◌, min, true, zero, suc, None, Some, cond, List, [], ◌∷◌, ◌++◌, length, replicate, arith, refl, sym, ap, subst, ◌∙◌, length-append}
use Rattle.std.proofs.Math.Nat.{mul_assoc, pow-succ', pow-le-pow_right}
use Rattle.std.proofs.lemmas.Bool.{and_parts}
use Rattle.std.proofs.lemmas.Bool.Decides.{nat_tests}
use Rattle.std.proofs.lemmas.List.{length-replicate, take_more}
use Rattle.std.specs.Char.{digit_value}
use Rattle.std.specs.Float.Numeral.{digits_len}
use Rattle.std.specs.Str.Parse.{digits_value_after}
use Rattle.stamp_text.specs.Digits.{is_digit, all_digits, value_from}
use Rattle.stamp_text.specs.Pieces.{BeginsWithDigits}
use Rattle.stamp_text.specs.Times.{is_fraction, nanos_of, nanos_in}

-- digits behind a number make it no smaller
pub value_from_le : (n : ℕ) (ds : List ℕ) → n ≤ value_from n ds
value_from_le n [] = omega arith
value_from_le n (d ∷ ds) = omega (arith, value_from_le (n * 10 + (d - 48)) ds)

-- a value that is capped on the way is capped alike at the end
pub value_from_capped : (m n : ℕ) (ds : List ℕ) → min (value_from (min n m) ds) m ≡ min (value_from n ds) m
value_from_capped m n ds = grind (arith, value_from_le)

-- digits behind a number below a bound, which each of them multiplies by ten
pub value_from_lt : (n m : ℕ) (ds : List ℕ) → n < m → all_digits ds ≡ true → value_from n ds < m * 10 ^ length ds
value_from_lt n m [] h digits = omega arith
value_from_lt n m (d ∷ ds) h digits =
    let both = and_parts (is_digit d) (all_digits ds) digits in
    let low : d ≤ 57 = grind (arith, nat_tests, both.0) in
    let rest = value_from_lt (n * 10 + (d - 48)) (m * 10) ds (omega arith) both.1 in
    let power : m * 10 * 10 ^ length ds ≡ m * 10 ^ suc (length ds) = mul_assoc m 10 (10 ^ length ds) ∙ ap (λ (x : ℕ). m * x) (sym (pow-succ' 10 (length ds))) in
    subst (λ x. value_from (n * 10 + (d - 48)) ds < x) power rest

-- zeros are digits
filled_digits : (ds : List ℕ) (n : ℕ) → all_digits ds ≡ true → all_digits (ds ++ replicate n 48) ≡ true
filled_digits [] zero h = refl
filled_digits [] (suc n) h = filled_digits [] n h
filled_digits (d ∷ ds) n h =
    let both = and_parts (is_digit d) (all_digits ds) h in
    ap (λ t. t && all_digits (ds ++ replicate n 48)) both.0 ∙ filled_digits ds n both.1

-- nine digits are less than a billion
pub nanos_of_lt : (ds : List ℕ) → length ds ≤ 9 → all_digits ds ≡ true → nanos_of ds < 1000000000
nanos_of_lt ds few digits =
    let zeros : List ℕ = replicate (9 - length ds) 48 in
    let nine : length (ds ++ zeros) ≡ 9 = omega (arith, length-append ds zeros, length-replicate {A = ℕ} (9 - length ds) 48) in
    subst (λ n. nanos_of ds < 1 * 10 ^ n) nine (value_from_lt 0 1 (ds ++ zeros) (omega arith) (filled_digits ds (9 - length ds) digits))

-- a capped value of one to nine digits is their nanoseconds
pub nanos_told : (ds : List ℕ) (v : ℕ) → 1 ≤ length ds → length ds ≤ 9 → all_digits ds ≡ true → v ≡ min (nanos_of ds) (2 ^ 64 - 1) → (v < 1000000000)
    × (Some v ≡ nanos_in ds)
nanos_told ds v some few digits e =
    let below = nanos_of_lt ds few digits in
    let same : v ≡ nanos_of ds = omega (arith, below) in
    let fraction : is_fraction ds ≡ true = grind (arith, nat_tests) in
    (omega (arith, below), ap (λ n. Some n) same ∙ ap (λ t. cond t (Some (nanos_of ds)) None) (sym fraction))

-- a value of fewer than nine digits
pub nano_room : (v i : ℕ) → v < 10 ^ i → i < 9 → v < 100000000
nano_room v i h few = omega (arith, pow-le-pow_right {n = 10} (omega arith) {i = i} {j = 8} (omega arith))

-- a value times ten is one with a zero behind it
pub zero_behind : (v i : ℕ) → i < 9 → value_from (v * 10) (replicate (9 - (i + 1)) 48) ≡ value_from v (replicate (9 - i) 48)
zero_behind v i h =
    let more : 9 - i ≡ suc (9 - (i + 1)) = omega arith in
    let ten : v * 10 ≡ v * 10 + (48 - 48) = omega arith in
    ap (λ n. value_from n (replicate (9 - (i + 1)) 48)) ten ∙ sym (ap (λ k. value_from v (replicate k 48)) more)

-- digits behind digits
value_from-append : (n : ℕ) (ds es : List ℕ) → value_from n (ds ++ es) ≡ value_from (value_from n ds) es
value_from-append n [] es = refl
value_from-append n (d ∷ ds) es = value_from-append (n * 10 + (d - 48)) ds es

-- the value of few digits, which needs no cap
pub few_digits : (ds : List ℕ) (v : ℕ) → length ds ≤ 9 → all_digits ds ≡ true → v ≡ min (value_from 0 ds) (2 ^ 64 - 1) → (v ≡ value_from 0 ds)
    × (v < 10 ^ length ds)
few_digits ds v few digits e =
    let below = value_from_lt 0 1 ds (omega arith) digits in
    let room = pow-le-pow_right {n = 10} (omega arith) {i = length ds} {j = 9} few in
    (omega (arith, below, room), omega (arith, below, room))

-- the value of one to nine digits, filled up with zeros, is their nanoseconds
pub nanos_filled : (ds : List ℕ) (v w : ℕ) → 1 ≤ length ds → length ds ≤ 9 → all_digits ds ≡ true → v ≡ value_from 0 ds
    → w ≡ value_from v (replicate (9 - length ds) 48) → Some w ≡ nanos_in ds
nanos_filled ds v w some few digits value filled =
    let same : w ≡ nanos_of ds = filled ∙ ap (λ n. value_from n (replicate (9 - length ds) 48)) value
    ∙ sym (value_from-append 0 ds (replicate (9 - length ds) 48)) in
    let fraction : is_fraction ds ≡ true = grind (arith, nat_tests) in
    ap (λ n. Some n) same ∙ ap (λ t. cond t (Some (nanos_of ds)) None) (sym fraction)

-- the first digits of a text are digits
pub ahead_digits : (text : List ℕ) → all_digits (take (digits_len text) text) ≡ true
ahead_digits [] = refl
ahead_digits (x ∷ xs) =
    let split : (t : Bool) → is_digit x ≡ t → all_digits (take (cond t (1 + digits_len xs) 0) (x ∷ xs)) ≡ true =
    elim [
      | true ↦ λ e. subst (λ n. all_digits (take n (x ∷ xs)) ≡ true) {x = suc (digits_len xs)} (omega arith)
          (ap (λ t. t && all_digits (take (digits_len xs) xs)) e ∙ ahead_digits xs)
      | false ↦ λ e. refl
    ] in
    split (is_digit x) refl

-- the value that a reader of digits answers
pub value_after : (n : ℕ) (ds : List ℕ) → all_digits ds ≡ true → digits_value_after 10 n ds ≡ value_from n ds
value_after n [] h = refl
value_after n (d ∷ ds) h =
    let both = and_parts (is_digit d) (all_digits ds) h in
    let worth : digit_value d ≡ d - 48 = grind (arith, nat_tests, both.0) in
    ap (λ v. digits_value_after 10 (n * 10 + v) ds) worth ∙ value_after (n * 10 + (d - 48)) ds both.1

-- one more digit
value_from-push : (n : ℕ) (ds : List ℕ) (d : ℕ) → value_from n (ds ++ d ∷ []) ≡ value_from n ds * 10 + (d - 48)
value_from-push n [] d = refl
value_from-push n (e ∷ ds) d = value_from-push (n * 10 + (e - 48)) ds d

all_digits-push : (ds : List ℕ) (d : ℕ) → all_digits ds ≡ true → is_digit d ≡ true → all_digits (ds ++ d ∷ []) ≡ true
all_digits-push [] d h e = ap (λ t. t && true) e
all_digits-push (x ∷ ds) d h e =
    let both = and_parts (is_digit x) (all_digits ds) h in
    ap (λ t. t && all_digits (ds ++ d ∷ [])) both.0 ∙ all_digits-push ds d both.1 e

-- what is known of digits so far, whose value wraps
pub record DigitsSoFar (text : List ℕ) (v n : ℕ) : Type 0 where
  pub within : n ≤ length text
  pub digits : all_digits (take n text) ≡ true
  pub value : v ≡ value_from 0 (take n text) % 2 ^ 64

-- one more digit that a text begins with
pub one_more_digit : (text : List ℕ) (v n w : ℕ) → DigitsSoFar text v n → n < length text → is_digit (get_or text n 0) ≡ true
    → w ≡ (v * 10 % 2 ^ 64 + (get_or text n 0 - 48)) % 2 ^ 64 → DigitsSoFar text w (n + 1)
one_more_digit text v n w was room digit value =
    let d = get_or text n 0 in
    let more : take (n + 1) text ≡ take n text ++ d ∷ [] = take_more text n 0 room in
    record {
      within = omega arith;
      digits = subst (λ (xs : List ℕ). all_digits xs ≡ true) (sym more) (all_digits-push (take n text) d was.digits digit);
      value = omega (arith, value, was.value, ap (value_from 0) more, value_from-push 0 (take n text) d);
    }

-- nineteen digits at most do not wrap
pub few_digits_ahead : (text : List ℕ) (v n : ℕ) → DigitsSoFar text v n → n ≤ 19 → BeginsWithDigits text v n
few_digits_ahead text v n is few =
    let long : length (take n text) ≡ n = omega (arith, length-take n text, is.within) in
    let below = subst (λ k. value_from 0 (take n text) < 1 * 10 ^ k) long (value_from_lt 0 1 (take n text) (omega arith) is.digits) in
    let room = pow-le-pow_right {n = 10} (omega arith) {i = n} {j = 19} few in
    let same : v ≡ value_from 0 (take n text) = omega (arith, is.value, below, room) in
    record { within = is.within; few = few; digits = is.digits; value = same; below = omega (arith, same, below) }
