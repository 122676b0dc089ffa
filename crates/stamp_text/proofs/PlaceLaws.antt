-- The first byte of a kind in a text, and what it cuts the text into.
use Rattle.std.proofs.Common.{get_or, ◌≡◌, ℕ, ◌+◌, ◌^◌, ◌-◌, ◌<◌, ◌≤◌, ◌||◌, ◌==◌, Bor, MatchOption, IfNone, IfSome, OnSome, not, min, Bool, true, false, cond, ltb, List, [], ◌∷◌, Option, None, Some, length, refl, sym, ap, ◌∙◌, arith}
use Rattle.std.specs.List.{list_any, position, position_or_len, before_first, after_first, slice_split}
use Rattle.std.specs.Option.{option_map}
use Rattle.std.proofs.lemmas.Bool.{false_from_ne_true}
use Rattle.std.proofs.lemmas.Bool.Decides.{nat_tests}
use Rattle.std.proofs.lemmas.List.Splits.{slice_split_none, slice_split_first}
use Rattle.std.proofs.lemmas.List.Sums.{prefix_len-le-length, fails_before_first, position_or_len_is}
use Rattle.memchr.specs.Find.{IsFirstByte}
use Rattle.stamp_text.specs.Digits.{number_in}
use Rattle.stamp_text.specs.Stamps.{pieces_of}
use Rattle.stamp_text.specs.Times.{is_point, nanos_in, written_of, time_in, capped}

-- where no place is found, the first place is the length
pub place_none : (p : ℕ → Bool) (xs : List ℕ) → position p xs ≡ None → position_or_len p xs ≡ length xs
place_none p xs h =
    let few = prefix_len-le-length (λ x. not (p x)) xs in
    let split : (t : Bool) (i : ℕ) → t ≡ ltb i (length xs) → i ≤ length xs → cond t (Some i) None ≡ None → i ≡ length xs =
    elim [ true ↦ λ i e le none. absurd (cc) | false ↦ λ i e le none. grind (arith, nat_tests) ] in
    split (ltb (position_or_len p xs) (length xs)) (position_or_len p xs) refl few h

-- a text with no such byte is one piece
one_piece : (p : ℕ → Bool) (xs : List ℕ) → position_or_len p xs ≡ length xs → slice_split p xs ≡ xs ∷ []
one_piece p xs h = slice_split_none p xs (λ k d below. fails_before_first p xs k d (omega arith))

-- the first piece of a text that is cut at a space, and the rest
pub cut_pieces : (text : List ℕ) (r : Option (Bor (List ℕ) × Bor (List ℕ))) → IfNone r (position_or_len (λ b. b == 32) text ≡ length text)
    → OnSome r (position_or_len (λ b. b == 32) text < length text) → IfSome r (λ parts. parts.0.now ≡ before_first (λ b. b == 32) text)
    → IfSome r (λ parts. parts.1.now ≡ after_first (λ b. b == 32) text)
    → MatchOption r (pieces_of text ≡ text ∷ []) (λ p. pieces_of text ≡ p.0.now ∷ pieces_of p.1.now)
cut_pieces text None none found before behind = one_piece (λ b. b == 32) text none
cut_pieces text (Some p) none found before behind = let first = slice_split_first (λ b. b == 32) text 0 found in cc (before, behind)

-- a text has such a byte where the first of them has a place
any_placed : (p : ℕ → Bool) (xs : List ℕ) → list_any p xs ≡ ltb (position_or_len p xs) (length xs)
any_placed p [] = refl
any_placed p (x ∷ xs) = elim (p x) as (λ t. (t || list_any p xs) ≡ ltb (cond (not t) (1 + position_or_len p xs) 0) (length (x ∷ xs))) [
  | true ↦ grind (arith, nat_tests)
  | false ↦ any_placed p xs ∙ grind (arith, nat_tests)
]

-- a time without a point
pub time_whole : (text : List ℕ) → position_or_len is_point text ≡ length text → time_in text ≡ written_of (number_in text) (Some 0)
time_whole text h =
    let none : list_any is_point text ≡ false = any_placed is_point text ∙ grind (arith, nat_tests) in
    ap (λ t. cond t (written_of (number_in (before_first is_point text)) (nanos_in (after_first is_point text))) (written_of (number_in text) (Some 0))) none

-- a time with a point
pub time_cut : (text whole fraction : List ℕ) → position_or_len is_point text < length text → whole ≡ before_first is_point text
    → fraction ≡ after_first is_point text → time_in text ≡ written_of (number_in whole) (nanos_in fraction)
time_cut text whole fraction h before after =
    let some : list_any is_point text ≡ true = any_placed is_point text ∙ grind (arith, nat_tests) in
    ap (λ t. cond t (written_of (number_in (before_first is_point text)) (nanos_in (after_first is_point text)))
    (written_of (number_in text) (Some 0))) some ∙ ap (λ t. written_of (number_in t) (nanos_in (after_first is_point text))) (sym before)
    ∙ ap (λ t. written_of (number_in whole) (nanos_in t)) (sym after)

-- seconds that are capped are so in the time
written_capped : (sec nanos : Option ℕ) → written_of (option_map (λ n. min n (2 ^ 64 - 1)) sec) nanos ≡ option_map capped (written_of sec nanos)
written_capped None nanos = refl
written_capped (Some sec) None = refl
written_capped (Some sec) (Some nanos) = refl

-- the time of a text by its seconds, capped, and its nanoseconds
pub time_told : (text whole : List ℕ) (sec nanos told : Option ℕ) → time_in text ≡ written_of (number_in whole) nanos
    → sec ≡ option_map (λ n. min n (2 ^ 64 - 1)) (number_in whole) → told ≡ nanos → written_of sec told ≡ option_map capped (time_in text)
time_told text whole sec nanos told time e f = ap (λ s. written_of s told) e
    ∙ ap (written_of (option_map (λ n. min n (2 ^ 64 - 1)) (number_in whole))) f ∙ written_capped (number_in whole) nanos ∙ ap (option_map capped) (sym time)

-- the first place that passes a test, as a search answers it
pub first_place : (p : ℕ → Bool) (xs : List ℕ) (r : Option ℕ) → IsFirstByte p xs r → r ≡ position p xs
first_place p xs None h =
    let none : position_or_len p xs ≡ length xs = position_or_len_is p xs (length xs) 0 (omega arith)
    (λ k below. false_from_ne_true (p (get_or xs k 0)) (h k (omega arith) below)) (λ no. absurd (omega arith)) in
    let past : ltb (position_or_len p xs) (length xs) ≡ false = grind (arith, nat_tests) in
    sym (ap (λ t. cond t (Some (position_or_len p xs)) None) past)
first_place p xs (Some k) h =
    let first = h.0 in
    let here : position_or_len p xs ≡ k = position_or_len_is p xs k 0 (omega (arith, first.high))
    (λ j below. false_from_ne_true (p (get_or xs j 0)) (first.before j (omega arith) below)) (λ within. h.1) in
    let high = first.high in
    let within : ltb (position_or_len p xs) (length xs) ≡ true = grind (arith, nat_tests) in
    sym (ap (λ t. cond t (Some (position_or_len p xs)) None) within ∙ ap (λ n. Some n) here)
