-- What more bytes behind a unit do to its fields.
use Rattle.std.proofs.Common.{◌≡◌, ◌⊎◌, inl, inr, ⊎_elim, ℕ, ◌+◌, ◌-◌, ◌^◌, ◌<◌, ◌≤◌, ◌&&◌, not, min, Bool, true, false, cond, leb, ltb, None, Some, Option, List, [], ◌∷◌, ◌++◌, length, take, drop, slice_range, refl, sym, ap, ◌∙◌, arith, length-append, length-take}
use Rattle.std.proofs.lemmas.Bool.{cases_lt}
use Rattle.std.proofs.lemmas.Bool.Decides.{nat_tests}
use Rattle.std.proofs.lemmas.List.{take-append-le, drop-append-le, length-drop, take-append-drop, take_all, get_or_append_left}
use Rattle.ntp_capture.specs.Cut.{packet_length, size_of}
use Rattle.ntp_capture.specs.Grammar.{Field, mark_field, freq_field, counter_field, direction_field, length_field, fields_of, is_refused, first_refused, refusal_in, piece_in, freq_in, is_freq, counter_in}
use Rattle.ntp_capture.specs.Kept.{IsPieceInRange}
use Rattle.stamp_text.specs.Format.{least_freq, greatest_freq}
use Rattle.ntp_capture.specs.Steps.{field_end}
use Rattle.ntp_capture.specs.declared.pieces.CapWhy.{CapWhy}

-- a part that is there stays, whatever comes behind
pub range-more : (u v : List ℕ) (i j : ℕ) → i ≤ j → j ≤ length u → slice_range (u ++ v) i j ≡ slice_range u i j
range-more u v i j order here =
    ap (take (j - i)) (drop-append-le i u v (omega arith)) ∙ take-append-le (j - i) (drop i u) v (omega (arith, length-drop i u))

-- so does what a whole field says
pub field-more : (f : Field) (u v : List ℕ) → f.first ≤ f.behind → f.behind ≤ length u → is_refused f (u ++ v) ≡ is_refused f u
field-more f u v order here =
    let longer : leb f.behind (length (u ++ v)) ≡ true = let n = length-append u v in grind (arith, nat_tests) in
    let there : leb f.behind (length u) ≡ true = grind (arith, nat_tests) in
    let same : slice_range (u ++ v) f.first f.behind ≡ slice_range u f.first f.behind = range-more u v f.first f.behind order here in
    ap (λ t. t && f.refuses (slice_range (u ++ v) f.first f.behind)) longer ∙ ap f.refuses same
    ∙ sym (ap (λ t. t && f.refuses (slice_range u f.first f.behind)) there)

-- a field that is not whole is not refused
pub field-early : (f : Field) (u : List ℕ) → length u < f.behind → is_refused f u ≡ false
field-early f u early =
    let none : leb f.behind (length u) ≡ false = grind (arith, nat_tests) in
    ap (λ t. t && f.refuses (slice_range u f.first f.behind)) none

-- no field ends among the bytes that come behind
pub field-quiet : (f : Field) (u v : List ℕ) → f.first ≤ f.behind → (f.behind ≤ length u) ⊎ (length u + length v < f.behind)
    → is_refused f (u ++ v) ≡ is_refused f u
field-quiet f u v order = elim [
  | inl here ↦ field-more f u v order here
  | inr early ↦ field-early f (u ++ v) (omega (arith, early, length-append u v)) ∙ sym (field-early f u (omega (arith, early)))
]

abbrev SameAll : List Field → List ℕ → List ℕ → Type 0
SameAll [] u w = Unit {0}
SameAll (f ∷ fs) u w = (is_refused f w ≡ is_refused f u) × SameAll fs u w

first-same : (fs : List Field) (u w : List ℕ) → SameAll fs u w → first_refused fs w ≡ first_refused fs u
first-same [] u w same = refl
first-same (f ∷ fs) u w same =
    ap (λ t. cond t (Some (f.first, f.why)) (first_refused fs w)) same.0 ∙ ap (λ r. cond (is_refused f u) (Some (f.first, f.why)) r) (first-same fs u w same.1)

-- where no field ends, nothing new is refused
pub refusal-quiet : (h : Bool) (u v : List ℕ) → length u + length v < field_end h (length u) (size_of h u) → refusal_in h (u ++ v) ≡ refusal_in h u
unfolding refusal_in size_of
refusal-quiet true u v inner =
    let by : (n : ℕ) → (n ≡ 8) ⊎ (n ≡ 16) → (n ≤ length u) ⊎ (length u + length v < n) = λ n is. grind (arith, nat_tests) in
    first-same (fields_of true) u (u ++ v) (
      field-quiet mark_field u v (omega arith) (by 8 (inl refl)),
      (field-quiet freq_field u v (omega arith) (by 16 (inr refl)), tt),
    )
refusal-quiet false u v inner =
    let by : (n : ℕ) → (n ≡ 8) ⊎ ((n ≡ 9) ⊎ (n ≡ 11)) → (n ≤ length u) ⊎ (length u + length v < n) = λ n is. grind (arith, nat_tests) in
    first-same (fields_of false) u (u ++ v) (
      field-quiet counter_field u v (omega arith) (by 8 (inl refl)),
      (field-quiet direction_field u v (omega arith) (by 9 (inr (inl refl))), (field-quiet length_field u v (omega arith) (by 11 (inr (inr refl))), tt)),
    )

-- where all fields are there, nothing changes
pub refusal-long : (h : Bool) (u v : List ℕ) → 16 ≤ length u → refusal_in h (u ++ v) ≡ refusal_in h u
unfolding refusal_in
refusal-long true u v here =
    let by : (f : Field) → f.first ≤ f.behind → f.behind ≤ 16 → is_refused f (u ++ v) ≡ is_refused f u = λ f order low. field-more f u v order (omega arith) in
    first-same (fields_of true) u (u ++ v) (by mark_field (omega arith) (omega arith), (by freq_field (omega arith) (omega arith), tt))
refusal-long false u v here =
    let by : (f : Field) → f.first ≤ f.behind → f.behind ≤ 16 → is_refused f (u ++ v) ≡ is_refused f u = λ f order low. field-more f u v order (omega arith) in
    first-same (fields_of false) u (u ++ v) (
      by counter_field (omega arith) (omega arith),
      (by direction_field (omega arith) (omega arith), (by length_field (omega arith) (omega arith), tt)),
    )

pub size-long : (h : Bool) (u v : List ℕ) → 11 ≤ length u → size_of h (u ++ v) ≡ size_of h u
unfolding size_of
size-long true u v here = refl
size-long false u v here =
    let longer : ltb (length (u ++ v)) 11 ≡ false = let n = length-append u v in grind (arith, nat_tests) in
    let there : ltb (length u) 11 ≡ false = grind (arith, nat_tests) in
    rw (longer, there, range-more u v 9 11 (omega arith) here) refl

pub size-some : (h : Bool) (u : List ℕ) → 11 ≤ size_of h u
unfolding size_of
size-some true u = omega arith
size-some false u = grind (arith, nat_tests)

-- the size of a unit that is there stays
pub size-more : (h : Bool) (u v : List ℕ) → size_of h u ≤ length u → size_of h (u ++ v) ≡ size_of h u
size-more h u v here = size-long h u v (omega (arith, size-some h u))

pub piece-long : (h : Bool) (u v : List ℕ) → 59 ≤ length u → piece_in h (u ++ v) ≡ piece_in h u
unfolding piece_in
piece-long true u v here = rw (range-more u v 8 16 (omega arith) (omega arith)) refl
piece-long false u v here = rw (
  range-more u v 0 8 (omega arith) (omega arith),
  get_or_append_left u v 0 8 (omega arith),
  range-more u v 11 59
      (omega arith) here,
) refl

-- what is said of the first bytes that are kept
pub at-front : {X : Type 0} (F : List ℕ → X) → ((u v : List ℕ) → 59 ≤ length u → F (u ++ v) ≡ F u) → (u : List ℕ) → F (take 59 u) ≡ F u
at-front F more u = ⊎_elim (λ long. sym (ap F (sym (take-append-drop 59 u)) ∙ more (take 59 u) (drop 59 u) (omega (arith, length-take 59 u))))
    (λ short. ap F (take_all 59 u short)) (cases_lt 59 (length u))

-- what is refused once stays refused
abbrev Later : ℕ → List Field → Type 0
Later n [] = Unit {0}
Later n (f ∷ fs) = (f.first ≤ f.behind) × (n ≤ f.behind) × Later f.behind fs

first-early : (n : ℕ) (fs : List Field) (u : List ℕ) → Later n fs → length u < n → first_refused fs u ≡ None
first-early n [] u later early = refl
first-early n (f ∷ fs) u later early =
    ap (λ t. cond t (Some (f.first, f.why)) (first_refused fs u)) (field-early f u (omega (arith, later.1)))
    ∙ first-early f.behind fs u later.2 (omega (arith, later.1))

first-stays : (n : ℕ) (fs : List Field) (u v : List ℕ) (r : ℕ × CapWhy) → Later n fs → first_refused fs u ≡ Some r → first_refused fs (u ++ v) ≡ Some r
first-stays n [] u v r later e = absurd (cc)
first-stays n (f ∷ fs) u v r later e =
    ⊎_elim
    (λ early. let none : first_refused (f ∷ fs) u ≡ None = first-early f.behind (f ∷ fs) u (later.0, omega arith, later.2) early in absurd (cc))
    (λ here.
    let same : is_refused f (u ++ v) ≡ is_refused f u = field-more f u v later.0 here in
    let split : (t : Bool) → is_refused f u ≡ t → cond t (Some (f.first, f.why)) (first_refused fs u) ≡ Some r
    → cond t (Some (f.first, f.why)) (first_refused fs (u ++ v)) ≡ Some r =
    elim [
      | true ↦ λ is e. e
      | false ↦ λ is e. first-stays f.behind fs u v r later.2 e
    ] in
    ap (λ t. cond t (Some (f.first, f.why)) (first_refused fs (u ++ v))) same ∙ split (is_refused f u) refl e)
    (cases_lt (length u) f.behind)

pub refusal-stays : (h : Bool) (u v : List ℕ) (r : ℕ × CapWhy) → refusal_in h u ≡ Some r → refusal_in h (u ++ v) ≡ Some r
unfolding refusal_in
refusal-stays true u v r e = first-stays 0 (fields_of true) u v r (omega arith, omega arith, (omega arith, omega arith, tt)) e
refusal-stays false u v r e = first-stays 0 (fields_of false) u v r (omega arith, omega arith, (omega arith, omega arith, (omega arith, omega arith, tt))) e

-- so the front of what is not refused is not refused
pub refusal-front : (h : Bool) (u v : List ℕ) → refusal_in h (u ++ v) ≡ None → refusal_in h u ≡ None
refusal-front h u v none =
    let split : (r : Option (ℕ × CapWhy)) → refusal_in h u ≡ r → r ≡ None =
    elim [
      | None ↦ λ e. refl
      | Some r ↦ λ e. let stays = refusal-stays h u v r e in absurd (cc)
    ] in
    split (refusal_in h u) refl

-- where none of some fields is refused, each of them is not
abbrev NoneRefused : List Field → List ℕ → Type 0
NoneRefused [] u = Unit {0}
NoneRefused (f ∷ fs) u = (is_refused f u ≡ false) × NoneRefused fs u

none-refused : (fs : List Field) (u : List ℕ) → first_refused fs u ≡ None → NoneRefused fs u
none-refused [] u e = tt
none-refused (f ∷ fs) u e =
    let split : (t : Bool) → is_refused f u ≡ t → cond t (Some (f.first, f.why)) (first_refused fs u) ≡ None → NoneRefused (f ∷ fs) u =
    elim [
      | true ↦ λ is e. absurd (cc)
      | false ↦ λ is e. (is, none-refused fs u e)
    ] in
    split (is_refused f u) refl e

-- a record that is not refused has a whole packet
pub sound-packet : (u : List ℕ) → refusal_in false u ≡ None → 11 ≤ length u → 59 ≤ size_of false u
unfolding refusal_in size_of
sound-packet u none long =
    let there : ltb (length u) 11 ≡ false = grind (arith, nat_tests) in
    let whole : leb 11 (length u) ≡ true = grind (arith, nat_tests) in
    let all = none-refused (fields_of false) u none in
    let last : is_refused length_field u ≡ false = all.1.1.0 in
    let enough : ltb (packet_length u) 48 ≡ false = sym (ap (λ t. t && ltb (packet_length u) 48) whole) ∙ last in
    let n : 48 ≤ packet_length u = grind (arith, nat_tests) in
    rw there (omega arith)

-- what is not refused is in range
pub piece-in-range : (h : Bool) (u : List ℕ) → refusal_in h u ≡ None → 16 ≤ length u → IsPieceInRange (piece_in h u)
unfolding refusal_in piece_in
piece-in-range true u none long =
    let whole : leb 16 (length u) ≡ true = grind (arith, nat_tests) in
    let all = none-refused (fields_of true) u none in
    let last : is_refused freq_field u ≡ false = all.1.0 in
    let within : not (is_freq (freq_in u)) ≡ false = sym (ap (λ t. t && not (is_freq (freq_in u))) whole) ∙ last in
    let n = freq_in u in
    let low : least_freq ≤ n = grind (arith, nat_tests) in
    let high : n ≤ greatest_freq = grind (arith, nat_tests) in
    (low, high)
piece-in-range false u none long =
    let whole : leb 8 (length u) ≡ true = grind (arith, nat_tests) in
    let all = none-refused (fields_of false) u none in
    let first : is_refused counter_field u ≡ false = all.0 in
    let within : leb (2 ^ 62) (counter_in u) ≡ false = sym (ap (λ t. t && leb (2 ^ 62) (counter_in u)) whole) ∙ first in
    grind (arith, nat_tests)

-- of a whole unit that is not refused, all fields are kept
pub kept-long : (h : Bool) (u : List ℕ) (seen : ℕ) → refusal_in h u ≡ None → size_of h u ≤ seen → length u ≡ min seen 59 → 16 ≤ length u
unfolding size_of
kept-long true u seen none whole fits = omega arith
kept-long false u seen none whole fits =
    let some = size-some false u in
    omega (arith, sound-packet u none (omega arith))
