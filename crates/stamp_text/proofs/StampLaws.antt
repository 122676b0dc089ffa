-- Numbers that are capped, and lines of too many pieces.
use Rattle.std.proofs.Common.{◌≡◌, ℕ, ℤ, ◌-◌, ◌<◌, ◌||◌, length, ◌^◌, min, true, false, cond, eqb, List, [], ◌∷◌, Option, None, Some, Result, Err, refl, sym, ap, ◌∙◌, arith}
use Rattle.std.specs.List.{onto_first}
use Rattle.std.specs.Option.{option_map}
use Rattle.std.proofs.lemmas.Bool.Decides.{nat_tests}
use Rattle.stamp_text.specs.Digits.{number_in}
use Rattle.stamp_text.specs.Times.{time_in}
use Rattle.stamp_text.specs.declared.lines.Stamp.{Stamp}
use Rattle.stamp_text.specs.declared.lines.Why.{Why}
use Rattle.stamp_text.specs.declared.lines.Why.TheVariants as why
use Rattle.stamp_text.specs.declared.numbers.Written.{Written}
use Rattle.stamp_text.specs.Stamps.{with_rest, pieces_of, is_empty, stamp_within, stamp_of_numbers, stamp_of_pieces, stamp_in}
use Rattle.stamp_text.specs.Items.{set_of, leap_of, two_of}
use Rattle.stamp_text.specs.Times.{capped}

-- there is always a piece
pub some_piece : (xs : List ℕ) → (p : List ℕ) × (ps : List (List ℕ)) × (pieces_of xs ≡ p ∷ ps)
some_piece [] = ([], [], refl)
some_piece (x ∷ xs) =
    let rest = some_piece xs in
    elim (eqb x 32) as (λ t. (p : List ℕ) × (ps : List (List ℕ)) × (cond t ([] ∷ pieces_of xs) (onto_first x (pieces_of xs)) ≡ p ∷ ps)) [
      | true ↦ ([], pieces_of xs, refl)
      | false ↦ (x ∷ rest.0, rest.1, ap (onto_first x) rest.2)
    ]

-- more than two pieces are not two
pub not_two : {b : List ℕ} (a text behind : List ℕ) → pieces_of text ≡ b ∷ pieces_of behind → two_of (a ∷ pieces_of text) ≡ None
not_two {b} a text behind e =
    let some = some_piece behind in
    let three : pieces_of text ≡ b ∷ some.0 ∷ some.1 = cc (some.2) in
    ap (λ (ps : List (List ℕ)). two_of (a ∷ ps)) three

-- six pieces that are not empty
pub six_told : (a b c d e f : List ℕ) (r : Result Stamp Why) → (is_empty a || is_empty b || is_empty c) ≡ false → 0 < length d → 0 < length e
    → 0 < length f → r ≡ stamp_of_numbers (number_in a) (time_in b) (time_in c) (number_in d) (number_in e) (number_in f)
    → r ≡ stamp_of_pieces (a ∷ b ∷ c ∷ d ∷ e ∷ f ∷ [])
six_told a b c [] e f r front hd he hf is = absurd (omega arith)
six_told a b c (d ∷ ds) [] f r front hd he hf is = absurd (omega arith)
six_told a b c (d ∷ ds) (e ∷ es) [] r front hd he hf is = absurd (omega arith)
six_told a b c (d ∷ ds) (e ∷ es) (f ∷ fs) r front hd he hf is =
    is ∙ sym (ap (λ t. cond (t || false || false || false) (Err why.Columns)
    (stamp_of_numbers (number_in a) (time_in b) (time_in c) (number_in (d ∷ ds)) (number_in (e ∷ es)) (number_in (f ∷ fs)))) front)

-- more than four pieces are too many
pub too_many : (a b c d e : List ℕ) (more : List (List ℕ)) → stamp_of_pieces (with_rest (a ∷ b ∷ c ∷ d ∷ e ∷ more)) ≡ Err why.Columns
too_many a b c d e [] = refl
too_many a b c d e (f ∷ []) = refl
too_many a b c d e (f ∷ g ∷ more) = refl

-- a line of four pieces and what is behind a fourth space
pub five_pieces : {a b c d : List ℕ} (line behind_a behind_b behind_c behind_d : List ℕ) → pieces_of line ≡ a ∷ pieces_of behind_a
    → pieces_of behind_a ≡ b ∷ pieces_of behind_b → pieces_of behind_b ≡ c ∷ pieces_of behind_c → pieces_of behind_c ≡ d ∷ pieces_of behind_d
    → Err why.Columns ≡ stamp_in line
unfolding stamp_in
five_pieces {a} {b} {c} {d} line behind_a behind_b behind_c behind_d e f g h =
    let some = some_piece behind_d in
    let five : pieces_of line ≡ a ∷ b ∷ c ∷ d ∷ some.0 ∷ some.1 = cc (some.2) in
    sym (ap (λ (ps : List (List ℕ)). stamp_of_pieces (with_rest ps)) five ∙ too_many a b c d some.0 some.1)

-- a first piece, four more and what is behind a further space
pub seven_pieces : {a b c d e : List ℕ} (first rest behind_a behind_b behind_c behind_d behind_e : List ℕ) → pieces_of rest ≡ a ∷ pieces_of behind_a
    → pieces_of behind_a ≡ b ∷ pieces_of behind_b → pieces_of behind_b ≡ c ∷ pieces_of behind_c → pieces_of behind_c ≡ d ∷ pieces_of behind_d
    → pieces_of behind_d ≡ e ∷ pieces_of behind_e → Err why.Columns ≡ stamp_of_pieces (first ∷ pieces_of rest)
seven_pieces {a} {b} {c} {d} {e} first rest behind_a behind_b behind_c behind_d behind_e f g h i j =
    let some = some_piece behind_e in
    let seven : pieces_of rest ≡ a ∷ b ∷ c ∷ d ∷ e ∷ some.0 ∷ some.1 = cc (some.2) in
    sym (ap (λ (ps : List (List ℕ)). stamp_of_pieces (first ∷ ps)) seven)

-- numbers that are capped are out of range alike
within_capped : (a : ℕ) (b c : Written) (d e f : ℕ) → stamp_within (min a (2 ^ 64 - 1)) (capped b) (capped c) (min d (2 ^ 64 - 1))
    (min e (2 ^ 64 - 1)) (min f (2 ^ 64 - 1)) ≡ stamp_within a b c d e f
within_capped a b c d e f = grind (arith, nat_tests)

-- numbers that are capped make the same stamp
pub numbers_capped : (a : Option ℕ) (b c : Option Written) (d e f : Option ℕ) → stamp_of_numbers (option_map (λ n. min n (2 ^ 64 - 1)) a)
    (option_map capped b) (option_map capped c) (option_map (λ n. min n (2 ^ 64 - 1)) d) (option_map (λ n. min n (2 ^ 64 - 1)) e)
    (option_map (λ n. min n (2 ^ 64 - 1)) f) ≡ stamp_of_numbers a b c d e f
numbers_capped (Some a) (Some b) (Some c) (Some d) (Some e) (Some f) = within_capped a b c d e f
numbers_capped None b c d e f = refl
numbers_capped (Some a) None c d e f = refl
numbers_capped (Some a) (Some b) None d e f = refl
numbers_capped (Some a) (Some b) (Some c) None e f = refl
numbers_capped (Some a) (Some b) (Some c) (Some d) None f = refl
numbers_capped (Some a) (Some b) (Some c) (Some d) (Some e) None = refl

-- a set whose numbers are capped is the same
pub set_capped : (count : Option ℕ) (at : Option Written) → set_of (option_map (λ n. min n (2 ^ 64 - 1)) count) (option_map capped at) ≡ set_of count at
set_capped (Some count) (Some at) = grind (arith, nat_tests)
set_capped None at = refl
set_capped (Some count) None = refl

-- so is a leap second
pub leap_capped : (count : Option ℕ) (leap : Option ℤ) → leap_of (option_map (λ n. min n (2 ^ 64 - 1)) count) leap ≡ leap_of count leap
leap_capped (Some count) (Some leap) = grind (arith, nat_tests)
leap_capped None leap = refl
leap_capped (Some count) None = refl
