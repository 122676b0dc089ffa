-- What the grammar of stamp files says of the file that a capture becomes.
use Rattle.std.proofs.Common.{◌≡◌, ℕ, ◌+◌, ◌<◌, ◌≤◌, ◌^◌, true, false, cond, ltb, eqb, None, Some, Ok, Err, List, [], ◌∷◌, ◌++◌, length, map, codes, decimal, refl, ap, ◌∙◌, append_assoc, length-append, arith}
use Rattle.std.specs.List.{All, concat, list_all}
use Rattle.std.proofs.lemmas.Bool.{and_parts}
use Rattle.std.proofs.lemmas.Bool.Decides.{nat_tests}
use Rattle.std.proofs.lemmas.Fmt.{length-decimal-le}
use Rattle.std.proofs.lemmas.List.Elements.{All-head, All-tail, All-cons}
use Rattle.std.proofs.lemmas.List.Splits.{slice_split_at}
use Rattle.stamp_text.specs.Cut.{parts_of, with_last, file_lines}
use Rattle.stamp_text.proofs.CutLaws.{ended_by, open_by}
use Rattle.stamp_text.specs.Format.{least_freq, greatest_freq}
use Rattle.stamp_text.specs.Grammar.{line_says, text_says, head_of, freq_within, given_on, given_from, fault_on, fault_from, first_fault, missing, faults, gives_all, fault_of_file, given_of_file}
use Rattle.stamp_text.specs.declared.lines.Line.TheVariants as gives
use Rattle.stamp_text.specs.declared.lines.Why.TheVariants as why
use Rattle.report_text.proofs.Digits.{number_in-decimal}
use Rattle.capture_text.specs.Files.{answer_text, stamp_lines}
use Rattle.capture_text.specs.ReadBack.{IsAnswerInRange, stamp_of_exchange, stamps_from, stamp_file_gives}
use Rattle.capture_text.specs.Text.{version_text, freq_text, exchange_row, exchange_text, unused_text}
use Rattle.capture_text.specs.declared.inputs.Answer.{Answer}
use Rattle.capture_text.specs.declared.inputs.Answer.TheVariants as answer
use Rattle.report_text.proofs.ReadBack.{decimal-differs}
use Rattle.capture_text.proofs.ReadBack.{row-differs, as_it_stands, line_says-row, line_says-comment}

-- a comment and the line of the frequency, without their line ends
abbrev unused_row : ℕ → List ℕ
unused_row n = codes "# unused " ++ decimal n

abbrev freq_row : ℕ → List ℕ
freq_row freq = codes "freq " ++ decimal freq

abbrev answer_row : Answer → List ℕ
answer_row (answer.Unused n) = unused_row n
answer_row (answer.Exchange e) = exchange_row e

-- a word of bytes from 32 on, in front of others, has no byte below
word-differs : (c : ℕ) (word ds : List ℕ) → list_all (ltb 31) word ≡ true → c < 32 → All (λ b. eqb b c ≡ false) ds → All (λ b. eqb b c ≡ false) (word ++ ds)
word-differs c [] ds high low all = all
word-differs c (x ∷ xs) ds high low all =
    let both = and_parts (ltb 31 x) (list_all (ltb 31) xs) high in
    let here : eqb x c ≡ false = grind (arith, nat_tests, both.0) in
    All-cons (λ b. eqb b c ≡ false) x (xs ++ ds) here (word-differs c xs ds both.1 low all)

-- a byte below all that are written in the lines
unused-differs : (c n : ℕ) → c < 32 → n < 2 ^ 64 → All (λ b. eqb b c ≡ false) (unused_row n)
unused-differs c n low fits = word-differs c (codes "# unused ") (decimal n) refl low (decimal-differs c n (omega arith) fits)

freq-differs : (c n : ℕ) → c < 32 → n < 2 ^ 64 → All (λ b. eqb b c ≡ false) (freq_row n)
freq-differs c n low fits = word-differs c (codes "freq ") (decimal n) refl low (decimal-differs c n (omega arith) fits)

answer-differs : (c : ℕ) (a : Answer) → c < 32 → eqb 46 c ≡ false → eqb 32 c ≡ false → IsAnswerInRange a → All (λ b. eqb b c ≡ false) (answer_row a)
answer-differs c (answer.Unused n) low point space is = unused-differs c n low is
answer-differs c (answer.Exchange e) low point space is = row-differs c e (omega arith) point space is

-- an answer's line is its row and a line end
ends_its_line : (a : Answer) → answer_text a ≡ answer_row a ++ 10 ∷ []
unfolding unused_text exchange_text
ends_its_line (answer.Unused n) = refl
ends_its_line (answer.Exchange e) = refl

-- a row that ends its line, in front of a text
parts_of-row : (row more : List ℕ) → All (λ b. eqb b 10 ≡ false) row → parts_of ((row ++ 10 ∷ []) ++ more) ≡ row ∷ parts_of more
parts_of-row row more differs = ap parts_of (append_assoc row (10 ∷ []) more) ∙ slice_split_at (λ b. eqb b 10) row 10 more differs refl

parts_of-answers : (answers : List Answer) → All IsAnswerInRange answers → parts_of (concat (map answer_text answers)) ≡ map answer_row answers ++ [] ∷ []
parts_of-answers [] all = refl
parts_of-answers (a ∷ later) all =
    let more = concat (map answer_text later) in
    ap (λ (line : List ℕ). parts_of (line ++ more)) (ends_its_line a)
    ∙ parts_of-row (answer_row a) more (answer-differs 10 a (omega arith) refl refl (All-head IsAnswerInRange a later all))
    ∙ ap (λ ps. answer_row a ∷ ps) (parts_of-answers later (All-tail IsAnswerInRange a later all))

-- the rows of the file
abbrev rows_of : ℕ → List Answer → List (List ℕ)
rows_of freq answers = codes "radclock-stamps 2" ∷ freq_row freq ∷ map answer_row answers

parts_of-file : (freq : ℕ) (answers : List Answer) → freq < 2 ^ 64 → All IsAnswerInRange answers → parts_of (concat (stamp_lines freq answers)) ≡ rows_of freq answers ++ [] ∷ []
unfolding stamp_lines version_text freq_text
parts_of-file freq answers fits all =
    let more = concat (map answer_text answers) in
    ap (λ ps. codes "radclock-stamps 2" ∷ ps)
    (parts_of-row (freq_row freq) more (freq-differs 10 freq (omega arith) fits) ∙ ap (λ ps. freq_row freq ∷ ps) (parts_of-answers answers all))

file_lines-capture : (freq : ℕ) (answers : List Answer) → freq < 2 ^ 64 → All IsAnswerInRange answers → file_lines (concat (stamp_lines freq answers)) ≡ rows_of freq answers
file_lines-capture freq answers fits all =
    let text : List ℕ = concat (stamp_lines freq answers) in
    let lines = rows_of freq answers in
    let parts = parts_of-file freq answers fits all in
    λ k. with_last (ended_by text lines [] parts k) (open_by text lines [] parts k)

-- line 2
number-length : (n : ℕ) → n < 2 ^ 64 → length (decimal n) ≤ 20
number-length n fits = length-decimal-le 20 n (omega arith) (omega arith) (omega arith)

within-freq : (freq : ℕ) → least_freq ≤ freq → freq ≤ greatest_freq → freq_within (Some freq) ≡ Some freq
within-freq freq low high = grind (arith, nat_tests)

line_says-freq : (freq : ℕ) → least_freq ≤ freq → freq ≤ greatest_freq → line_says true 2 (freq_row freq) ≡ Ok (Some (gives.Head (record { version = 2; freq = freq })))
line_says-freq freq low high =
    let fits : freq < 2 ^ 64 = omega arith in
    let size = number-length freq fits in
    let short : ltb 255 (length (freq_row freq)) ≡ false = grind (arith, nat_tests, length-append (codes "freq ") (decimal freq)) in
    let whole = as_it_stands (freq_row freq) (freq-differs 13 freq (omega arith) fits) in
    (λ k. cond (short k) (Err why.LongLine) (text_says true 2 (whole k)))
    ∙ ap (λ n. head_of true (freq_within n)) (number_in-decimal freq fits)
    ∙ ap (head_of true) (within-freq freq low high)

-- a line from 3 on
unused-length : (n : ℕ) → n < 2 ^ 64 → length (unused_row n) ≤ 255
unused-length n fits = omega (arith, number-length n fits, length-append (codes "# unused ") (decimal n))

given_from-rows : (n : ℕ) (answers : List Answer) → 3 ≤ n → All IsAnswerInRange answers → given_from true n (map answer_row answers) ≡ stamps_from n answers
given_from-rows n [] behind all = refl
given_from-rows n (answer.Unused index ∷ later) behind all =
    let is = All-head IsAnswerInRange (answer.Unused index) later all in
    ap (λ r. given_on r (given_from true (n + 1) (map answer_row later)))
    (line_says-comment n (unused_row index) behind (unused-length index is) (unused-differs 13 index (omega arith) is) refl)
    ∙ given_from-rows (n + 1) later (omega arith) (All-tail IsAnswerInRange (answer.Unused index) later all)
given_from-rows n (answer.Exchange e ∷ later) behind all =
    let is = All-head IsAnswerInRange (answer.Exchange e) later all in
    ap (λ r. given_on r (given_from true (n + 1) (map answer_row later))) (line_says-row e n is behind)
    ∙ ap (λ xs. gives.Stamp n (stamp_of_exchange e) ∷ xs) (given_from-rows (n + 1) later (omega arith) (All-tail IsAnswerInRange (answer.Exchange e) later all))

fault_from-rows : (n : ℕ) (answers : List Answer) → 3 ≤ n → All IsAnswerInRange answers → fault_from true n (map answer_row answers) ≡ None
fault_from-rows n [] behind all = refl
fault_from-rows n (answer.Unused index ∷ later) behind all =
    let is = All-head IsAnswerInRange (answer.Unused index) later all in
    ap (λ r. fault_on n r (fault_from true (n + 1) (map answer_row later)))
    (line_says-comment n (unused_row index) behind (unused-length index is) (unused-differs 13 index (omega arith) is) refl)
    ∙ fault_from-rows (n + 1) later (omega arith) (All-tail IsAnswerInRange (answer.Unused index) later all)
fault_from-rows n (answer.Exchange e ∷ later) behind all =
    let is = All-head IsAnswerInRange (answer.Exchange e) later all in
    ap (λ r. fault_on n r (fault_from true (n + 1) (map answer_row later))) (line_says-row e n is behind)
    ∙ fault_from-rows (n + 1) later (omega arith) (All-tail IsAnswerInRange (answer.Exchange e) later all)

-- two lines are enough
missing-enough : (n : ℕ) → 2 ≤ n → missing n ≡ None
missing-enough n enough = grind (arith, nat_tests)

-- the file is in the grammar
pub fault_of_file-capture : (freq : ℕ) (answers : List Answer) → least_freq ≤ freq → freq ≤ greatest_freq → All IsAnswerInRange answers → fault_of_file (concat (stamp_lines freq answers)) ≡ None
unfolding fault_of_file
fault_of_file-capture freq answers low high all =
    let rows = map answer_row answers in
    ap (λ ls. first_fault (faults ls) (missing (length ls))) (file_lines-capture freq answers (omega arith) all)
    ∙ ap (λ r. first_fault (fault_on 2 r (fault_from true 3 rows)) (missing (length (rows_of freq answers)))) (line_says-freq freq low high)
    ∙ ap (λ f. first_fault f (missing (length (rows_of freq answers)))) (fault_from-rows 3 answers (omega arith) all)
    ∙ missing-enough (length (rows_of freq answers)) (omega arith)

-- and gives the exchanges
pub given_of_file-capture : (freq : ℕ) (answers : List Answer) → least_freq ≤ freq → freq ≤ greatest_freq → All IsAnswerInRange answers → given_of_file (concat (stamp_lines freq answers)) ≡ stamp_file_gives freq answers
unfolding given_of_file
given_of_file-capture freq answers low high all =
    let rows = map answer_row answers in
    ap gives_all (file_lines-capture freq answers (omega arith) all)
    ∙ ap (λ r. given_on r (given_from true 3 rows)) (line_says-freq freq low high)
    ∙ ap (λ xs. gives.Head (record { version = 2; freq = freq }) ∷ xs) (given_from-rows 3 answers (omega arith) all)
