-- What the grammar of stamp files says of the line of an exchange.
use Rattle.std.proofs.Common.{◌≡◌, ℕ, ◌+◌, ◌-◌, ◌<◌, ◌≤◌, ◌^◌, ltb, ◌==◌, ◌&&◌, ◌||◌, true, false, cond, eqb, None, Some, Ok, Err, List, [], ◌∷◌, ◌++◌, length, take, drop, codes, decimal, refl, ap, sym, subst, ◌∙◌, append_assoc, length-append, arith}
use Rattle.std.specs.Str.{bytes_eq}
use Rattle.std.specs.List.{All}
use Rattle.std.proofs.lemmas.Bool.{and_parts}
use Rattle.std.proofs.lemmas.Bool.Decides.{nat_tests}
use Rattle.std.proofs.lemmas.Fmt.{length-decimal-le}
use Rattle.std.proofs.lemmas.List.Elements.{All-cons, All-append, All-drop}
use Rattle.std.proofs.lemmas.List.Splits.{slice_split_none, slice_split_at}
use Rattle.stamp_text.specs.Cut.{without_return}
use Rattle.stamp_text.specs.Digits.{number_in, is_digit, all_digits}
use Rattle.stamp_text.specs.Grammar.{version_says, freq_says, is_skipped, item_at, text_says, line_says}
use Rattle.stamp_text.specs.Items.{stamp_item, item_in, item_of_pieces, set_says, leap_says, two_of}
use Rattle.stamp_text.specs.Stamps.{pieces_of, is_empty, stamp_within, stamp_of_numbers, stamp_of_pieces}
use Rattle.stamp_text.specs.Times.{time_in}
use Rattle.stamp_text.specs.declared.lines.Line.TheVariants as gives
use Rattle.stamp_text.specs.declared.lines.Item.TheVariants as item
use Rattle.stamp_text.specs.declared.lines.Why.TheVariants as why
use Rattle.ntp_capture.specs.declared.exchanges.Exchange.{Exchange}
use Rattle.report_text.specs.Text.{written_text}
use Rattle.report_text.proofs.Digits.{all_digits-decimal, number_in-decimal}
use Rattle.report_text.proofs.ReadBack.{decimal-differs, written-differs, time_in-written, is_empty-decimal, is_empty-written, written-length, not_that_byte, not_skipped}
use Rattle.capture_text.specs.ReadBack.{IsExchangeInRange, stamp_of_exchange}
use Rattle.capture_text.specs.Text.{exchange_row}

exchange_row-parts : (e : Exchange) → exchange_row e ≡ decimal e.ta ++ (32 ∷ (written_text e.tb ++ (32 ∷ (written_text e.te ++ (32 ∷ (decimal e.tf ++ (32 ∷ (decimal e.stratum ++ (32 ∷ decimal e.leap)))))))))
unfolding exchange_row
exchange_row-parts e = simp append_assoc

-- six pieces with bytes
six_pieces : (a b c d e f : List ℕ) → is_empty a ≡ false → is_empty b ≡ false → is_empty c ≡ false → is_empty d ≡ false → is_empty e ≡ false
    → is_empty f ≡ false
    → stamp_of_pieces (a ∷ b ∷ c ∷ d ∷ e ∷ f ∷ []) ≡ stamp_of_numbers (number_in a) (time_in b) (time_in c) (number_in d) (number_in e) (number_in f)
six_pieces a b c d e f ea eb ec ed ee ef = λ k. cond (ea k || eb k || ec k || ed k || ee k || ef k) (Err why.Columns)
    (stamp_of_numbers (number_in a) (time_in b) (time_in c) (number_in d) (number_in e) (number_in f))

-- the six pieces of a line, behind its first
abbrev rest_of : Exchange → List (List ℕ)
rest_of e = written_text e.tb ∷ written_text e.te ∷ decimal e.tf ∷ decimal e.stratum ∷ decimal e.leap ∷ []

pieces_of-row : (e : Exchange) → IsExchangeInRange e → pieces_of (exchange_row e) ≡ decimal e.ta ∷ written_text e.tb ∷ written_text e.te ∷ decimal e.tf ∷ decimal e.stratum ∷ decimal e.leap ∷ []
pieces_of-row e within =
    let p = λ (b : ℕ). b == 32 in
    let t5 : List ℕ = decimal e.leap in
    let t4 : List ℕ = decimal e.stratum ++ (32 ∷ t5) in
    let t3 : List ℕ = decimal e.tf ++ (32 ∷ t4) in
    let t2 : List ℕ = written_text e.te ++ (32 ∷ t3) in
    let t1 : List ℕ = written_text e.tb ++ (32 ∷ t2) in
    let leap = slice_split_none p t5 (decimal-differs 32 e.leap (omega arith) (omega (arith, within.leap))) in
    let stratum = slice_split_at p (decimal e.stratum) 32 t5 (decimal-differs 32 e.stratum (omega arith) (omega (arith, within.stratum))) refl in
    let tf = slice_split_at p (decimal e.tf) 32 t4 (decimal-differs 32 e.tf (omega arith) (omega (arith, within.tf))) refl in
    let te = slice_split_at p (written_text e.te) 32 t3 (written-differs 32 e.te (omega arith) refl within.te) refl in
    let tb = slice_split_at p (written_text e.tb) 32 t2 (written-differs 32 e.tb (omega arith) refl within.tb) refl in
    let ta = slice_split_at p (decimal e.ta) 32 t1 (decimal-differs 32 e.ta (omega arith) (omega (arith, within.ta))) refl in
    cc (exchange_row-parts e)

-- numbers in their ranges make the stamp
stamp_within-exchange : (e : Exchange) → IsExchangeInRange e → stamp_within e.ta (record { sec = e.tb.0; nanos = e.tb.1 }) (record { sec = e.te.0; nanos = e.te.1 })
    e.tf e.stratum e.leap ≡ Ok (stamp_of_exchange e)
stamp_within-exchange e within = grind (arith, nat_tests)

-- digits are no word
no_word : (c : ℕ) (cs ds : List ℕ) → 57 < c → all_digits ds ≡ true → bytes_eq ds (c ∷ cs) ≡ false
no_word c cs [] high digits = refl
no_word c cs (d ∷ ds) high digits =
    let both = and_parts (is_digit d) (all_digits ds) digits in
    let here : eqb d c ≡ false = grind (arith, nat_tests, both.0) in
    ap (λ t. t && bytes_eq ds cs) here

-- pieces that begin with no word of a kind
stamp_pieces : (word : List ℕ) (rest : List (List ℕ)) → bytes_eq word (codes "set") ≡ false → bytes_eq word (codes "leap") ≡ false
    → item_of_pieces (word ∷ rest) ≡ stamp_item (stamp_of_pieces (word ∷ rest))
stamp_pieces word rest set leap = λ k. cond (set k) (set_says (two_of rest)) (cond (leap k) (leap_says (two_of rest)) (stamp_item (stamp_of_pieces (word ∷ rest))))

-- the stamp of the line
pub item_in-row : (e : Exchange) → IsExchangeInRange e → item_in true (exchange_row e) ≡ Ok (item.Stamp (stamp_of_exchange e))
unfolding item_in
item_in-row e within =
    let digits = all_digits-decimal e.ta (omega (arith, within.ta)) in
    let ta = number_in-decimal e.ta (omega (arith, within.ta)) in
    let tb = time_in-written e.tb within.tb in
    let te = time_in-written e.te within.te in
    let tf = number_in-decimal e.tf (omega (arith, within.tf)) in
    let stratum = number_in-decimal e.stratum (omega (arith, within.stratum)) in
    let leap = number_in-decimal e.leap (omega (arith, within.leap)) in
    ap item_of_pieces (pieces_of-row e within)
    ∙ stamp_pieces (decimal e.ta) (rest_of e) (no_word 115 (codes "et") (decimal e.ta) (omega arith) digits) (no_word 108 (codes "eap") (decimal e.ta) (omega arith) digits)
    ∙ ap stamp_item (
    six_pieces (decimal e.ta) (written_text e.tb) (written_text e.te) (decimal e.tf) (decimal e.stratum) (decimal e.leap)
    (is_empty-decimal e.ta (omega (arith, within.ta))) (is_empty-written e.tb) (is_empty-written e.te) (is_empty-decimal e.tf (omega (arith, within.tf)))
    (is_empty-decimal e.stratum (omega (arith, within.stratum))) (is_empty-decimal e.leap (omega (arith, within.leap)))
    ∙ (λ k. stamp_of_numbers (ta k) (tb k) (te k) (tf k) (stratum k) (leap k))
    ∙ stamp_within-exchange e within
    )

-- a byte that is in no number, no time, and no space
pub row-differs : (c : ℕ) (e : Exchange) → c < 48 → eqb 46 c ≡ false → eqb 32 c ≡ false → IsExchangeInRange e → All (λ b. eqb b c ≡ false) (exchange_row e)
row-differs c e low point space within =
    let P = λ (b : ℕ). eqb b c ≡ false in
    let behind = λ (xs : List ℕ) (h : All P xs). All-cons P 32 xs space h in
    let leap = behind (decimal e.leap) (decimal-differs c e.leap low (omega (arith, within.leap))) in
    let stratum = behind _ (All-append P (decimal e.stratum) _ (decimal-differs c e.stratum low (omega (arith, within.stratum))) leap) in
    let tf = behind _ (All-append P (decimal e.tf) _ (decimal-differs c e.tf low (omega (arith, within.tf))) stratum) in
    let te = behind _ (All-append P (written_text e.te) _ (written-differs c e.te low point within.te) tf) in
    let tb = behind _ (All-append P (written_text e.tb) _ (written-differs c e.tb low point within.tb) te) in
    subst (All P) (sym (exchange_row-parts e)) (All-append P (decimal e.ta) _ (decimal-differs c e.ta low (omega (arith, within.ta))) tb)

length-joined : (a b c d e f : List ℕ) → length (a ++ (32 ∷ (b ++ (32 ∷ (c ++ (32 ∷ (d ++ (32 ∷ (e ++ (32 ∷ f)))))))))) ≡ length a + length b + length c + length d + length e + length f + 5
length-joined a b c d e f = simp length-append (omega arith)

number-length : (n : ℕ) → n < 2 ^ 64 → length (decimal n) ≤ 20
number-length n fits = length-decimal-le 20 n (omega arith) (omega arith) (omega arith)

row-length : (e : Exchange) → IsExchangeInRange e → (0 < length (exchange_row e)) × (length (exchange_row e) ≤ 255)
row-length e within =
    let tb = written-length e.tb within.tb in
    let te = written-length e.te within.te in
    let ta = number-length e.ta (omega (arith, within.ta)) in
    let tf = number-length e.tf (omega (arith, within.tf)) in
    let stratum = number-length e.stratum (omega (arith, within.stratum)) in
    let leap = number-length e.leap (omega (arith, within.leap)) in
    let sum = ap length (exchange_row-parts e) ∙ length-joined (decimal e.ta) (written_text e.tb) (written_text e.te) (decimal e.tf) (decimal e.stratum) (decimal e.leap) in
    (omega arith, omega arith)

-- a line without a carriage return is as it stands
pub as_it_stands : (line : List ℕ) → All (λ b. eqb b 13 ≡ false) line → without_return line ≡ line
as_it_stands line differs =
    let no_return = not_that_byte 13 (drop (length line - 1) line) (All-drop (λ b. eqb b 13 ≡ false) (length line - 1) line differs) in
    ap (λ t. cond t (take (length line - 1) line) line) no_return

-- what a line behind the head says that is not too long and has no carriage return
line_says-entry : (n : ℕ) (line : List ℕ) → 3 ≤ n → length line ≤ 255 → without_return line ≡ line
    → line_says true n line ≡ cond (is_skipped line) (Ok None) (item_at n (item_in true line))
line_says-entry n line behind few whole =
    let short : ltb 255 (length line) ≡ false = grind (arith, nat_tests) in
    let first : eqb n 1 ≡ false = grind (arith, nat_tests) in
    let second : eqb n 2 ≡ false = grind (arith, nat_tests) in
    (λ k. cond (short k) (Err why.LongLine) (text_says true n (whole k)))
    ∙ (λ k. cond (first k) (version_says line) (cond (second k) (freq_says true line) (cond (is_skipped line) (Ok None) (item_at n (item_in true line)))))

-- what the line of an exchange says there
pub line_says-row : (e : Exchange) (n : ℕ) → IsExchangeInRange e → 3 ≤ n → line_says true n (exchange_row e) ≡ Ok (Some (gives.Stamp n (stamp_of_exchange e)))
line_says-row e n within behind =
    let line = exchange_row e in
    let size = row-length e within in
    let told = not_skipped line size.0 (row-differs 35 e (omega arith) refl refl within) in
    line_says-entry n line behind size.1 (as_it_stands line (row-differs 13 e (omega arith) refl refl within))
    ∙ ap (λ t. cond t (Ok None) (item_at n (item_in true line))) told
    ∙ ap (item_at n) (item_in-row e within)

-- what a comment says there
pub line_says-comment : (n : ℕ) (line : List ℕ) → 3 ≤ n → length line ≤ 255 → All (λ b. eqb b 13 ≡ false) line → is_skipped line ≡ true
    → line_says true n line ≡ Ok None
line_says-comment n line behind few differs skipped = line_says-entry n line behind few (as_it_stands line differs) ∙ ap (λ t. cond t (Ok None) (item_at n (item_in true line))) skipped
