-- Pieces that are read from the front of a line.
use Rattle.std.proofs.Common.{◌≡◌, ℕ, ◌+◌, ◌-◌, ◌<◌, ◌≤◌, ◌&&◌, ◌||◌, not, Bool, None, Result, Ok, subst, codes, replicate, length-drop, true, false, cond, eqb, zero, suc, List, [], ◌∷◌, ◌++◌, Some, Err, length, take, drop, get_or, refl, sym, ap, ◌∙◌, arith, add-one, drop-cons, append_assoc, length-append, length-take}
use Rattle.std.specs.List.{All, position_or_len}
use Rattle.std.specs.Str.{bytes_eq}
use Rattle.std.proofs.Math.Seq.{take-append_seam, drop-append-add}
use Rattle.std.proofs.lemmas.Bool.{and_parts}
use Rattle.std.proofs.lemmas.Bool.Decides.{nat_tests}
use Rattle.std.proofs.lemmas.List.{take-append-drop, take_all}
use Rattle.std.proofs.lemmas.List.Elements.{All-append, All-drop}
use Rattle.std.proofs.lemmas.List.Splits.{slice_split_at, slice_split_none}
use Rattle.stamp_text.specs.declared.lines.Stamp.{Stamp}
use Rattle.stamp_text.specs.declared.lines.Why.{Why}
use Rattle.stamp_text.specs.declared.lines.Why.TheVariants as why
use Rattle.stamp_text.specs.declared.numbers.Written.{Written}
use Rattle.stamp_text.specs.Digits.{is_digit, all_digits, is_number, value_from, number_in}
use Rattle.stamp_text.specs.Times.{is_point, nanos_in, written_of, time_in}
use Rattle.stamp_text.specs.Stamps.{with_rest, pieces_of, is_empty, stamp_within, stamp_of_numbers, stamp_of_pieces, stamp_in}
use Rattle.stamp_text.specs.Items.{two_of, set_says, leap_says, stamp_item, item_of_pieces, item_in}
use Rattle.stamp_text.specs.Cut.{without_return}
use Rattle.stamp_text.specs.Grammar.{version_says, freq_says, is_skipped, item_at, entry_says, text_says, short_says}
use Rattle.stamp_text.specs.Pieces.{BeginsWithNumber, IsFirstPiece, IsNumberPiece, IsTimePiece, BeginsWithLine, BeginsWithStamp}
use Rattle.stamp_text.proofs.DigitLaws.{nanos_filled}
use Rattle.stamp_text.proofs.PlaceLaws.{time_cut}

-- a digit is above a point
above_point : (b : ℕ) → is_digit b ≡ true → 46 ≤ b
above_point b h = grind (arith, nat_tests)

no_point : (b : ℕ) → is_digit b ≡ true → eqb b 46 ≡ false
no_point b h = grind (arith, nat_tests)

plain_digits : (ds : List ℕ) → all_digits ds ≡ true → All (λ b. 46 ≤ b) ds
plain_digits [] h k d l = absurd (omega arith)
plain_digits (x ∷ xs) h zero d l = above_point x (and_parts (is_digit x) (all_digits xs) h).0
plain_digits (x ∷ xs) h (suc k) d l = plain_digits xs (and_parts (is_digit x) (all_digits xs) h).1 k d (omega arith)

-- one more element of a kind in front
all_cons : (P : ℕ → Type 0) (x : ℕ) (xs : List ℕ) → P x → All P xs → All P (x ∷ xs)
all_cons P x xs h all zero d l = h
all_cons P x xs h all (suc k) d l = all k d (omega arith)

-- the point of a time
point_at : (ds es : List ℕ) → all_digits ds ≡ true → position_or_len is_point (ds ++ 46 ∷ es) ≡ length ds
point_at [] es h = refl
point_at (x ∷ xs) es h =
    let both = and_parts (is_digit x) (all_digits xs) h in
    ap (λ t. cond (not t) (1 + position_or_len is_point (xs ++ 46 ∷ es)) 0) (no_point x both.0)
    ∙ (let one : 1 + position_or_len is_point (xs ++ 46 ∷ es) ≡ length (x ∷ xs) = omega (arith, point_at xs es both.1) in one)

-- digits, a point and digits are a time
time_is : (ds es : List ℕ) → all_digits ds ≡ true → time_in (ds ++ 46 ∷ es) ≡ written_of (number_in ds) (nanos_in es)
time_is ds es h =
    let all = ds ++ 46 ∷ es in
    let at = point_at ds es h in
    let before : ds ≡ take (position_or_len is_point all) all = sym (ap (λ n. take n all) at ∙ take-append_seam ds (46 ∷ es)) in
    let after : es ≡ drop (position_or_len is_point all + 1) all = sym (ap (λ n. drop (n + 1) all) at ∙ drop-append-add ds (46 ∷ es) 1) in
    time_cut all ds es (omega (arith, at, length-append ds (46 ∷ es))) before after

-- a text at one of its places
cut_there : (text : List ℕ) (n x : ℕ) → n < length text → get_or text n 0 ≡ x → text ≡ take n text ++ x ∷ drop (n + 1) text
cut_there text n x h e =
    let here : take n text ++ drop n text ≡ take n text ++ (get_or text n 0 ∷ drop (n + 1) text) = rw (add-one, drop-cons text n 0) in
    sym (take-append-drop n text) ∙ here ∙ ap (λ b. take n text ++ b ∷ drop (n + 1) text) e

not_empty : (xs : List ℕ) → 0 < length xs → is_empty xs ≡ false
not_empty [] h = absurd (omega arith)
not_empty (x ∷ xs) h = refl

-- the first piece of a text that begins with a number and a space
pub number_first : (text : List ℕ) (n v : ℕ) → BeginsWithNumber text v n → n < length text → get_or text n 0 ≡ 32 → IsNumberPiece text v (drop (n + 1) text)
number_first text n v ahead within space =
    let long : length (take n text) ≡ n = omega (arith, length-take n text) in
    record {
      piece = take n text;
      first = record {
        split = cut_there text n 32 within space;
        plain = plain_digits (take n text) ahead.digits;
        some = omega (arith, ahead.some);
        short = omega (arith, ahead.few);
      };
      number = ahead.number;
    }

-- the first piece of a text that begins with a time and a space
pub time_first : (text rest : List ℕ) (n m sec nanos : ℕ) → rest ≡ drop (n + 1) text → BeginsWithNumber text sec n → n < length text
    → get_or text n 0 ≡ 46 → m ≤ 9 → m < length rest → all_digits (take m rest) ≡ true → Some nanos ≡ nanos_in (take m rest) → get_or rest m 0 ≡ 32
    → IsTimePiece text (record { sec = sec; nanos = nanos }) (drop (m + 1) rest)
time_first text rest n m sec nanos is ahead within point few within' digits' told space =
    let ds = take n text in
    let es = take m rest in
    let whole : text ≡ (ds ++ 46 ∷ es) ++ 32 ∷ drop (m + 1) rest = cut_there text n 46 within point
    ∙ ap (λ (r : List ℕ). ds ++ 46 ∷ r) (sym is ∙ cut_there rest m 32 within' space) ∙ sym (append_assoc ds (46 ∷ es) (32 ∷ drop (m + 1) rest)) in
    let long : length (ds ++ 46 ∷ es) ≡ n + (1 + m) = omega (arith, length-append ds (46 ∷ es), length-take n text, length-take m rest) in
    record {
      piece = ds ++ 46 ∷ es;
      first = record {
        split = whole;
        plain = All-append (λ b. 46 ≤ b) ds (46 ∷ es) (plain_digits ds ahead.digits) (all_cons (λ b. 46 ≤ b) 46 es (omega arith) (plain_digits es digits'));
        some = omega (arith, long);
        short = omega (arith, long, ahead.few);
      };
      time = time_is ds es ahead.digits ∙ ap (λ o. written_of o (nanos_in es)) ahead.number ∙ ap (written_of (Some sec)) (sym told);
    }

-- a plain piece has no space
unspaced : (xs : List ℕ) → All (λ b. 46 ≤ b) xs → All (λ b. eqb b 32 ≡ false) xs
unspaced xs plain k d l = let high : 46 ≤ get_or xs k d = plain k d l in grind (arith, nat_tests)

-- the pieces of a text whose first piece is known
first_pieces : (text piece rest : List ℕ) → IsFirstPiece text piece rest → pieces_of text ≡ piece ∷ pieces_of rest
first_pieces text piece rest first = ap pieces_of first.split ∙ slice_split_at (λ b. eqb b 32) piece 32 rest (unspaced piece first.plain) refl

-- a text is as long as its first piece, a space and the rest
pub first_long : (text piece rest : List ℕ) → IsFirstPiece text piece rest → length text ≡ length piece + (1 + length rest)
first_long text piece rest first = ap length first.split ∙ (let long : length (piece ++ 32 ∷ rest) ≡ length piece
    + (1 + length rest) = omega (arith, length-append piece (32 ∷ rest)) in long)

-- a front of the rest makes a front of the text
first_of_front : (text piece rest front more : List ℕ) → IsFirstPiece text piece rest → rest ≡ front ++ more → text ≡ (piece ++ 32 ∷ front) ++ more
first_of_front text piece rest front more first e = first.split ∙ ap (λ (r : List ℕ). piece ++ 32 ∷ r) e ∙ sym (append_assoc piece (32 ∷ front) more)

first_of : (text piece rest front : List ℕ) → IsFirstPiece text piece rest → IsFirstPiece (piece ++ 32 ∷ front) piece front
first_of text piece rest front first = record { split = refl; plain = first.plain; some = first.some; short = first.short }

-- none of the bytes ends a line, where none of the rest does
first_inner : (text piece rest front : List ℕ) → IsFirstPiece text piece rest → All (λ b. 32 ≤ b) front → All (λ b. 32 ≤ b) (piece ++ 32 ∷ front)
first_inner text piece rest front first inner = All-append (λ b. 32 ≤ b) piece (32 ∷ front)
    (λ k d l. let high : 46 ≤ get_or piece k d = first.plain k d l in omega arith) (all_cons (λ b. 32 ≤ b) 32 front (omega arith) inner)

-- no carriage return at the end
not_return : (xs : List ℕ) → All (λ b. 32 ≤ b) xs → bytes_eq xs (codes "\r") ≡ false
not_return [] all = refl
not_return (x ∷ xs) all =
    let high : 32 ≤ x = all 0 0 (omega arith) in
    let other : eqb x 13 ≡ false = grind (arith, nat_tests) in
    ap (λ t. t && bytes_eq xs []) other

no_return : (line : List ℕ) → All (λ b. 32 ≤ b) line → without_return line ≡ line
no_return line all = ap (λ t. cond t (take (length line - 1) line) line)
    (not_return (drop (length line - 1) line) (All-drop (λ b. 32 ≤ b) (length line - 1) line all))

not_skipped : (piece more : List ℕ) → 0 < length piece → All (λ b. 46 ≤ b) piece → is_skipped (piece ++ more) ≡ false
not_skipped [] more some plain = absurd (omega arith)
not_skipped (x ∷ xs) more some plain = let high : 46 ≤ x = plain 0 0 (omega arith) in grind (arith, nat_tests)

-- what such a line says from line 3 on
line_says_item : (second : Bool) (n : ℕ) (line : List ℕ) → 2 < n → All (λ b. 32 ≤ b) line → is_skipped line ≡ false
    → short_says second n line ≡ item_at n (item_in second line)
line_says_item second n line late inner entry =
    let no_first : eqb n 1 ≡ false = grind (arith, nat_tests) in
    let no_second : eqb n 2 ≡ false = grind (arith, nat_tests) in
    ap (text_says second n) (no_return line inner) ∙ ap (λ t. cond t (version_says line)
    (cond (eqb n 2) (freq_says second line) (entry_says second n line))) no_first
    ∙ ap (λ t. cond t (freq_says second line) (entry_says second n line)) no_second ∙ ap (λ t. cond t (Ok None) (item_at n (item_in second line))) entry

-- the first byte of a number is a digit
first_digit : (x : ℕ) (xs : List ℕ) (n : ℕ) → number_in (x ∷ xs) ≡ Some n → is_digit x ≡ true
first_digit x xs n e =
    let split : (t : Bool) → is_number x xs ≡ t → cond t (Some (value_from 0 (x ∷ xs))) None ≡ Some n → is_digit x ≡ true =
    elim [ true ↦ λ is e. digit_by x xs is | false ↦ λ is e. absurd (cc) ] in
    split (is_number x xs) refl e
  where
    digit_by : (x : ℕ) (xs : List ℕ) → is_number x xs ≡ true → is_digit x ≡ true
    digit_by x [] is = is
    digit_by x (y ∷ ys) is = (and_parts _ _ (and_parts _ _ is).0).1

-- so does one of version 1, with its stamp
line_says_stamp : (n : ℕ) (line : List ℕ) → 2 < n → All (λ b. 32 ≤ b) line → is_skipped line ≡ false
    → short_says false n line ≡ item_at n (stamp_item (stamp_in line))
unfolding item_in
line_says_stamp n line late inner entry = line_says_item false n line late inner entry

-- the stamp of a line of four pieces
stamp_of_four : (line a b c d : List ℕ) (ta tf : ℕ) (tb te : Written) → pieces_of line ≡ a ∷ b ∷ c ∷ d ∷ [] → 0 < length a → 0 < length b
    → 0 < length c → 0 < length d → number_in a ≡ Some ta → time_in b ≡ Some tb → time_in c ≡ Some te → number_in d ≡ Some tf
    → stamp_within ta tb te tf 1 0 ≡ stamp_in line
unfolding stamp_in
stamp_of_four line a b c d ta tf tb te pieces la lb lc ld na nb nc nd =
    let none : (is_empty a || is_empty b || is_empty c || is_empty d || false || false) ≡ false = cc
    (not_empty a la, not_empty b lb, not_empty c lc, not_empty d ld) in
    let told : stamp_of_numbers (number_in a) (time_in b) (time_in c) (number_in d) (Some 1) (Some 0) ≡ stamp_within ta tb te tf 1 0 = cc (na, nb, nc, nd) in
    sym (ap (λ (ps : List (List ℕ)). stamp_of_pieces (with_rest ps)) pieces
    ∙ ap (λ x. cond x (Err why.Columns) (stamp_of_numbers (number_in a) (time_in b) (time_in c) (number_in d) (Some 1) (Some 0))) none ∙ told)

-- a text that begins with a number, two times and a number begins with a stamp line
pub stamp_first : (text r s t : List ℕ) (ta tf m n : ℕ) (tb te : Written) (q : Result Stamp Why) → IsNumberPiece text ta r → IsTimePiece r tb s
    → IsTimePiece s te t → BeginsWithNumber t tf m → q ≡ stamp_within ta tb te tf 1 0 → n ≡ length text - length t + m → BeginsWithStamp text q n
stamp_first text r s t ta tf m n tb te q a b c last is count =
    let d = take m t in
    let long : length d ≡ m = omega (arith, length-take m t, last.within) in
    let third : List ℕ = c.piece ++ 32 ∷ d in
    let second : List ℕ = b.piece ++ 32 ∷ third in
    let line : List ℕ = a.piece ++ 32 ∷ second in
    let whole : text ≡ line ++ drop m t = first_of_front text a.piece r second (drop m t) a.first
    (first_of_front r b.piece s third (drop m t) b.first (first_of_front s c.piece t d (drop m t) c.first (sym (take-append-drop m t)))) in
    let size : length line ≡ n = omega (
      arith,
      count,
      long,
      first_long text a.piece r a.first,
      first_long r b.piece s b.first,
      first_long s c.piece t c.first,
      length-append a.piece (32 ∷ second),
      length-append b.piece (32 ∷ third),
      length-append c.piece (32 ∷ d),
    ) in
    let front : take n text ≡ line = ap (λ k. take k text) (sym size) ∙ ap (take (length line)) whole ∙ take-append_seam line (drop m t) in
    let pieces : pieces_of line ≡ a.piece ∷ b.piece ∷ c.piece ∷ d ∷ [] =
    first_pieces line a.piece second (first_of text a.piece r second a.first)
    ∙ ap (λ (ps : List (List ℕ)). a.piece ∷ ps) (first_pieces second b.piece third (first_of r b.piece s third b.first)
    ∙ ap (λ (ps : List (List ℕ)). b.piece ∷ ps) (first_pieces third c.piece d (first_of s c.piece t d c.first)
    ∙ ap (λ (ps : List (List ℕ)). c.piece ∷ ps) (slice_split_none (λ b. eqb b 32) d (unspaced d (plain_digits d last.digits))))) in
    let stamp : q ≡ stamp_in line = is ∙ stamp_of_four line a.piece b.piece c.piece d ta tf tb te pieces a.first.some b.first.some c.first.some
    (omega (arith, long, last.some)) a.number b.time c.time last.number in
    let plain = plain_digits d last.digits in
    let inner : All (λ b. 32 ≤ b) line = first_inner text a.piece r second a.first
    (first_inner r b.piece s third b.first (first_inner s c.piece t d c.first (λ k e l. let high : 46 ≤ get_or d k e = plain k e l in omega arith))) in
    record {
      within = omega (arith, size, ap length whole, length-append line (drop m t));
      room = omega (
        arith,
        size,
        long,
        last.few,
        a.first.short,
        b.first.short,
        c.first.short,
        length-append a.piece (32 ∷ second),
        length-append b.piece (32 ∷ third),
        length-append c.piece (32 ∷ d),
      );
      inner = subst (All (λ b. 32 ≤ b)) (sym front) inner;
      stamp = stamp ∙ ap stamp_in (sym front);
      says = λ k late. ap (short_says false k) front ∙ line_says_stamp k line late inner
          (not_skipped a.piece (32 ∷ second) a.first.some a.first.plain) ∙ ap (λ r. item_at k (stamp_item r)) (sym stamp);
    }

-- a number is no word
no_word : (piece word : List ℕ) (w n : ℕ) → 57 < w → number_in piece ≡ Some n → bytes_eq piece (w ∷ word) ≡ false
no_word [] word w n high e = absurd (cc)
no_word (x ∷ xs) word w n high e =
    let digit : is_digit x ≡ true = first_digit x xs n e in
    let other : eqb x w ≡ false = grind (arith, nat_tests) in
    ap (λ t. t && bytes_eq xs word) other

-- so a line that begins with a number says a stamp
pub number_says : (first : List ℕ) (rest : List (List ℕ)) (n : ℕ) → number_in first ≡ Some n
    → item_of_pieces (first ∷ rest) ≡ stamp_item (stamp_of_pieces (first ∷ rest))
number_says first rest n e =
    ap (λ t. cond t (set_says (two_of rest)) (cond (bytes_eq first (codes "leap")) (leap_says (two_of rest))
    (stamp_item (stamp_of_pieces (first ∷ rest))))) (no_word first (codes "et") 115 n (omega arith) e)
    ∙ ap (λ t. cond t (leap_says (two_of rest)) (stamp_item (stamp_of_pieces (first ∷ rest)))) (no_word first (codes "eap") 108 n (omega arith) e)

-- what a line of six pieces says in version 2
second_of_six : (line a b c d e f : List ℕ) (ta tf stratum leap : ℕ) (tb te : Written) → pieces_of line ≡ a ∷ b ∷ c ∷ d ∷ e ∷ f ∷ [] → 0 < length a
    → 0 < length b → 0 < length c → 0 < length d → 0 < length e → 0 < length f → number_in a ≡ Some ta → time_in b ≡ Some tb → time_in c ≡ Some te
    → number_in d ≡ Some tf → number_in e ≡ Some stratum → number_in f ≡ Some leap
    → stamp_item (stamp_within ta tb te tf stratum leap) ≡ item_in true line
unfolding item_in
second_of_six line a b c d e f ta tf stratum leap tb te pieces la lb lc ld le lf na nb nc nd ne nf =
    let none : (is_empty a || is_empty b || is_empty c || is_empty d || is_empty e || is_empty f) ≡ false = cc
    (not_empty a la, not_empty b lb, not_empty c lc, not_empty d ld, not_empty e le, not_empty f lf) in
    let told : stamp_of_numbers (number_in a) (time_in b) (time_in c) (number_in d) (number_in e) (number_in f) ≡ stamp_within ta tb te tf stratum
    leap = cc (na, nb, nc, nd, ne, nf) in
    let six : stamp_of_pieces (a ∷ b ∷ c ∷ d ∷ e ∷ f ∷ []) ≡ stamp_within ta tb te tf stratum leap = ap
    (λ x. cond x (Err why.Columns) (stamp_of_numbers (number_in a) (time_in b) (time_in c) (number_in d) (number_in e) (number_in f))) none ∙ told in
    sym (ap item_of_pieces pieces ∙ number_says a (b ∷ c ∷ d ∷ e ∷ f ∷ []) ta na ∙ ap stamp_item six)

-- a text that begins with a number, two times and three numbers begins with a stamp line of version 2
pub second_first : (text r s t u v : List ℕ) (ta tf stratum leap m n : ℕ) (tb te : Written) (q : Result Stamp Why) → IsNumberPiece text ta r
    → IsTimePiece r tb s → IsTimePiece s te t → IsNumberPiece t tf u → IsNumberPiece u stratum v → BeginsWithNumber v leap m
    → q ≡ stamp_within ta tb te tf stratum leap → n ≡ length text - length v + m → BeginsWithLine true text q n
second_first text r s t u v ta tf stratum leap m n tb te q a b c d e last is count =
    let f = take m v in
    let long : length f ≡ m = omega (arith, length-take m v, last.within) in
    let fifth : List ℕ = e.piece ++ 32 ∷ f in
    let fourth : List ℕ = d.piece ++ 32 ∷ fifth in
    let third : List ℕ = c.piece ++ 32 ∷ fourth in
    let second : List ℕ = b.piece ++ 32 ∷ third in
    let line : List ℕ = a.piece ++ 32 ∷ second in
    let whole : text ≡ line ++ drop m v = first_of_front text a.piece r second (drop m v) a.first
    (first_of_front r b.piece s third (drop m v) b.first (first_of_front s c.piece t fourth (drop m v) c.first
    (first_of_front t d.piece u fifth (drop m v) d.first (first_of_front u e.piece v f (drop m v) e.first (sym (take-append-drop m v)))))) in
    let size : length line ≡ n = omega (
      arith,
      count,
      long,
      first_long text a.piece r a.first,
      first_long r b.piece s b.first,
      first_long s c.piece t c.first,
      first_long t d.piece u d.first,
      first_long u e.piece v e.first,
      length-append a.piece (32 ∷ second),
      length-append b.piece (32 ∷ third),
      length-append c.piece (32 ∷ fourth),
      length-append d.piece (32 ∷ fifth),
      length-append e.piece (32 ∷ f),
    ) in
    let front : take n text ≡ line = ap (λ k. take k text) (sym size) ∙ ap (take (length line)) whole ∙ take-append_seam line (drop m v) in
    let pieces : pieces_of line ≡ a.piece ∷ b.piece ∷ c.piece ∷ d.piece ∷ e.piece ∷ f ∷ [] =
    first_pieces line a.piece second (first_of text a.piece r second a.first)
    ∙ ap (λ (ps : List (List ℕ)). a.piece ∷ ps) (first_pieces second b.piece third (first_of r b.piece s third b.first)
    ∙ ap (λ (ps : List (List ℕ)). b.piece ∷ ps) (first_pieces third c.piece fourth (first_of s c.piece t fourth c.first)
    ∙ ap (λ (ps : List (List ℕ)). c.piece ∷ ps) (first_pieces fourth d.piece fifth (first_of t d.piece u fifth d.first)
    ∙ ap (λ (ps : List (List ℕ)). d.piece ∷ ps) (first_pieces fifth e.piece f (first_of u e.piece v f e.first)
    ∙ ap (λ (ps : List (List ℕ)). e.piece ∷ ps) (slice_split_none (λ b. eqb b 32) f (unspaced f (plain_digits f last.digits))))))) in
    let stamp : stamp_item q ≡ item_in true line = ap stamp_item is
    ∙ second_of_six line a.piece b.piece c.piece d.piece e.piece f ta tf stratum leap tb te pieces a.first.some b.first.some c.first.some
    d.first.some e.first.some (omega (arith, long, last.some)) a.number b.time c.time d.number e.number last.number in
    let plain = plain_digits f last.digits in
    let inner : All (λ b. 32 ≤ b) line = first_inner text a.piece r second a.first
    (first_inner r b.piece s third b.first (first_inner s c.piece t fourth c.first
    (first_inner t d.piece u fifth d.first (first_inner u e.piece v f e.first (λ k g l. let high : 46 ≤ get_or f k g = plain k g l in omega arith))))) in
    record {
      within = omega (arith, size, ap length whole, length-append line (drop m v));
      room = omega (
        arith,
        size,
        long,
        last.few,
        a.first.short,
        b.first.short,
        c.first.short,
        d.first.short,
        e.first.short,
        length-append a.piece (32 ∷ second),
        length-append b.piece (32 ∷ third),
        length-append c.piece (32 ∷ fourth),
        length-append d.piece (32 ∷ fifth),
        length-append e.piece (32 ∷ f),
      );
      inner = subst (All (λ b. 32 ≤ b)) (sym front) inner;
      says = λ k late. ap (short_says true k) front ∙ line_says_item true k line late inner
          (not_skipped a.piece (32 ∷ second) a.first.some a.first.plain) ∙ ap (item_at k) (sym stamp);
    }

-- the rest of a text, as it is passed
pub rest_of : (text : List ℕ) (n : ℕ) → take (length text - n) (drop n text) ≡ drop n text
rest_of text n = take_all (length text - n) (drop n text) (omega (arith, length-drop n text))

-- the nanoseconds of digits, by their value
pub nanos_ahead : (rest : List ℕ) (m v w : ℕ) → 0 < m → m ≤ 9 → m ≤ length rest → all_digits (take m rest) ≡ true → v ≡ value_from 0 (take m rest)
    → w ≡ value_from v (replicate (9 - m) 48) → Some w ≡ nanos_in (take m rest)
nanos_ahead rest m v w some few within digits value filled =
    let long : length (take m rest) ≡ m = omega (arith, length-take m rest) in
    nanos_filled (take m rest) v w (omega (arith, long)) (omega (arith, long)) digits value (filled ∙ sym (ap (λ n. value_from v (replicate (9 - n) 48)) long))
