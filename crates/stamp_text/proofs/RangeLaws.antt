-- What a reader gives is in its range.
use Rattle.std.proofs.Common.{◌≡◌, ◌⊎◌, inl, inr, ℕ, ℤ, pos, negsuc, ◌+◌, ◌*◌, ◌/◌, ◌<◌, ◌&&◌, ◌||◌, Bool, true, false, cond, List, [], ◌∷◌, Option, None, Some, Result, Ok, Err, IfOk, IfSome, length, take, drop, codes, refl, arith, ltb, leb, eqb}
use Rattle.std.specs.List.{AllByRecursion, list_any, before_first, after_first}
use Rattle.std.specs.Str.{bytes_eq}
use Rattle.std.proofs.lemmas.Bool.Decides.{nat_tests}
use Rattle.std.proofs.lemmas.Int.{ints}
use Rattle.ff_grain.specs.Grains.{of_nanos, IsTime}
use Rattle.stamp_text.specs.declared.lines.Item.{Item}
use Rattle.stamp_text.specs.declared.lines.Item.TheVariants as item
use Rattle.stamp_text.specs.declared.lines.Line.{Line}
use Rattle.stamp_text.specs.declared.lines.LineFault.{LineFault}
use Rattle.stamp_text.specs.declared.lines.Stamp.{Stamp}
use Rattle.stamp_text.specs.declared.lines.Why.{Why}
use Rattle.stamp_text.specs.declared.lines.Why.TheVariants as why
use Rattle.stamp_text.specs.declared.numbers.Written.{Written}
use Rattle.stamp_text.specs.Accepted.{IsInRange, IsItemInRange, IsLineInRange}
use Rattle.stamp_text.proofs.DigitLaws.{nanos_of_lt}
use Rattle.stamp_text.specs.Cut.{file_lines, without_return}
use Rattle.stamp_text.specs.Digits.{number_in}
use Rattle.stamp_text.specs.Times.{is_fraction, nanos_of, nanos_in, written_of, is_point, time_in}
use Rattle.stamp_text.specs.Stamps.{with_rest, pieces_of, is_empty, stamp_within, stamp_of_numbers, stamp_of_pieces, stamp_in}
use Rattle.stamp_text.specs.Items.{sign_in, set_of, leap_of, two_of, set_says, leap_says, stamp_item, item_of_pieces, item_in}
use Rattle.stamp_text.specs.Grammar.{is_second, second_of, version_of, line_of, item_at, version_says, freq_within, head_of, freq_says, is_skipped, entry_says, text_says, short_says, line_says, given_on, given_from, given_of_file, missing}
use Rattle.stamp_text.specs.Kept.{Kept}
use Rattle.stamp_text.specs.FeedSteps.{line_number, at_line, sound_answer, unless_faulty, step_answer, second_line, nothing_unless, sound_end, last_answer}

-- an answer, with what it gives in range
abbrev pub GivesInRange : {E : Type 0} → Result (Option Line) E → Type 0
GivesInRange r = IfOk r (λ o. IfSome o IsLineInRange)

-- one of two answers, both in range
either-in-range : {E : Type 0} (t : Bool) (a b : Result (Option Line) E) → GivesInRange a → GivesInRange b → GivesInRange (cond t a b)
either-in-range true a b ha hb = ha
either-in-range false a b ha hb = hb

-- a head has its frequency in range
version-known : (second : Bool) → (version_of second ≡ 1) ⊎ (version_of second ≡ 2)
version-known true = inr refl
version-known false = inl refl

head-in-range : (second : Bool) (o : Option ℕ) → GivesInRange (head_of second (freq_within o))
head-in-range second None = tt
head-in-range second (Some n) =
    let split : (t : Bool) → t ≡ (leb 1000000 n && leb n 16000000000) → GivesInRange (head_of second (cond t (Some n) None)) =
    elim [ true ↦ λ e. record { version = version-known second; low = grind (arith, nat_tests); high = grind (arith, nat_tests) } | false ↦ λ e. tt ] in
    split _ refl

-- line 2 gives a head in range
freq-in-range : (second : Bool) (line : List ℕ) → GivesInRange (freq_says second line)
freq-in-range second line = elim (bytes_eq (take 5 line) (codes "freq ")) as
    (λ t. GivesInRange (head_of second (cond t (freq_within (number_in (drop 5 line))) None))) [
      | true ↦ head-in-range second (number_in (drop 5 line))
      | false ↦ tt
    ]

-- numbers that pass the test are in their ranges
all_six : (a b c d e f : ℕ) → (ltb a 4611686018427387904 && ltb b 4294967296 && ltb c 4294967296 && ltb d 4611686018427387904 && ltb e 256
    && ltb f 4) ≡ true → (a < 4611686018427387904) × (b < 4294967296) × (c < 4294967296) × (d < 4611686018427387904)
all_six a b c d e f h = grind (arith, nat_tests)

-- seconds below 2^32 and nanoseconds are a time
time-in-range : (sec nanos : ℕ) → sec < 4294967296 → nanos < 1000000000 → IsTime (of_nanos sec nanos)
time-in-range sec nanos h below =
    let part : nanos * 18446744073709551616 / 1000000000 < 18446744073709551616 = omega arith in
    record { low = omega (arith, ints); high = omega (arith, ints) }

-- a time has nanoseconds below a second
abbrev HasNanos : Option Written → Type 0
HasNanos o = IfSome o (λ t. t.nanos < 1000000000)

fraction-below : (ds : List ℕ) → IfSome (nanos_in ds) (λ n. n < 1000000000)
fraction-below ds =
    let split : (t : Bool) → is_fraction ds ≡ t → IfSome (cond t (Some (nanos_of ds)) None) (λ n. n < 1000000000) =
    elim [ true ↦ λ e. nanos_of_lt ds (grind (arith, nat_tests)) (grind (arith, nat_tests)) | false ↦ λ e. tt ] in
    split _ refl

written-below : (sec nanos : Option ℕ) → IfSome nanos (λ n. n < 1000000000) → HasNanos (written_of sec nanos)
written-below (Some sec) (Some nanos) h = h
written-below (Some sec) None h = tt
written-below None nanos h = tt

time-below : (text : List ℕ) → HasNanos (time_in text)
time-below text = elim (list_any is_point text) as (λ t. HasNanos
    (cond t (written_of (number_in (before_first is_point text)) (nanos_in (after_first is_point text))) (written_of (number_in text) (Some 0)))) [
      | true ↦ written-below (number_in (before_first is_point text)) (nanos_in (after_first is_point text)) (fraction-below (after_first is_point text))
      | false ↦ written-below (number_in text) (Some 0) (omega arith)
    ]

-- numbers that pass the test make a stamp in range
within-in-range : (a : ℕ) (b c : Written) (d e f : ℕ) → b.nanos < 1000000000 → c.nanos < 1000000000 → IfOk (stamp_within a b c d e f) IsInRange
within-in-range a b c d e f below_b below_c =
    let split : (t : Bool) → (ltb a 4611686018427387904 && ltb b.sec 4294967296 && ltb c.sec 4294967296 && ltb d 4611686018427387904 && ltb e 256
    && ltb f 4) ≡ t → IfOk {E = Why} (cond t (Ok (record {
      ta = a;
      tb = of_nanos b.sec b.nanos;
      te = of_nanos c.sec c.nanos;
      tf = d;
      stratum = e;
      leap = f;
    })) (Err why.Range)) IsInRange =
    elim [
      | true ↦ λ h. let few = all_six a b.sec c.sec d e f h in
          record { ta = few.0; tf = few.3; tb = time-in-range b.sec b.nanos few.1 below_b; te = time-in-range c.sec c.nanos few.2 below_c }
      | false ↦ λ h. tt
    ] in
    split _ refl

-- numbers, if they are all told, make a stamp in range
numbers-in-range : (a : Option ℕ) (b c : Option Written) (d e f : Option ℕ) → HasNanos b → HasNanos c → IfOk (stamp_of_numbers a b c d e f) IsInRange
numbers-in-range (Some a) (Some b) (Some c) (Some d) (Some e) (Some f) below_b below_c = within-in-range a b c d e f below_b below_c
numbers-in-range _ _ _ _ _ _ below_b below_c = tt

-- pieces make a stamp in range, if they make one
pieces-in-range : (pieces : List (List ℕ)) → IfOk (stamp_of_pieces pieces) IsInRange
pieces-in-range (a ∷ b ∷ c ∷ d ∷ e ∷ f ∷ []) = elim (is_empty a || is_empty b || is_empty c || is_empty d || is_empty e || is_empty f) as
    (λ t. IfOk (cond t (Err why.Columns) (stamp_of_numbers (number_in a) (time_in b) (time_in c) (number_in d) (number_in e) (number_in f))) IsInRange) [
      | true ↦ tt
      | false ↦ numbers-in-range (number_in a) (time_in b) (time_in c) (number_in d) (number_in e) (number_in f) (time-below b) (time-below c)
    ]
pieces-in-range _ = tt

-- a stamp in range is an item in range
stamp-item : (r : Result Stamp Why) → IfOk r IsInRange → IfOk (stamp_item r) IsItemInRange
stamp-item (Ok stamp) h = h
stamp-item (Err w) h = tt

set-in-range : (count : Option ℕ) (at : Option Written) → HasNanos at → IfOk (set_of count at) IsItemInRange
set-in-range (Some count) (Some at) below =
    let split : (t : Bool) → (ltb count 4611686018427387904 && ltb at.sec 4294967296) ≡ t
    → IfOk {E = Why} (cond t (Ok (item.Set count (of_nanos at.sec at.nanos))) (Err why.Range)) IsItemInRange =
    elim [ true ↦ λ h. record { count = grind (arith, nat_tests); at = time-in-range at.sec at.nanos (grind (arith, nat_tests)) below } | false ↦ λ h. tt ] in
    split _ refl
set-in-range _ _ below = tt

sign-in-range : (text : List ℕ) → IfSome (sign_in text) (λ leap. (leap ≡ pos 1) ⊎ (leap ≡ negsuc 0))
sign-in-range text =
    let split : (a b : Bool) → IfSome (cond a (Some (pos 1)) (cond b (Some (negsuc 0)) None)) (λ leap. (leap ≡ pos 1) ⊎ (leap ≡ negsuc 0)) =
    elim [ true ↦ λ b. inl refl | false ↦ elim [ true ↦ inr refl | false ↦ tt ] ] in
    split (bytes_eq text (codes "1")) (bytes_eq text (codes "-1"))

leap-in-range : (count : Option ℕ) (leap : Option ℤ) → IfSome leap (λ leap. (leap ≡ pos 1) ⊎ (leap ≡ negsuc 0)) → IfOk (leap_of count leap) IsItemInRange
leap-in-range (Some count) (Some leap) sign =
    let split : (t : Bool) → ltb count 4611686018427387904 ≡ t → IfOk {E = Why} (cond t (Ok (item.Leap count leap)) (Err why.Range)) IsItemInRange =
    elim [ true ↦ λ h. record { count = grind (arith, nat_tests); sign = sign } | false ↦ λ h. tt ] in
    split _ refl
leap-in-range _ _ sign = tt

set-says-in-range : (o : Option (List ℕ × List ℕ)) → IfOk (set_says o) IsItemInRange
set-says-in-range None = tt
set-says-in-range (Some p) = set-in-range (number_in p.0) (time_in p.1) (time-below p.1)

leap-says-in-range : (o : Option (List ℕ × List ℕ)) → IfOk (leap_says o) IsItemInRange
leap-says-in-range None = tt
leap-says-in-range (Some p) = leap-in-range (number_in p.0) (sign_in p.1) (sign-in-range p.1)

pub one-of : {A E : Type 0} (P : A → Type 0) (t : Bool) (a b : Result A E) → IfOk a P → IfOk b P → IfOk (cond t a b) P
one-of P true a b ha hb = ha
one-of P false a b ha hb = hb

item-pieces-in-range : (pieces : List (List ℕ)) → IfOk (item_of_pieces pieces) IsItemInRange
item-pieces-in-range [] = tt
item-pieces-in-range (word ∷ rest) =
    one-of IsItemInRange (bytes_eq word (codes "set")) _ _ (set-says-in-range (two_of rest))
    (one-of IsItemInRange (bytes_eq word (codes "leap")) _ _ (leap-says-in-range (two_of rest))
    (stamp-item (stamp_of_pieces (word ∷ rest)) (pieces-in-range (word ∷ rest))))

-- a line gives its item
pub item-in-range : (second : Bool) (line : List ℕ) → IfOk (item_in second line) IsItemInRange
unfolding item_in stamp_in
item-in-range second line = one-of IsItemInRange second _ _ (item-pieces-in-range (pieces_of line))
    (stamp-item (stamp_in line) (pieces-in-range (with_rest (pieces_of line))))

line-of-item : (n : ℕ) (x : Item) → IsItemInRange x → IsLineInRange (line_of n x)
line-of-item n (item.Stamp s) h = h
line-of-item n (item.Set count at) h = h
line-of-item n (item.Leap count leap) h = h

item-at-in-range : (n : ℕ) (r : Result Item Why) → IfOk r IsItemInRange → GivesInRange (item_at n r)
item-at-in-range n (Ok x) h = line-of-item n x h
item-at-in-range n (Err w) h = tt

-- a line from 3 on gives an item in range
entry-in-range : (second : Bool) (n : ℕ) (line : List ℕ) → GivesInRange (entry_says second n line)
entry-in-range second n line = either-in-range (is_skipped line) (Ok None) (item_at n (item_in second line)) tt
    (item-at-in-range n (item_in second line) (item-in-range second line))

-- what a line gives
says-in-range : (second : Bool) (n : ℕ) (line : List ℕ) → GivesInRange (text_says second n line)
says-in-range second n line =
    either-in-range (eqb n 1) (version_says line) _ (either-in-range (bytes_eq line (codes "radclock-stamps 1") || is_second line) (Ok None)
    (Err why.Head) tt tt)
    (either-in-range (eqb n 2) (freq_says second line) (entry_says second n line) (freq-in-range second line) (entry-in-range second n line))

-- a fault at a line gives nothing
line-in-range : (n : ℕ) (r : Result (Option Line) Why) → GivesInRange r → GivesInRange (at_line n r)
line-in-range n (Ok o) h = h
line-in-range n (Err w) h = tt

-- a fault that is kept gives nothing
unless-in-range : (fault : Option LineFault) (r : Result (Option Line) LineFault) → GivesInRange r → GivesInRange (unless_faulty fault r)
unless-in-range None r h = h
unless-in-range (Some f) r h = tt

-- what a line of a number gives
short-in-range : (second : Bool) (n : ℕ) (line : List ℕ) → GivesInRange (at_line n (short_says second n line))
short-in-range second n line = line-in-range n (short_says second n line) (says-in-range second n (without_return line))

-- what the answer to a byte gives
pub step-in-range : (k : Kept) (b : ℕ) → GivesInRange (step_answer k b)
unfolding step_answer
step-in-range k b =
    let n = line_number k.ended in
    unless-in-range k.fault (sound_answer k.second n k.line b)
    (either-in-range (eqb b 10) (at_line n (short_says k.second n k.line)) _ (short-in-range k.second n k.line)
    (either-in-range (eqb (length k.line) 255) (Err (record { line = n; why = why.LongLine })) (Ok None) tt tt))

-- the want of line 2 gives nothing
second-in-range : (n : ℕ) (r : Result (Option Line) LineFault) → GivesInRange r → GivesInRange (second_line n r)
second-in-range n (Ok o) h = either-in-range (eqb n 1) (Err (record { line = 2; why = why.Freq })) (Ok o) tt h
second-in-range n (Err f) h = tt

-- where no line is open, nothing is given
nothing-in-range : (fault : Option LineFault) → GivesInRange (nothing_unless fault)
nothing-in-range None = tt
nothing-in-range (Some f) = tt

-- the last line gives what is in range
end-in-range : (second : Bool) (ended n : ℕ) (line : List ℕ) → GivesInRange (sound_end second ended n line)
end-in-range second ended n [] = nothing-in-range (missing ended)
end-in-range second ended n (b ∷ bs) = second-in-range n (at_line n (short_says second n (b ∷ bs))) (short-in-range second n (b ∷ bs))

-- what the answer to the end gives
pub last-in-range : (k : Kept) → GivesInRange (last_answer k)
unfolding last_answer
last-in-range k = unless-in-range k.fault (sound_end k.second k.ended (line_number k.ended) k.line) (end-in-range k.second k.ended (line_number k.ended) k.line)

-- what a line gives, and those behind it
on-in-range : (r : Result (Option Line) Why) (more : List Line) → GivesInRange r → AllByRecursion IsLineInRange more
    → AllByRecursion IsLineInRange (given_on r more)
on-in-range (Ok None) more h all = all
on-in-range (Ok (Some x)) more h all = (h, all)
on-in-range (Err w) more h all = tt

lines-in-range : (second : Bool) (n : ℕ) (lines : List (List ℕ)) → AllByRecursion IsLineInRange (given_from second n lines)
lines-in-range second n [] = tt
lines-in-range second n (line ∷ lines) =
    on-in-range (line_says second n line) (given_from second (n + 1) lines)
    (either-in-range (ltb 255 (length line)) (Err why.LongLine) (short_says second n line) tt (says-in-range second n (without_return line)))
    (lines-in-range second (n + 1) lines)

-- what a whole input gives
pub file-in-range : (text : List ℕ) → AllByRecursion IsLineInRange (given_of_file text)
unfolding given_of_file
file-in-range text = lines-in-range (second_of (file_lines text)) 1 (file_lines text)
