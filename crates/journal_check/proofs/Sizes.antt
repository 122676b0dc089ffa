-- A line has its line feed at its end alone, and is short.
use Rattle.std.proofs.Common.{◌≡◌, ℕ, zero, suc, ℤ, pos, negsuc, ◌+◌, ◌-◌, ◌^◌, ◌<◌, ◌≤◌, leb, Bool, true, false, ◌&&◌, List, [], ◌∷◌, ◌++◌, length, codes, decimal, refl, sym, ap, ◌∙◌, append_assoc, length-append, arith}
use Rattle.std.specs.Bool.{⊤}
use Rattle.std.specs.Fmt.{signed_decimal}
use Rattle.std.proofs.lemmas.Bool.{and_parts, le-leb}
use Rattle.std.proofs.lemmas.Bool.Decides.{nat_tests}
use Rattle.std.proofs.lemmas.Fmt.{length-decimal-le_wide}
use Rattle.stamp_text.specs.Digits.{is_digit, all_digits}
use Rattle.ff_hands.specs.declared.estimates.Estimate.{Estimate}
use Rattle.ff_hands.specs.declared.hands.Hands.{Hands}
use Rattle.ff_hands.specs.declared.hands.How.{How}
use Rattle.ff_hands.specs.declared.hands.How.TheVariants as how
use Rattle.ff_estimator.specs.declared.fulls.Full.{Full}
use Rattle.stamp_text.specs.declared.accepts.Refused.{Refused}
use Rattle.stamp_text.specs.declared.accepts.Refused.TheVariants as refused
use Rattle.clock_lines.specs.declared.readings.Kind.{Kind}
use Rattle.clock_lines.specs.declared.readings.Kind.TheVariants as kind
use Rattle.clock_lines.specs.declared.readings.Reading.{Reading}
use Rattle.clock_lines.specs.declared.readings.Entry.TheVariants as entry
use Rattle.journal_check.specs.Numbers.{IsWithin, FitsTime, time_text}
use Rattle.journal_check.specs.Names.{how_name, kind_name, refused_name, marks_name}
use Rattle.journal_check.specs.Parts.{column, given_text, FitsGiven, hands_text, FitsHands, flags_name, full_text, FitsFull, leaps_text, FitsLeaps, told_full_text, FitsToldFull, reading_text, FitsReading}
use Rattle.journal_check.specs.Lines.{mark, Tail, attempt_text, line_text, FitsLine}
use Rattle.journal_check.specs.Reports.{is_plain}
use Rattle.journal_check.specs.declared.lines.Line.{Line}
use Rattle.journal_check.specs.declared.lines.Options.{Options}
use Rattle.journal_check.specs.declared.lines.Line.TheVariants as line
use Rattle.journal_check.proofs.NumberLaws.{begins_well, decimal_zero}
use Rattle.journal_check.proofs.PartLaws.{plain_full}

-- texts with no line feed, of at most so many bytes
pub record ArePieces {A : Type 0} (text : A → List ℕ) (Fits : A → Type 0) (most : ℕ) : Type 0 where
  pub plain : (a : A) → Fits a → is_plain (text a) ≡ true
  pub short : (a : A) → Fits a → length (text a) ≤ most

plain-append : (xs ys : List ℕ) → is_plain xs ≡ true → is_plain ys ≡ true → is_plain (xs ++ ys) ≡ true
plain-append [] ys h k = k
plain-append (x ∷ xs) ys h k =
    let both = and_parts (leb 32 x) (is_plain xs) h in
    ap (λ t. t && is_plain (xs ++ ys)) both.0 ∙ plain-append xs ys both.1 k

digits_plain : (ds : List ℕ) → all_digits ds ≡ true → is_plain ds ≡ true
digits_plain [] h = refl
digits_plain (d ∷ ds) h =
    let both = and_parts (is_digit d) (all_digits ds) h in
    let here : leb 32 d ≡ true = grind (arith, nat_tests) in
    ap (λ t. t && is_plain ds) here ∙ digits_plain ds both.1

decimal_plain : (n : ℕ) → n < 10 ^ 64 → is_plain (decimal n) ≡ true
decimal_plain zero fits = ap is_plain decimal_zero
decimal_plain (suc n) fits =
    let w = begins_well (suc n) fits (omega arith) in
    ap is_plain w.split ∙ ap (λ t. t && is_plain w.others) (le-leb 32 w.first (omega (arith, w.low))) ∙ digits_plain w.others w.digits

number_pieces : (most k : ℕ) → 0 < k → most < 10 ^ k → most < 10 ^ 64 → ArePieces decimal (λ n. n ≤ most) k
number_pieces most k some few wide = record { plain = λ n fits. decimal_plain n (omega arith); short = λ n fits. length-decimal-le_wide k n some (omega arith) (omega arith) }

signed_plain : (most : ℕ) (z : ℤ) → most + 1 < 10 ^ 64 → IsWithin most z → is_plain (signed_decimal z) ≡ true
signed_plain most (pos n) wide fits = decimal_plain n (omega arith)
signed_plain most (negsuc n) wide fits = decimal_plain (suc n) (omega arith)

signed_short : (most k : ℕ) (z : ℤ) → 0 < k → most + 1 < 10 ^ k → most + 1 < 10 ^ 64 → IsWithin most z → length (signed_decimal z) ≤ k + 1
signed_short most k (pos n) some few wide fits = omega (arith, length-decimal-le_wide k n some (omega arith) (omega arith))
signed_short most k (negsuc n) some few wide fits = omega (arith, length-decimal-le_wide k (suc n) some (omega arith) (omega arith))

signed_pieces : (most k : ℕ) → 0 < k → most + 1 < 10 ^ k → most + 1 < 10 ^ 64 → ArePieces signed_decimal (IsWithin most) (k + 1)
signed_pieces most k some few wide = record { plain = λ z fits. signed_plain most z wide fits; short = λ z fits. signed_short most k z some few wide fits }

-- ---- what pieces are put together by

both_pieces : {A B : Type 0} {f : A → List ℕ} {F : A → Type 0} {m : ℕ} {g : B → List ℕ} {G : B → Type 0} {n : ℕ} → ArePieces f F m → ArePieces g G n → ArePieces (λ (p : A × B). f p.0 ++ g p.1) (λ p. F p.0 × G p.1) (m + n)
both_pieces {f = f} {g = g} h k = record {
  plain = λ p fits. plain-append (f p.0) (g p.1) (h.plain p.0 fits.0) (k.plain p.1 fits.1);
  short = λ p fits. omega (arith, length-append (f p.0) (g p.1), h.short p.0 fits.0, k.short p.1 fits.1);
}

led_pieces : {A : Type 0} {f : A → List ℕ} {F : A → Type 0} {n : ℕ} (word : List ℕ) → is_plain word ≡ true → ArePieces f F n → ArePieces (λ a. word ++ f a) F (length word + n)
led_pieces {f = f} word plain h = record {
  plain = λ a fits. plain-append word (f a) plain (h.plain a fits);
  short = λ a fits. omega (arith, length-append word (f a), h.short a fits);
}

column_pieces : {A : Type 0} {f : A → List ℕ} {F : A → Type 0} {n : ℕ} → ArePieces f F n → ArePieces (λ a. column (f a)) F (1 + n)
column_pieces h = led_pieces (codes " ") refl h

as_pieces : {A B : Type 0} {f : A → List ℕ} {F : A → Type 0} {G : B → Type 0} {n : ℕ} (parts : B → A) → ((b : B) → G b → F (parts b)) → ArePieces f F n → ArePieces (λ b. f (parts b)) G n
as_pieces parts fits h = record { plain = λ b g. h.plain (parts b) (fits b g); short = λ b g. h.short (parts b) (fits b g) }

-- ---- words

how_plain : (a : How) → is_plain (how_name a) ≡ true
how_plain how.Cold = refl
how_plain how.Plain = refl
how_plain how.Take = refl
how_plain how.Jump = refl
how_plain how.Reset = refl

how_short : (a : How) → length (how_name a) ≤ 5
how_short how.Cold = omega arith
how_short how.Plain = omega arith
how_short how.Take = omega arith
how_short how.Jump = omega arith
how_short how.Reset = omega arith

how_pieces : ArePieces how_name (λ _. ⊤) 5
how_pieces = record { plain = λ a _. how_plain a; short = λ a _. how_short a }

kind_plain : (a : Kind) → is_plain (kind_name a) ≡ true
kind_plain kind.Abs = refl
kind_plain kind.Mono = refl
kind_plain kind.Uptime = refl
kind_plain kind.Fast = refl
kind_plain kind.Diff = refl
kind_plain kind.Back = refl
kind_plain kind.Utc = refl

kind_short : (a : Kind) → length (kind_name a) ≤ 6
kind_short kind.Abs = omega arith
kind_short kind.Mono = omega arith
kind_short kind.Uptime = omega arith
kind_short kind.Fast = omega arith
kind_short kind.Diff = omega arith
kind_short kind.Back = omega arith
kind_short kind.Utc = omega arith

kind_pieces : ArePieces kind_name (λ _. ⊤) 6
kind_pieces = record { plain = λ a _. kind_plain a; short = λ a _. kind_short a }

refused_plain : (a : Refused) → is_plain (refused_name a) ≡ true
refused_plain refused.Backward = refl
refused_plain refused.ServerBackward = refl
refused_plain refused.Overlap = refl
refused_plain refused.ServerOld = refl
refused_plain refused.LongTrip = refl
refused_plain refused.Acausal = refl
refused_plain refused.Unsynchronised = refl
refused_plain refused.BeforeSet = refl
refused_plain refused.SetOld = refl
refused_plain refused.LeapOld = refl
refused_plain refused.LeapPending = refl
refused_plain refused.LeapUnannounced = refl
refused_plain refused.LeapLimit = refl

refused_short : (a : Refused) → length (refused_name a) ≤ 16
refused_short refused.Backward = omega arith
refused_short refused.ServerBackward = omega arith
refused_short refused.Overlap = omega arith
refused_short refused.ServerOld = omega arith
refused_short refused.LongTrip = omega arith
refused_short refused.Acausal = omega arith
refused_short refused.Unsynchronised = omega arith
refused_short refused.BeforeSet = omega arith
refused_short refused.SetOld = omega arith
refused_short refused.LeapOld = omega arith
refused_short refused.LeapPending = omega arith
refused_short refused.LeapUnannounced = omega arith
refused_short refused.LeapLimit = omega arith

refused_pieces : ArePieces refused_name (λ _. ⊤) 16
refused_pieces = record { plain = λ a _. refused_plain a; short = λ a _. refused_short a }

marks_are : (u w : Bool) → (is_plain (marks_name (record { unsync = u; warmup = w })) ≡ true) × (length (marks_name (record { unsync = u; warmup = w })) ≤ 2)
marks_are false false = (refl, omega arith)
marks_are false true = (refl, omega arith)
marks_are true false = (refl, omega arith)
marks_are true true = (refl, omega arith)

marks_pieces : ArePieces marks_name (λ _. ⊤) 2
marks_pieces = record { plain = λ m _. (marks_are m.unsync m.warmup).0; short = λ m _. (marks_are m.unsync m.warmup).1 }

flags_are : (s l p : Bool) → (is_plain (flags_name (s, l, p)) ≡ true) × (length (flags_name (s, l, p)) ≤ 3)
flags_are false false false = (refl, omega arith)
flags_are false false true = (refl, omega arith)
flags_are false true false = (refl, omega arith)
flags_are false true true = (refl, omega arith)
flags_are true false false = (refl, omega arith)
flags_are true false true = (refl, omega arith)
flags_are true true false = (refl, omega arith)
flags_are true true true = (refl, omega arith)

flags_pieces : ArePieces flags_name (λ _. ⊤) 3
flags_pieces = record { plain = λ f _. (flags_are f.0 f.1 f.2).0; short = λ f _. (flags_are f.0 f.1 f.2).1 }

-- ---- numbers and rows

words : ArePieces decimal (λ n. n ≤ 2 ^ 64 - 1) 20
words = number_pieces (2 ^ 64 - 1) 20 (omega arith) (omega arith) (omega arith)

halves : ArePieces decimal (λ n. n ≤ 2 ^ 32 - 1) 10
halves = number_pieces (2 ^ 32 - 1) 10 (omega arith) (omega arith) (omega arith)

wides : ArePieces decimal (λ n. n ≤ 2 ^ 128 - 1) 39
wides = number_pieces (2 ^ 128 - 1) 39 (omega arith) (omega arith) (omega arith)

times : ArePieces time_text FitsTime 41
times = as_pieces (λ t. (t.sec, t.frac)) (λ t fits. fits) (both_pieces (signed_pieces (2 ^ 63 - 1) 19 (omega arith) (omega arith) (omega arith)) (led_pieces (codes "+") refl words))

given_pieces : ArePieces given_text FitsGiven 141
given_pieces = as_pieces (λ (e : Estimate). (e.update_time, (e.update_ffcount, (e.period, (e.errb_abs, (e.errb_rate, (e.status, (e.leapsec_next, (e.leapsec_total, e.leapsec))))))))) (λ e fits. fits)
    (both_pieces times (both_pieces (column_pieces words) (both_pieces (column_pieces words) (both_pieces (column_pieces halves) (both_pieces (column_pieces halves) (both_pieces (column_pieces marks_pieces) (both_pieces (column_pieces words)
    (both_pieces (column_pieces (signed_pieces (2 ^ 15 - 1) 5 (omega arith) (omega arith) (omega arith))) (column_pieces (signed_pieces (2 ^ 7 - 1) 3 (omega arith) (omega arith) (omega arith)))))))))))

hands_pieces : ArePieces hands_text FitsHands 318
hands_pieces = as_pieces (λ (h : Hands). (h.how, (h.count, (h.time, (h.lerp, (h.period_lerp, (h.boot, (h.kstatus, h.est)))))))) (λ h fits. fits)
    (both_pieces how_pieces (both_pieces (column_pieces words) (both_pieces (column_pieces times) (both_pieces (column_pieces times) (both_pieces (column_pieces words) (both_pieces (column_pieces times) (both_pieces (column_pieces marks_pieces) (column_pieces given_pieces))))))))

full_pieces : ArePieces full_text FitsFull 194
full_pieces = as_pieces (λ (f : Full). (f.est.update_ffcount, (f.est.update_time, (f.est.period, (f.est.errb_abs, (f.est.errb_rate, (f.est.status, (f.spread, (f.rate.low, (f.rate.high, (f.shifted, f.local, f.predicted))))))))))) (λ f fits. fits.parts)
    (both_pieces words (both_pieces (column_pieces times) (both_pieces (column_pieces words) (both_pieces (column_pieces halves) (both_pieces (column_pieces halves) (both_pieces (column_pieces marks_pieces) (both_pieces (column_pieces wides) (both_pieces (column_pieces words) (both_pieces (column_pieces words) (column_pieces flags_pieces))))))))))

leaps_pieces : ArePieces leaps_text FitsLeaps (1 + 20 + (1 + 6 + (1 + 4)))
leaps_pieces = as_pieces (λ (e : Estimate). (e.leapsec_next, (e.leapsec_total, e.leapsec))) (λ e fits. fits)
    (both_pieces (column_pieces words) (both_pieces (column_pieces (signed_pieces (2 ^ 15 - 1) 5 (omega arith) (omega arith) (omega arith)))
    (column_pieces (signed_pieces (2 ^ 7 - 1) 3 (omega arith) (omega arith) (omega arith)))))

told_full_pieces : ArePieces told_full_text FitsToldFull (194 + (1 + 20 + (1 + 6 + (1 + 4))))
told_full_pieces = as_pieces (λ (f : Full). (plain_full f, f.est)) (λ f fits. (record { period = fits.period; next = refl; total = refl; leap = refl; parts = fits.parts.0 }, fits.parts.1))
    (both_pieces full_pieces leaps_pieces)

reading_pieces : ArePieces reading_text FitsReading 130
reading_pieces = as_pieces (λ (r : Reading). (r.kind, (r.tick, (r.count, (r.time, r.bound))))) (λ r fits. fits)
    (both_pieces kind_pieces (both_pieces (column_pieces words) (both_pieces (column_pieces words) (both_pieces (column_pieces times) (column_pieces wides)))))

-- ---- lines

-- a text that ends with its one line feed, of at most 640 bytes
pub record IsCut (text : List ℕ) : Type 0 where
  pub body : List ℕ
  pub split : text ≡ body ++ 10 ∷ []
  pub plain : is_plain body ≡ true
  pub short : length body < 640

row_cut : {A : Type 0} {f : A → List ℕ} {F : A → Type 0} {n : ℕ} (word : List ℕ) → is_plain word ≡ true → length word + n < 640 → ArePieces f F n → (a : A) → F a → IsCut (word ++ (f a ++ codes "\n"))
row_cut {f = f} word plain few h a fits = record {
  body = word ++ f a;
  split = sym (append_assoc word (f a) (codes "\n"));
  plain = plain-append word (f a) plain (h.plain a fits);
  short = omega (arith, length-append word (f a), h.short a fits);
}

attempt_pieces : {A : Type 0} {f : A → List ℕ} {F : A → Type 0} {n : ℕ} → ArePieces f F n → ArePieces (λ (p : ℕ × (ℕ × A)). attempt_text p.0 p.1.0 (f p.1.1)) (λ p. (p.0 ≤ 2 ^ 64 - 1) × ((p.1.0 ≤ 2 ^ 64 - 1) × F p.1.1)) (20 + (1 + 20 + (1 + n)))
attempt_pieces h = both_pieces words (both_pieces (column_pieces words) (column_pieces h))

-- the first line, whose line feed stands with its marks
head_row : ArePieces (λ (p : ℕ × (ℕ × (ℕ × ℕ))). codes "report replay freq " ++ (decimal p.0 ++ ((codes " ticks " ++ decimal p.1.0) ++ ((codes " readers " ++ decimal p.1.1.0) ++ (codes " reads " ++ decimal p.1.1.1))))) (λ p. (p.0 ≤ 2 ^ 64 - 1) × ((p.1.0 ≤ 2 ^ 64 - 1) × ((p.1.1.0 ≤ 2 ^ 64 - 1) × (p.1.1.1 ≤ 2 ^ 64 - 1)))) 122
head_row = led_pieces (codes "report replay freq ") refl (both_pieces words (both_pieces (led_pieces (codes " ticks ") refl words) (both_pieces (led_pieces (codes " readers ") refl words) (led_pieces (codes " reads ") refl words))))

-- a word that may not be there
mark_is : (word : List ℕ) → is_plain word ≡ true → (b : Bool) → (is_plain (mark word b) ≡ true) × (length (mark word b) ≤ length word)
mark_is word plain true = (plain, omega arith)
mark_is word plain false = (refl, omega arith)

tail_body : Tail → List ℕ
tail_body f = mark (codes " back") f.0 ++ (mark (codes " crank") f.1 ++ (mark (codes " utc") f.2 ++ (mark (codes " lane") f.3 ++ mark (codes " version 2") f.4)))

tail_is : (f : Tail) → (is_plain (tail_body f) ≡ true) × (length (tail_body f) ≤ 30)
unfolding tail_body
tail_is f =
    let b = mark (codes " back") f.0 in
    let c = mark (codes " crank") f.1 in
    let u = mark (codes " utc") f.2 in
    let l = mark (codes " lane") f.3 in
    let v = mark (codes " version 2") f.4 in
    let back = mark_is (codes " back") refl f.0 in
    let crank = mark_is (codes " crank") refl f.1 in
    let utc = mark_is (codes " utc") refl f.2 in
    let lane = mark_is (codes " lane") refl f.3 in
    let second = mark_is (codes " version 2") refl f.4 in (
      plain-append b (c ++ (u ++ (l ++ v))) back.0 (plain-append c (u ++ (l ++ v)) crank.0 (plain-append u (l ++ v) utc.0 (plain-append l v lane.0 second.0))),
      omega (
        arith,
        back.1,
        crank.1,
        utc.1,
        lane.1,
        second.1,
        length-append b (c ++ (u ++ (l ++ v))),
        length-append c (u ++ (l ++ v)),
        length-append u (l ++ v),
        length-append l v,
      ),
    )

head_split : (w f t ticks r readers d reads b c u l v n : List ℕ) → w ++ (f ++ ((t ++ ticks) ++ ((r ++ readers) ++ ((d ++ reads) ++ (b ++ (c ++ (u ++ (l ++ (v ++ n)))))))))
    ≡ ((w ++ (f ++ ((t ++ ticks) ++ ((r ++ readers) ++ (d ++ reads))))) ++ (b ++ (c ++ (u ++ (l ++ v))))) ++ n
head_split w f t ticks r readers d reads b c u l v n = simp append_assoc

head_cut : (freq : ℕ) (o : Options) → FitsLine (line.Head freq o) → IsCut (line_text (line.Head freq o))
unfolding line_text tail_body
head_cut freq o fits =
    let p : ℕ × (ℕ × (ℕ × ℕ)) = (freq, (o.ticks, (o.readers, o.reads))) in
    let g : (freq ≤ 2 ^ 64 - 1) × ((o.ticks ≤ 2 ^ 64 - 1) × ((o.readers ≤ 2 ^ 64 - 1) × (o.reads ≤ 2 ^ 64 - 1))) = (omega (arith, fits.0.0), (omega (arith, fits.1.0), (omega (arith, fits.1.1.0), omega (arith, fits.1.1.1.0)))) in
    let f : Tail = (o.back, o.crank, o.utc, o.lane, o.second) in
    let t = tail_is f in
    let tail = tail_body f in
    let row = codes "report replay freq " ++ (decimal freq ++ ((codes " ticks " ++ decimal o.ticks) ++ ((codes " readers " ++ decimal o.readers) ++ (codes " reads " ++ decimal o.reads)))) in
    record {
      body = row ++ tail;
      split = head_split (codes "report replay freq ") (decimal freq) (codes " ticks ") (decimal o.ticks) (codes " readers ") (decimal o.readers) (codes " reads ") (decimal o.reads) (mark (codes " back") o.back) (mark (codes " crank") o.crank)
          (mark (codes " utc") o.utc) (mark (codes " lane") o.lane) (mark (codes " version 2") o.second) (codes "\n");
      plain = plain-append row tail (head_row.plain p g) t.0;
      short = omega (arith, length-append row tail, head_row.short p g, t.1);
    }

pub line_cut : (l : Line) → FitsLine l → IsCut (line_text l)
unfolding line_text
line_cut (line.Head freq o) fits = head_cut freq o fits
line_cut (line.Estimate index full) fits = row_cut (codes "estimate ") refl (omega arith) (both_pieces words (column_pieces full_pieces)) (index, full) fits
line_cut (line.ToldEstimate index full) fits = row_cut (codes "estimate ") refl (omega arith) (both_pieces words (column_pieces told_full_pieces)) (index, full) fits
line_cut (line.Set count at) fits = row_cut (codes "set ") refl (omega arith) (both_pieces words (column_pieces times)) (count, at) fits
line_cut (line.Leap count leap) fits = row_cut (codes "leap ") refl (omega arith) (both_pieces words (column_pieces (signed_pieces (2 ^ 7 - 1) 3 (omega arith) (omega arith) (omega arith)))) (count, leap) fits
line_cut (line.Refusal number why) fits = row_cut (codes "refused ") refl (omega arith) (both_pieces words (column_pieces refused_pieces)) (number, why) fits
line_cut (line.Tick number hands) fits = row_cut (codes "tick ") refl (omega arith) (both_pieces words (column_pieces hands_pieces)) (number, hands) fits
line_cut (line.Entry reader k (entry.Read r)) fits = row_cut (codes "read ") refl (omega arith) (attempt_pieces reading_pieces) (reader, (k, r)) fits
line_cut (line.Entry reader k (entry.Again kind first last)) fits = row_cut (codes "again ") refl (omega arith) (attempt_pieces (both_pieces kind_pieces (both_pieces (column_pieces words) (column_pieces words)))) (reader, (k, (kind, (first, last)))) fits
line_cut (line.Entry reader k (entry.TooOld count oldest)) fits = row_cut (codes "old ") refl (omega arith) (attempt_pieces (both_pieces words (column_pieces words))) (reader, (k, (count, oldest))) fits
line_cut (line.Entry reader k (entry.Ahead count at)) fits = row_cut (codes "ahead ") refl (omega arith) (attempt_pieces (both_pieces words (column_pieces words))) (reader, (k, (count, at))) fits
line_cut (line.End accepted refused ticks entries) fits = row_cut (codes "end accepted ") refl (omega arith) (both_pieces words (both_pieces (led_pieces (codes " refused ") refl words) (both_pieces (led_pieces (codes " ticks ") refl words) (led_pieces (codes " entries ") refl words)))) (accepted, (refused, (ticks, entries))) fits
