-- The words and the parts of lines are read back, and nothing else is read.
use Rattle.std.proofs.Common.{◌≡◌, ℕ, ℤ, pos, ◌-◌, ◌^◌, ◌<◌, ◌≤◌, Bool, eqb, ◌&&◌, true, false, cond, Some, None, List, [], ◌∷◌, ◌++◌, codes, decimal, refl, sym, ap, arith}
use Rattle.std.specs.Bool.{⊤}
use Rattle.std.specs.Fmt.{signed_decimal}
use Rattle.std.proofs.lemmas.Bool.Decides.{nat_tests}
use Rattle.ff_hands.specs.declared.hands.How.{How}
use Rattle.ff_hands.specs.declared.hands.How.TheVariants as how
use Rattle.ff_estimator.specs.declared.fulls.Full.{Full}
use Rattle.stamp_text.specs.declared.accepts.Refused.{Refused}
use Rattle.stamp_text.specs.declared.accepts.Refused.TheVariants as refused
use Rattle.clock_lines.specs.declared.readings.Kind.{Kind}
use Rattle.clock_lines.specs.declared.readings.Kind.TheVariants as kind
use Rattle.journal_check.specs.Reading.{Reader, or_else, IsStop, Reads}
use Rattle.journal_check.specs.Numbers.{IsWithin, half_at, wide_at}
use Rattle.journal_check.specs.Names.{how_name, how_table, how_at, kind_name, kind_table, kind_at, refused_name, stamp_refusals, item_refusals, refused_at, marks_name, marks_table, marks_at}
use Rattle.journal_check.specs.Parts.{column_at, column, given_text, FitsGiven, estimate_of, given_at, hands_text, FitsHands, hands_of, hands_at, flags_name, flags_table, flags_at, full_text, FitsFull, full_of, full_at, FullRow, leaps_row, told_full_text, FitsToldFull, with_leaps, told_full_at, reading_text, FitsReading, reading_of, reading_at}
use Rattle.journal_check.proofs.ReadLaws.{led_reads, both_reads, as_reads, made_reads, told_reads, choice_reads, either_reads}
use Rattle.journal_check.proofs.NumberLaws.{number_reads}
use Rattle.journal_check.proofs.SignLaws.{signed_reads, word_reads, time_reads}

-- ---- words

how_first : (a : How) (rest : List ℕ) → IsStop rest → how_at (how_name a ++ rest) ≡ Some (a, rest)
how_first how.Cold rest stop = refl
how_first how.Plain rest stop = refl
how_first how.Take rest stop = refl
how_first how.Jump rest stop = refl
how_first how.Reset rest stop = refl

pub how_reads : Reads how_name (λ _. ⊤) how_at
how_reads = choice_reads how_name how_table (refl, (refl, (refl, (refl, (refl, tt))))) how_first

kind_first : (a : Kind) (rest : List ℕ) → IsStop rest → kind_at (kind_name a ++ rest) ≡ Some (a, rest)
kind_first kind.Abs rest stop = refl
kind_first kind.Mono rest stop = refl
kind_first kind.Uptime rest stop = refl
kind_first kind.Fast rest stop = refl
kind_first kind.Diff rest stop = refl
kind_first kind.Back rest stop = refl
kind_first kind.Utc rest stop = refl

pub kind_reads : Reads kind_name (λ _. ⊤) kind_at
kind_reads = choice_reads kind_name kind_table (refl, (refl, (refl, (refl, (refl, (refl, (refl, tt))))))) kind_first

refused_first : (a : Refused) (rest : List ℕ) → IsStop rest → refused_at (refused_name a ++ rest) ≡ Some (a, rest)
refused_first refused.Backward rest stop = refl
refused_first refused.ServerBackward rest stop = refl
refused_first refused.Overlap rest stop = refl
refused_first refused.ServerOld rest stop = refl
refused_first refused.LongTrip rest stop = refl
refused_first refused.Acausal rest stop = refl
refused_first refused.Unsynchronised rest stop = refl
refused_first refused.BeforeSet rest stop = refl
refused_first refused.SetOld rest stop = refl
refused_first refused.LeapOld rest stop = refl
refused_first refused.LeapPending rest stop = refl
refused_first refused.LeapUnannounced rest stop = refl
refused_first refused.LeapLimit rest stop = refl

pub refused_reads : Reads refused_name (λ _. ⊤) refused_at
refused_reads = either_reads refused_name (λ _. ⊤) stamp_refusals item_refusals ((refl, tt), ((refl, tt), ((refl, tt), ((refl, tt), ((refl, tt), ((refl, tt), tt)))))) ((refl, tt), ((refl, tt), ((refl, tt), ((refl, tt), ((refl, tt), ((refl, tt), ((refl, tt), tt))))))) (λ a rest fits stop. refused_first a rest stop)

-- behind a U stands no W
marks_are : (unsync warmup : Bool) (rest : List ℕ) → IsStop rest → marks_at (marks_name (record { unsync = unsync; warmup = warmup }) ++ rest) ≡ Some (record { unsync = unsync; warmup = warmup }, rest)
marks_are false false rest stop = refl
marks_are false true rest stop = refl
marks_are true true rest stop = refl
marks_are true false [] stop = refl
marks_are true false (b ∷ rest) stop =
    let other : eqb b 87 ≡ false = grind (arith, nat_tests) in
    ap (λ t. or_else (record { unsync = true; warmup = true }) (Some (record { unsync = true; warmup = false }, b ∷ rest)) (cond (t && true) (Some rest) None)) other

pub marks_reads : Reads marks_name (λ _. ⊤) marks_at
marks_reads = choice_reads marks_name marks_table (refl, (refl, (refl, (refl, tt)))) (λ m rest stop. marks_are m.unsync m.warmup rest stop)

flags_are : (s l p : Bool) (rest : List ℕ) → flags_at (flags_name (s, l, p) ++ rest) ≡ Some ((s, l, p), rest)
flags_are false false false rest = refl
flags_are false false true rest = refl
flags_are false true false rest = refl
flags_are false true true rest = refl
flags_are true false false rest = refl
flags_are true false true rest = refl
flags_are true true false rest = refl
flags_are true true true rest = refl

pub flags_reads : Reads flags_name (λ _. ⊤) flags_at
flags_reads = choice_reads flags_name flags_table (refl, (refl, (refl, (refl, (refl, (refl, (refl, (refl, tt)))))))) (λ f rest stop. flags_are f.0 f.1 f.2 rest)

-- ---- columns and rows of them

half_reads : Reads decimal (λ n. n ≤ 2 ^ 32 - 1) half_at
half_reads = number_reads (2 ^ 32 - 1) (omega arith)

wide_reads : Reads decimal (λ n. n ≤ 2 ^ 128 - 1) wide_at
wide_reads = number_reads (2 ^ 128 - 1) (omega arith)

abbrev space : List ℕ
space = codes " "

pub column_reads : {A : Type 0} {f : A → List ℕ} {F : A → Type 0} {r : Reader A} → Reads f F r → Reads (λ a. column (f a)) F (column_at r)
column_reads h = led_reads space h

-- a space ends what stands before it
pub ends : 32 < 48
ends = omega arith

pub reading_reads : Reads reading_text FitsReading reading_at
unfolding reading_at
reading_reads = as_reads reading_of (λ r. (r.kind, (r.tick, (r.count, (r.time, r.bound))))) (λ r. refl) (λ p. refl)
    (both_reads kind_reads (both_reads (column_reads word_reads) (both_reads (column_reads word_reads) (both_reads (column_reads time_reads) (column_reads wide_reads) (λ _ _ _. ends)) (λ _ _ _. ends)) (λ _ _ _. ends)) (λ _ _ _. ends))

pub given_reads : Reads given_text FitsGiven given_at
unfolding given_at
given_reads = as_reads estimate_of (λ e. (e.update_time, (e.update_ffcount, (e.period, (e.errb_abs, (e.errb_rate, (e.status, (e.leapsec_next, (e.leapsec_total, e.leapsec))))))))) (λ e. refl) (λ p. refl)
    (both_reads time_reads (both_reads (column_reads word_reads) (both_reads (column_reads word_reads) (both_reads (column_reads half_reads) (both_reads (column_reads half_reads) (both_reads (column_reads marks_reads) (both_reads (column_reads word_reads) (both_reads (column_reads (signed_reads (2 ^ 15 - 1) (omega arith))) (column_reads (signed_reads (2 ^ 7 - 1) (omega arith)))
    (λ _ _ _. ends)) (λ _ _ _. ends)) (λ _ _ _. ends)) (λ _ _ _. ends)) (λ _ _ _. ends)) (λ _ _ _. ends)) (λ _ _ _. ends)) (λ _ _ _. ends))

pub hands_reads : Reads hands_text FitsHands hands_at
unfolding hands_at
hands_reads = as_reads hands_of (λ h. (h.how, (h.count, (h.time, (h.lerp, (h.period_lerp, (h.boot, (h.kstatus, h.est)))))))) (λ h. refl) (λ p. refl)
    (both_reads how_reads (both_reads (column_reads word_reads) (both_reads (column_reads time_reads) (both_reads (column_reads time_reads) (both_reads (column_reads word_reads) (both_reads (column_reads time_reads) (both_reads (column_reads marks_reads) (column_reads given_reads)
    (λ _ _ _. ends)) (λ _ _ _. ends)) (λ _ _ _. ends)) (λ _ _ _. ends)) (λ _ _ _. ends)) (λ _ _ _. ends)) (λ _ _ _. ends))

-- ---- an estimate of the daemon

abbrev full_row_of : Full → FullRow
full_row_of f = (f.est.update_ffcount, (f.est.update_time, (f.est.period, (f.est.errb_abs, (f.est.errb_rate, (f.est.status, (f.spread, (f.rate.low, (f.rate.high, (f.shifted, f.local, f.predicted))))))))))

full_again : (f : Full) → FitsFull f → full_of (full_row_of f) ≡ f
full_again f fits = λ i. record f {
  est = record f.est { leapsec_next = sym fits.next i; leapsec_total = sym fits.total i; leapsec = sym fits.leap i };
  rate = record f.rate { period = sym fits.period i };
}

pub full_reads : Reads full_text FitsFull full_at
unfolding full_at
full_reads = made_reads full_of full_row_of (λ f fits. (fits.parts, full_again f fits)) (λ p fits. record { period = refl; next = refl; total = refl; leap = refl; parts = fits }) (λ p. refl)
    (both_reads word_reads (both_reads (column_reads time_reads) (both_reads (column_reads word_reads) (both_reads (column_reads half_reads) (both_reads (column_reads half_reads) (both_reads (column_reads marks_reads) (both_reads (column_reads wide_reads) (both_reads (column_reads word_reads) (both_reads (column_reads word_reads) (column_reads flags_reads)
    (λ _ _ _. ends)) (λ _ _ _. ends)) (λ _ _ _. ends)) (λ _ _ _. ends)) (λ _ _ _. ends)) (λ _ _ _. ends)) (λ _ _ _. ends)) (λ _ _ _. ends)) (λ _ _ _. ends))

leaps_reads : Reads (λ (p : ℕ × (ℤ × ℤ)). column (decimal p.0) ++ (column (signed_decimal p.1.0) ++ column (signed_decimal p.1.1)))
    (λ p. (p.0 ≤ 2 ^ 64 - 1) × (IsWithin (2 ^ 15 - 1) p.1.0 × IsWithin (2 ^ 7 - 1) p.1.1)) leaps_row
leaps_reads = both_reads (column_reads word_reads) (both_reads (column_reads (signed_reads (2 ^ 15 - 1) (omega arith))) (column_reads (signed_reads (2 ^ 7 - 1) (omega arith)))
    (λ _ _ _. ends)) (λ _ _ _. ends)

-- what stands before the leap seconds, which knows of none
abbrev pub plain_full : Full → Full
plain_full f = record f { est = record f.est { leapsec_next = 0; leapsec_total = pos 0; leapsec = pos 0 } }

pub told_full_reads : Reads told_full_text FitsToldFull told_full_at
unfolding told_full_at
told_full_reads = told_reads with_leaps (λ f. (plain_full f, (f.est.leapsec_next, (f.est.leapsec_total, f.est.leapsec)))) told_full_text FitsToldFull
    (λ f fits. ((record { period = fits.period; next = refl; total = refl; leap = refl; parts = fits.parts.0 }, fits.parts.1), (refl, refl)))
    (λ p fits. (record { period = fits.0.period; parts = (fits.0.parts, fits.1) }, refl))
    (both_reads full_reads leaps_reads (λ _ _ _. ends))
