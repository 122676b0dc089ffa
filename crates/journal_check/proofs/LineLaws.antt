-- A line is the text of at most one value, and is read as this one.
use Rattle.std.proofs.Common.{◌≡◌, true≢false, ℕ, ◌-◌, ◌^◌, ◌≤◌, leb, Bool, true, false, cond, Some, None, Option, List, [], ◌∷◌, ◌++◌, codes, decimal, append_assoc, inl, inr, refl, sym, ap, subst, ◌∙◌, append-nil, arith}
use Rattle.std.specs.Bool.{⊤}
use Rattle.std.specs.Prelude.{◌⊎◌}
use Rattle.std.proofs.lemmas.Bool.{leb-true, le-leb}
use Rattle.std.proofs.lemmas.Option.{none-some, same_Some, cond_some}
use Rattle.ff_estimator.specs.declared.fulls.Full.{Full}
use Rattle.clock_lines.specs.declared.readings.Entry.TheVariants as entry
use Rattle.journal_check.specs.Reading.{Reader, ◌▹◌, stripped, both_at, IsStop, Reads}
use Rattle.journal_check.specs.Numbers.{word_at}
use Rattle.journal_check.specs.Parts.{column, column_at, full_text, full_at, leaps_text}
use Rattle.journal_check.specs.Lines.{all_of, trailed_at, row_at, from_at, tail_text, FitsTail, first_tails, second_tails, tail_at, head_at, made_head, estimate_at, made_estimate, told_estimate_at, made_told_estimate, set_at, made_set, leap_at, made_leap, refusal_at, made_refusal, tick_at, made_tick, attempt_at, read_at, made_read, again_at, made_again, old_at, made_old, ahead_at, made_ahead, end_at, made_end, or_line, entry_in, item_in, line_in, attempt_text, line_text, FitsLine, Says}
use Rattle.journal_check.specs.declared.lines.Line.{Line}
use Rattle.journal_check.specs.declared.lines.Line.TheVariants as line
use Rattle.journal_check.proofs.ReadLaws.{bind_some, stripped-append, led_reads, both_reads, trailed_reads, either_reads}
use Rattle.journal_check.proofs.NumberLaws.{number_reads}
use Rattle.journal_check.proofs.SignLaws.{signed_reads, word_reads, time_reads}
use Rattle.journal_check.proofs.PartLaws.{plain_full, kind_reads, refused_reads, full_reads, told_full_reads, hands_reads, reading_reads, column_reads, ends}

-- ---- from readers to lines

-- a reader reads the lines that are made so
abbrev IsReaderOf : {A : Type 0} → (A → Line) → Reader A → Type 0
IsReaderOf made r = Reads (λ a. line_text (made a)) (λ a. FitsLine (made a)) r

rest_takes : {A : Type 0} {r : Reader A} (made : A → Line) → IsReaderOf made r → (bytes : List ℕ) (l : Line) (a : A) (rest : List ℕ) → r bytes ≡ Some (a, rest) → all_of made (Some (a, rest)) ≡ Some l → Says bytes l
rest_takes made h bytes l a [] q d =
    let t = h.takes bytes [] a q in
    subst (Says bytes) (same_Some (made a) l d) (record { text = t.0 ∙ append-nil (line_text (made a)); fits = t.1 })
rest_takes made h bytes l a (b ∷ bs) q d = absurd (none-some l d)

all_takes : {A : Type 0} {r : Reader A} (made : A → Line) → IsReaderOf made r → (bytes : List ℕ) (l : Line) → all_of made (r bytes) ≡ Some l → Says bytes l
all_takes {A = A} {r = r} made h bytes l e =
    let split : (o : Option (A × List ℕ)) → r bytes ≡ o → all_of made o ≡ Some l → Says bytes l =
    elim [
      | None ↦ λ q d. absurd (none-some l d)
      | Some x ↦ λ q d. rest_takes made h bytes l x.0 x.1 q d
    ] in
    split (r bytes) refl e

all_again : {A : Type 0} {r : Reader A} (made : A → Line) → IsReaderOf made r → (a : A) → FitsLine (made a) → all_of made (r (line_text (made a))) ≡ Some (made a)
all_again {r = r} made h a fits = ap (all_of made) (ap r (sym (append-nil (line_text (made a)))) ∙ h.again a [] fits tt)

or_takes : (o other : Option Line) (l : Line) → or_line o other ≡ Some l → (o ≡ Some l) ⊎ (other ≡ Some l)
or_takes None other l e = inr e
or_takes (Some m) other l e = inl e

-- ---- each row

row_reads : {A : Type 0} {f : A → List ℕ} {F : A → Type 0} {r : Reader A} (word : List ℕ) → Reads f F r → Reads (λ a. word ++ (f a ++ codes "\n")) F (row_at word r)
row_reads word h = led_reads word (trailed_reads (codes "\n") (λ rest. omega arith) h)

attempt_reads : {A : Type 0} {f : A → List ℕ} {F : A → Type 0} {r : Reader A} → Reads f F r → Reads (λ (p : ℕ × (ℕ × A)). attempt_text p.0 p.1.0 (f p.1.1)) (λ p. (p.0 ≤ 2 ^ 64 - 1) × ((p.1.0 ≤ 2 ^ 64 - 1) × F p.1.1)) (attempt_at r)
attempt_reads h = both_reads word_reads (both_reads (column_reads word_reads) (column_reads h) (λ _ _ _. ends)) (λ _ _ _. ends)

estimate_reads : IsReaderOf made_estimate estimate_at
unfolding estimate_at line_text
estimate_reads = row_reads (codes "estimate ") (both_reads word_reads (column_reads full_reads) (λ _ _ _. ends))

told_estimate_reads : IsReaderOf made_told_estimate told_estimate_at
unfolding told_estimate_at line_text
told_estimate_reads = row_reads (codes "estimate ") (both_reads word_reads (column_reads told_full_reads) (λ _ _ _. ends))

set_reads : IsReaderOf made_set set_at
unfolding set_at line_text
set_reads = row_reads (codes "set ") (both_reads word_reads (column_reads time_reads) (λ _ _ _. ends))

leap_reads : IsReaderOf made_leap leap_at
unfolding leap_at line_text
leap_reads = row_reads (codes "leap ") (both_reads word_reads (column_reads (signed_reads (2 ^ 7 - 1) (omega arith))) (λ _ _ _. ends))

refusal_reads : IsReaderOf made_refusal refusal_at
unfolding refusal_at line_text
refusal_reads = row_reads (codes "refused ") (both_reads word_reads (column_reads refused_reads) (λ _ _ _. ends))

tick_reads : IsReaderOf made_tick tick_at
unfolding tick_at line_text
tick_reads = row_reads (codes "tick ") (both_reads word_reads (column_reads hands_reads) (λ _ _ _. ends))

read_reads : IsReaderOf made_read read_at
unfolding read_at line_text
read_reads = row_reads (codes "read ") (attempt_reads reading_reads)

again_reads : IsReaderOf made_again again_at
unfolding again_at line_text
again_reads = row_reads (codes "again ") (attempt_reads (both_reads kind_reads (both_reads (column_reads word_reads) (column_reads word_reads) (λ _ _ _. ends)) (λ _ _ _. ends)))

old_reads : IsReaderOf made_old old_at
unfolding old_at line_text
old_reads = row_reads (codes "old ") (attempt_reads (both_reads word_reads (column_reads word_reads) (λ _ _ _. ends)))

ahead_reads : IsReaderOf made_ahead ahead_at
unfolding ahead_at line_text
ahead_reads = row_reads (codes "ahead ") (attempt_reads (both_reads word_reads (column_reads word_reads) (λ _ _ _. ends)))

end_reads : IsReaderOf made_end end_at
unfolding end_at line_text
end_reads = row_reads (codes "end accepted ") (both_reads word_reads (both_reads (led_reads (codes " refused ") word_reads) (both_reads (led_reads (codes " ticks ") word_reads) (led_reads (codes " entries ") word_reads) (λ _ _ _. ends)) (λ _ _ _. ends)) (λ _ _ _. ends))

-- ---- the first line

from_reads : {f : ℕ → List ℕ} {F : ℕ → Type 0} {r : Reader ℕ} (least : ℕ) → Reads f F r → Reads f (λ n. F n × (least ≤ n)) (from_at least r)
from_reads {f = f} {F = F} {r = r} least h = record {
  again = λ n rest fits stop. ap (λ o. o ▹ λ (x : ℕ × List ℕ). cond (leb least x.0) (Some x) None) (h.again n rest fits.0 stop) ∙ ap (λ t. cond t (Some (n, rest)) None) (le-leb least n fits.1);
  takes = λ bytes rest n e.
      let x = bind_some (r bytes) (λ (x : ℕ × List ℕ). cond (leb least x.0) (Some x) None) (n, rest) e in
      let t = cond_some (leb least x.0.0) x.0 (n, rest) x.2 in
      let same : x.0.0 ≡ n = ap (λ (p : ℕ × List ℕ). p.0) t.1 in
      let behind : x.0.1 ≡ rest = ap (λ (p : ℕ × List ℕ). p.1) t.1 in
      let b = h.takes bytes x.0.1 x.0.0 x.1 in
      (b.0 ∙ (λ i. f (same i) ++ behind i), subst (λ (k : ℕ). F k × (least ≤ k)) same (b.1, leb-true least x.0.0 t.0));
}

tail_is : (back crank utc lane second : Bool) (rest : List ℕ) → FitsTail (back, crank, utc, lane, second)
    → tail_at (tail_text (back, crank, utc, lane, second) ++ rest) ≡ Some ((back, crank, utc, lane, second), rest)
tail_is false false false false false rest fits = refl
tail_is true false false false false rest fits = refl
tail_is false true false false false rest fits = refl
tail_is true true false false false rest fits = refl
tail_is false false false true false rest fits = refl
tail_is true false false true false rest fits = refl
tail_is false true false true false rest fits = absurd (true≢false fits)
tail_is true true false true false rest fits = absurd (true≢false fits)
tail_is false false true false false rest fits = refl
tail_is true false true false false rest fits = refl
tail_is false true true false false rest fits = refl
tail_is true true true false false rest fits = refl
tail_is false false true true false rest fits = refl
tail_is true false true true false rest fits = refl
tail_is false true true true false rest fits = absurd (true≢false fits)
tail_is true true true true false rest fits = absurd (true≢false fits)
tail_is false false false false true rest fits = refl
tail_is true false false false true rest fits = refl
tail_is false true false false true rest fits = refl
tail_is true true false false true rest fits = refl
tail_is false false false true true rest fits = refl
tail_is true false false true true rest fits = refl
tail_is false true false true true rest fits = absurd (true≢false fits)
tail_is true true false true true rest fits = absurd (true≢false fits)
tail_is false false true false true rest fits = refl
tail_is true false true false true rest fits = refl
tail_is false true true false true rest fits = refl
tail_is true true true false true rest fits = refl
tail_is false false true true true rest fits = refl
tail_is true false true true true rest fits = refl
tail_is false true true true true rest fits = absurd (true≢false fits)
tail_is true true true true true rest fits = absurd (true≢false fits)

tail_stops : (back crank utc lane second : Bool) (rest : List ℕ) → IsStop (tail_text (back, crank, utc, lane, second) ++ rest)
tail_stops true crank utc lane second rest = omega arith
tail_stops false true utc lane second rest = omega arith
tail_stops false false true lane second rest = omega arith
tail_stops false false false true second rest = omega arith
tail_stops false false false false true rest = omega arith
tail_stops false false false false false rest = omega arith

tail_reads : Reads tail_text FitsTail tail_at
tail_reads = either_reads tail_text FitsTail first_tails second_tails ((refl, refl), ((refl, refl), ((refl, refl), ((refl, refl), ((refl, refl), ((refl, refl), ((refl, refl), ((refl, refl), ((refl, refl), ((refl, refl), ((refl, refl), ((refl, refl), tt))))))))))))
    ((refl, refl), ((refl, refl), ((refl, refl), ((refl, refl), ((refl, refl), ((refl, refl), ((refl, refl), ((refl, refl), ((refl, refl), ((refl, refl), ((refl, refl), ((refl, refl), tt))))))))))))
    (λ f rest fits stop. tail_is f.0 f.1 f.2 f.3 f.4 rest fits)

head_reads : IsReaderOf made_head head_at
unfolding head_at line_text
head_reads = led_reads (codes "report replay freq ") (both_reads (from_reads 1000000 (number_reads 16000000000 (omega arith)))
    (both_reads (led_reads (codes " ticks ") (number_reads 15 (omega arith))) (both_reads (led_reads (codes " readers ") (number_reads 16 (omega arith))) (both_reads (led_reads (codes " reads ") (number_reads 16384 (omega arith))) tail_reads
    (λ f rest stop. tail_stops f.0 f.1 f.2 f.3 f.4 rest)) (λ _ _ _. ends)) (λ _ _ _. ends)) (λ _ _ _. ends))

-- ---- any line

entry_takes : (bytes : List ℕ) (l : Line) → entry_in bytes ≡ Some l → Says bytes l
unfolding entry_in
entry_takes bytes l e =
    elim (or_takes (all_of made_read (read_at bytes)) _ l e) [
      | inl h ↦ all_takes made_read read_reads bytes l h
      | inr e ↦ elim (or_takes (all_of made_again (again_at bytes)) _ l e) [
        | inl h ↦ all_takes made_again again_reads bytes l h
        | inr e ↦ elim (or_takes (all_of made_old (old_at bytes)) _ l e) [
          | inl h ↦ all_takes made_old old_reads bytes l h
          | inr h ↦ all_takes made_ahead ahead_reads bytes l h
        ]
      ]
    ]

item_takes : (bytes : List ℕ) (l : Line) → item_in bytes ≡ Some l → Says bytes l
unfolding item_in
item_takes bytes l e =
    elim (or_takes (all_of made_estimate (estimate_at bytes)) _ l e) [
      | inl h ↦ all_takes made_estimate estimate_reads bytes l h
      | inr e ↦ elim (or_takes (all_of made_told_estimate (told_estimate_at bytes)) _ l e) [
        | inl h ↦ all_takes made_told_estimate told_estimate_reads bytes l h
        | inr e ↦ elim (or_takes (all_of made_set (set_at bytes)) _ l e) [
          | inl h ↦ all_takes made_set set_reads bytes l h
          | inr e ↦ elim (or_takes (all_of made_leap (leap_at bytes)) _ l e) [
            | inl h ↦ all_takes made_leap leap_reads bytes l h
            | inr h ↦ all_takes made_refusal refusal_reads bytes l h
          ]
        ]
      ]
    ]

pub line_takes : (bytes : List ℕ) (l : Line) → line_in bytes ≡ Some l → Says bytes l
unfolding line_in
line_takes bytes l e =
    elim (or_takes (all_of made_tick (tick_at bytes)) _ l e) [
      | inl h ↦ all_takes made_tick tick_reads bytes l h
      | inr e ↦ elim (or_takes (entry_in bytes) _ l e) [
        | inl h ↦ entry_takes bytes l h
        | inr e ↦ elim (or_takes (item_in bytes) _ l e) [
          | inl h ↦ item_takes bytes l h
          | inr e ↦ elim (or_takes (all_of made_head (head_at bytes)) _ l e) [
            | inl h ↦ all_takes made_head head_reads bytes l h
            | inr h ↦ all_takes made_end end_reads bytes l h
          ]
        ]
      ]
    ]

-- the words that lines begin with are apart, so that the readers before a line's own read nothing of it
-- an estimate of version 1 ends where one of version 2 goes on
told_split : (w i c f l n : List ℕ) → w ++ ((i ++ (c ++ (f ++ l))) ++ n) ≡ w ++ ((i ++ (c ++ f)) ++ (l ++ n))
told_split w i c f l n = simp append_assoc

not_plain : (index : ℕ) (full : Full) → FitsLine (line.ToldEstimate index full)
    → all_of made_estimate (estimate_at (line_text (line.ToldEstimate index full))) ≡ None
unfolding estimate_at line_text
not_plain index full fits =
    let rest = leaps_text full.est ++ codes "\n" in
    let plain = plain_full full in
    let row_is = both_reads word_reads (column_reads full_reads) (λ _ _ _. ends) in
    let read = row_is.again (index, plain) rest
    (fits.0, record { period = fits.1.period; next = refl; total = refl; leap = refl; parts = fits.1.parts.0 }) (omega arith) in
    ap (λ (t : List ℕ). all_of made_estimate (estimate_at t)) (told_split (codes "estimate ") (decimal index) (codes " ") (full_text full) (leaps_text full.est) (codes "\n"))
    ∙ ap (λ o. all_of made_estimate (o ▹ trailed_at (codes "\n") (both_at word_at (column_at full_at))))
    (stripped-append (codes "estimate ") ((decimal index ++ column (full_text full)) ++ rest))
    ∙ ap (λ o. all_of made_estimate (o ▹ λ (x : (ℕ × Full) × List ℕ). stripped (codes "\n") x.1 ▹ λ (r : List ℕ). Some (x.0, r))) read

pub line_again : (l : Line) → FitsLine l → line_in (line_text l) ≡ Some l
unfolding line_in entry_in item_in line_text tick_at read_at again_at old_at ahead_at estimate_at told_estimate_at set_at leap_at refusal_at head_at end_at
line_again (line.Head freq o) fits = ap (λ x. or_line x None) (all_again made_head head_reads (freq, (o.ticks, (o.readers, (o.reads, (o.back, o.crank, o.utc, o.lane, o.second))))) fits)
line_again (line.Estimate index full) fits =
    ap (λ x. or_line (or_line x (or_line (all_of made_told_estimate (told_estimate_at (line_text (line.Estimate index full)))) None)) None)
    (all_again made_estimate estimate_reads (index, full) fits)
line_again (line.ToldEstimate index full) fits =
    ap (λ x. or_line (or_line x (or_line (all_of made_told_estimate (told_estimate_at (line_text (line.ToldEstimate index full)))) None)) None)
    (not_plain index full fits)
    ∙ ap (λ x. or_line (or_line x None) None) (all_again made_told_estimate told_estimate_reads (index, full) fits)
line_again (line.Set count at) fits = ap (λ x. or_line (or_line x None) None) (all_again made_set set_reads (count, at) fits)
line_again (line.Leap count leap) fits = ap (λ x. or_line (or_line x None) None) (all_again made_leap leap_reads (count, leap) fits)
line_again (line.Refusal number why) fits = ap (λ x. or_line x None) (all_again made_refusal refusal_reads (number, why) fits)
line_again (line.Tick number hands) fits = ap (λ x. or_line x None) (all_again made_tick tick_reads (number, hands) fits)
line_again (line.Entry reader k (entry.Read r)) fits = ap (λ x. or_line (or_line x None) None) (all_again made_read read_reads (reader, (k, r)) fits)
line_again (line.Entry reader k (entry.Again kind first last)) fits = ap (λ x. or_line (or_line x None) None) (all_again made_again again_reads (reader, (k, (kind, (first, last)))) fits)
line_again (line.Entry reader k (entry.TooOld count oldest)) fits = ap (λ x. or_line (or_line x None) None) (all_again made_old old_reads (reader, (k, (count, oldest))) fits)
line_again (line.Entry reader k (entry.Ahead count at)) fits = ap (λ x. or_line x None) (all_again made_ahead ahead_reads (reader, (k, (count, at))) fits)
line_again (line.End accepted refused ticks entries) fits = all_again made_end end_reads (accepted, (refused, (ticks, entries))) fits

pub line_fits : (bytes : List ℕ) (l : Line) → line_in bytes ≡ Some l → FitsLine l
line_fits bytes l e = (line_takes bytes l e).fits
