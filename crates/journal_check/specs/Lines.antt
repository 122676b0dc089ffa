-- The lines of a report on a replay, each with its line feed.
use Rattle.std.specs.Prelude.{◌≡◌, ℕ, ℤ, ◌≤◌, ◌-◌, ◌^◌, ◌&&◌, Bool, true, false, if◌then◌else◌, nat_le, ⊤, List, [], ◌∷◌, ◌++◌, codes, decimal, Option, None, Some}
use Rattle.std.specs.Fmt.{signed_decimal}
use Rattle.ff_grain.specs.declared.bintime.Bintime.{Bintime}
use Rattle.stamp_text.specs.declared.accepts.Refused.{Refused}
use Rattle.ff_hands.specs.declared.hands.Hands.{Hands}
use Rattle.ff_estimator.specs.declared.fulls.Full.{Full}
use Rattle.clock_lines.specs.declared.readings.Kind.{Kind}
use Rattle.clock_lines.specs.declared.readings.Reading.{Reading}
use Rattle.clock_lines.specs.declared.readings.Entry.{Entry}
use Rattle.clock_lines.specs.declared.readings.Entry.TheVariants as entry
use Rattle.journal_check.specs.Reading.{Reader, ◌▹◌, stripped, led_at, both_at, either_at, choice_at}
use Rattle.journal_check.specs.Numbers.{IsWithin, FitsTime, number_at, signed_at, word_at, time_at, time_text}
use Rattle.journal_check.specs.Names.{kind_name, kind_at, refused_name, refused_at}
use Rattle.journal_check.specs.Parts.{column_at, column, FitsWord, hands_text, hands_at, FitsHands, full_text, full_at, FitsFull, told_full_text, told_full_at, FitsToldFull, reading_text, reading_at, FitsReading}
use Rattle.journal_check.specs.declared.lines.Line.{Line}
use Rattle.journal_check.specs.declared.lines.Line.TheVariants as line

-- the value of a text that is nothing else
abbrev pub all_of : {A : Type 0} → (A → Line) → Option (A × List ℕ) → Option Line
all_of made None = None
all_of made (Some (a, [])) = Some (made a)
all_of made (Some (a, b ∷ bs)) = None

-- a value with a word behind it
abbrev pub trailed_at : {A : Type 0} → List ℕ → Reader A → Reader A
trailed_at word read text = read text ▹ λ x. stripped word x.1 ▹ λ rest. Some (x.0, rest)

-- a row of a line, with the line feed
abbrev pub row_at : {A : Type 0} → List ℕ → Reader A → Reader A
row_at word row = led_at word (trailed_at (codes "\n") row)

abbrev pub ended : Line → List ℕ → Option Line
ended l rest = stripped (codes "\n") rest ▹ λ more. all_of (λ (x : Line). x) (Some (l, more))

-- ---- the first line

-- a number that is not below the least one
abbrev pub from_at : ℕ → Reader ℕ → Reader ℕ
from_at least read text = read text ▹ λ x. if nat_le least x.0 then Some x else None

abbrev pub freq_at : Reader ℕ
freq_at = from_at 1000000 (number_at 16000000000)

abbrev pub mark : List ℕ → Bool → List ℕ
mark word b = if b then word else []

-- the flags of a replay: back, crank, utc, lane, and whether the stamp file is of version 2
abbrev pub Tail : Type 0
Tail = Bool × Bool × Bool × Bool × Bool

abbrev pub tail_text : Tail → List ℕ
tail_text f = mark (codes " back") f.0 ++ (mark (codes " crank") f.1 ++ (mark (codes " utc") f.2 ++ (mark (codes " lane") f.3
    ++ (mark (codes " version 2") f.4 ++ codes "\n"))))

-- a crank and a lane do not go together
abbrev pub FitsTail : Tail → Type 0
FitsTail f = (f.1 && f.3) ≡ false

-- of version 1, and of version 2
abbrev pub first_tails : List (List ℕ × Tail)
first_tails = (codes "\n", (false, false, false, false, false))
    ∷ (codes " back\n", (true, false, false, false, false))
    ∷ (codes " crank\n", (false, true, false, false, false))
    ∷ (codes " back crank\n", (true, true, false, false, false))
    ∷ (codes " lane\n", (false, false, false, true, false))
    ∷ (codes " back lane\n", (true, false, false, true, false))
    ∷ (codes " utc\n", (false, false, true, false, false))
    ∷ (codes " back utc\n", (true, false, true, false, false))
    ∷ (codes " crank utc\n", (false, true, true, false, false))
    ∷ (codes " back crank utc\n", (true, true, true, false, false))
    ∷ (codes " utc lane\n", (false, false, true, true, false))
    ∷ (codes " back utc lane\n", (true, false, true, true, false)) ∷ []

abbrev pub second_tails : List (List ℕ × Tail)
second_tails = (codes " version 2\n", (false, false, false, false, true))
    ∷ (codes " back version 2\n", (true, false, false, false, true))
    ∷ (codes " crank version 2\n", (false, true, false, false, true))
    ∷ (codes " back crank version 2\n", (true, true, false, false, true))
    ∷ (codes " lane version 2\n", (false, false, false, true, true))
    ∷ (codes " back lane version 2\n", (true, false, false, true, true))
    ∷ (codes " utc version 2\n", (false, false, true, false, true))
    ∷ (codes " back utc version 2\n", (true, false, true, false, true))
    ∷ (codes " crank utc version 2\n", (false, true, true, false, true))
    ∷ (codes " back crank utc version 2\n", (true, true, true, false, true))
    ∷ (codes " utc lane version 2\n", (false, false, true, true, true))
    ∷ (codes " back utc lane version 2\n", (true, false, true, true, true)) ∷ []

abbrev pub tail_at : Reader Tail
tail_at = either_at (choice_at first_tails) (choice_at second_tails)

abbrev pub HeadRow : Type 0
HeadRow = ℕ × (ℕ × (ℕ × (ℕ × Tail)))

abbrev pub ways_at : Reader (ℕ × (ℕ × Tail))
ways_at = both_at (led_at (codes " readers ") (number_at 16)) (both_at (led_at (codes " reads ") (number_at 16384)) tail_at)

unfoldable pub head_at : Reader HeadRow
head_at = led_at (codes "report replay freq ") (both_at freq_at (both_at (led_at (codes " ticks ") (number_at 15)) ways_at))

abbrev pub made_head : HeadRow → Line
made_head (freq, (ticks, (readers, (reads, (back, crank, utc, lane, second))))) = line.Head freq (record {
  ticks = ticks;
  readers = readers;
  reads = reads;
  back = back;
  crank = crank;
  utc = utc;
  lane = lane;
  second = second;
})

-- ---- the other lines

unfoldable pub estimate_at : Reader (ℕ × Full)
estimate_at = row_at (codes "estimate ") (both_at word_at (column_at full_at))

abbrev pub made_estimate : ℕ × Full → Line
made_estimate (index, full) = line.Estimate index full

-- an estimate of version 2
unfoldable pub told_estimate_at : Reader (ℕ × Full)
told_estimate_at = row_at (codes "estimate ") (both_at word_at (column_at told_full_at))

abbrev pub made_told_estimate : ℕ × Full → Line
made_told_estimate (index, full) = line.ToldEstimate index full

unfoldable pub set_at : Reader (ℕ × Bintime)
set_at = row_at (codes "set ") (both_at word_at (column_at time_at))

abbrev pub made_set : ℕ × Bintime → Line
made_set (count, at) = line.Set count at

unfoldable pub leap_at : Reader (ℕ × ℤ)
leap_at = row_at (codes "leap ") (both_at word_at (column_at (signed_at (2 ^ 7 - 1))))

abbrev pub made_leap : ℕ × ℤ → Line
made_leap (count, leap) = line.Leap count leap

unfoldable pub refusal_at : Reader (ℕ × Refused)
refusal_at = row_at (codes "refused ") (both_at word_at (column_at refused_at))

abbrev pub made_refusal : ℕ × Refused → Line
made_refusal (number, why) = line.Refusal number why

unfoldable pub tick_at : Reader (ℕ × Hands)
tick_at = row_at (codes "tick ") (both_at word_at (column_at hands_at))

abbrev pub made_tick : ℕ × Hands → Line
made_tick (number, hands) = line.Tick number hands

-- an attempt: its reader, its number, and what it came to
abbrev pub attempt_at : {A : Type 0} → Reader A → Reader (ℕ × (ℕ × A))
attempt_at row = both_at word_at (both_at (column_at word_at) (column_at row))

unfoldable pub read_at : Reader (ℕ × (ℕ × Reading))
read_at = row_at (codes "read ") (attempt_at reading_at)

abbrev pub made_read : ℕ × (ℕ × Reading) → Line
made_read (reader, (k, r)) = line.Entry reader k (entry.Read r)

unfoldable pub again_at : Reader (ℕ × (ℕ × (Kind × (ℕ × ℕ))))
again_at = row_at (codes "again ") (attempt_at (both_at kind_at (both_at (column_at word_at) (column_at word_at))))

abbrev pub made_again : ℕ × (ℕ × (Kind × (ℕ × ℕ))) → Line
made_again (reader, (k, (kind, (first, last)))) = line.Entry reader k (entry.Again kind first last)

unfoldable pub old_at : Reader (ℕ × (ℕ × (ℕ × ℕ)))
old_at = row_at (codes "old ") (attempt_at (both_at word_at (column_at word_at)))

abbrev pub made_old : ℕ × (ℕ × (ℕ × ℕ)) → Line
made_old (reader, (k, (count, oldest))) = line.Entry reader k (entry.TooOld count oldest)

unfoldable pub ahead_at : Reader (ℕ × (ℕ × (ℕ × ℕ)))
ahead_at = row_at (codes "ahead ") (attempt_at (both_at word_at (column_at word_at)))

abbrev pub made_ahead : ℕ × (ℕ × (ℕ × ℕ)) → Line
made_ahead (reader, (k, (count, at))) = line.Entry reader k (entry.Ahead count at)

unfoldable pub end_at : Reader (ℕ × (ℕ × (ℕ × ℕ)))
end_at = row_at (codes "end accepted ") (both_at word_at (both_at (led_at (codes " refused ") word_at) (both_at (led_at (codes " ticks ") word_at) (led_at (codes " entries ") word_at))))

abbrev pub made_end : ℕ × (ℕ × (ℕ × ℕ)) → Line
made_end (accepted, (refused, (ticks, entries))) = line.End accepted refused ticks entries

-- ---- which line it is

abbrev pub or_line : Option Line → Option Line → Option Line
or_line None other = other
or_line (Some l) other = Some l

unfoldable pub entry_in : List ℕ → Option Line
entry_in text = or_line (all_of made_read (read_at text)) (or_line (all_of made_again (again_at text)) (or_line (all_of made_old (old_at text)) (all_of made_ahead (ahead_at text))))

unfoldable pub item_in : List ℕ → Option Line
item_in text = or_line (all_of made_estimate (estimate_at text)) (or_line (all_of made_told_estimate (told_estimate_at text)) (or_line (all_of made_set (set_at text))
    (or_line (all_of made_leap (leap_at text)) (all_of made_refusal (refusal_at text)))))

unfoldable pub line_in : List ℕ → Option Line
line_in text = or_line (all_of made_tick (tick_at text)) (or_line (entry_in text) (or_line (item_in text) (or_line (all_of made_head (head_at text))
    (all_of made_end (end_at text)))))

-- ---- the text of a line, and which lines have one

-- an attempt: its reader, its number, and what it came to
abbrev pub attempt_text : ℕ → ℕ → List ℕ → List ℕ
attempt_text reader k text = decimal reader ++ (column (decimal k) ++ column text)

unfoldable pub line_text : Line → List ℕ
line_text (line.Head freq o) = codes "report replay freq " ++ (decimal freq ++ ((codes " ticks " ++ decimal o.ticks) ++ ((codes " readers " ++ decimal o.readers) ++ ((codes " reads " ++ decimal o.reads) ++ tail_text (o.back, o.crank, o.utc, o.lane, o.second)))))
line_text (line.Estimate index full) = codes "estimate " ++ ((decimal index ++ column (full_text full)) ++ codes "\n")
line_text (line.ToldEstimate index full) = codes "estimate " ++ ((decimal index ++ column (told_full_text full)) ++ codes "\n")
line_text (line.Set count at) = codes "set " ++ ((decimal count ++ column (time_text at)) ++ codes "\n")
line_text (line.Leap count leap) = codes "leap " ++ ((decimal count ++ column (signed_decimal leap)) ++ codes "\n")
line_text (line.Refusal number why) = codes "refused " ++ ((decimal number ++ column (refused_name why)) ++ codes "\n")
line_text (line.Tick number hands) = codes "tick " ++ ((decimal number ++ column (hands_text hands)) ++ codes "\n")
line_text (line.Entry reader k (entry.Read r)) = codes "read " ++ (attempt_text reader k (reading_text r) ++ codes "\n")
line_text (line.Entry reader k (entry.Again kind first last)) = codes "again " ++ (attempt_text reader k (kind_name kind ++ (column (decimal first) ++ column (decimal last))) ++ codes "\n")
line_text (line.Entry reader k (entry.TooOld count oldest)) = codes "old " ++ (attempt_text reader k (decimal count ++ column (decimal oldest)) ++ codes "\n")
line_text (line.Entry reader k (entry.Ahead count at)) = codes "ahead " ++ (attempt_text reader k (decimal count ++ column (decimal at)) ++ codes "\n")
line_text (line.End accepted refused ticks entries) = codes "end accepted " ++ ((decimal accepted ++ ((codes " refused " ++ decimal refused) ++ ((codes " ticks " ++ decimal ticks) ++ (codes " entries " ++ decimal entries)))) ++ codes "\n")

abbrev pub FitsEntry : Entry → Type 0
FitsEntry (entry.Read r) = FitsReading r
FitsEntry (entry.Again kind first last) = ⊤ × (FitsWord first × FitsWord last)
FitsEntry (entry.TooOld count oldest) = FitsWord count × FitsWord oldest
FitsEntry (entry.Ahead count at) = FitsWord count × FitsWord at

abbrev pub FitsLine : Line → Type 0
FitsLine (line.Head freq o) = ((freq ≤ 16000000000) × (1000000 ≤ freq)) × ((o.ticks ≤ 15) × ((o.readers ≤ 16) × ((o.reads ≤ 16384) × ((o.crank && o.lane) ≡ false))))
FitsLine (line.Estimate index full) = FitsWord index × FitsFull full
FitsLine (line.ToldEstimate index full) = FitsWord index × FitsToldFull full
FitsLine (line.Set count at) = FitsWord count × FitsTime at
FitsLine (line.Leap count leap) = FitsWord count × IsWithin (2 ^ 7 - 1) leap
FitsLine (line.Refusal number why) = FitsWord number × ⊤
FitsLine (line.Tick number hands) = FitsWord number × FitsHands hands
FitsLine (line.Entry reader k e) = FitsWord reader × (FitsWord k × FitsEntry e)
FitsLine (line.End accepted refused ticks entries) = FitsWord accepted × (FitsWord refused × (FitsWord ticks × FitsWord entries))

-- a line says this
pub record Says (bytes : List ℕ) (l : Line) : Type 0 where
  pub text : bytes ≡ line_text l
  pub fits : FitsLine l
