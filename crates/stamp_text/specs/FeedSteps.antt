-- What a reader does with a byte and with the end, by what it keeps alone. It is a step of the proof that a
-- reader answers what the grammar says of the text, and what bytes that are given at once are measured by.
use Rattle.std.specs.Prelude.{ℕ, Bool, ◌+◌, ◌-◌, ◌^◌, min, List, [], ◌∷◌, ◌++◌, length, if◌then◌else◌, ◌==◌, Option, None, Some, Result, Ok, Err}
use Rattle.stamp_text.specs.Format.{line_feed, line_limit}
use Rattle.stamp_text.specs.Cut.{without_return}
use Rattle.stamp_text.specs.Kept.{Kept}
use Rattle.stamp_text.specs.Grammar.{is_second, short_says, missing}
use Rattle.stamp_text.specs.declared.lines.Line.{Line}
use Rattle.stamp_text.specs.declared.lines.LineFault.{LineFault}
use Rattle.stamp_text.specs.declared.lines.Why.{Why}
use Rattle.stamp_text.specs.declared.lines.Why.TheVariants as why

-- the number of the line that has not ended
abbrev pub line_number : ℕ → ℕ
line_number ended = min (ended + 1) (2 ^ 64 - 1)

abbrev pub at_line : ℕ → Result (Option Line) Why → Result (Option Line) LineFault
at_line n (Ok o) = Ok o
at_line n (Err w) = Err (record { line = n; why = w })

-- where no fault was found before
abbrev pub sound_answer : Bool → ℕ → List ℕ → ℕ → Result (Option Line) LineFault
sound_answer second n line b = if b == line_feed then at_line n (short_says second n line) else if length line == line_limit then Err
    (record { line = n; why = why.LongLine }) else Ok None

abbrev pub unless_faulty : Option LineFault → Result (Option Line) LineFault → Result (Option Line) LineFault
unless_faulty None answer = answer
unless_faulty (Some f) answer = Err f

unfoldable pub step_answer : Kept → ℕ → Result (Option Line) LineFault
step_answer k b = unless_faulty k.fault (sound_answer k.second (line_number k.ended) k.line b)

-- whether the file is of version 2, behind a line: the first line says so
abbrev pub second_after : ℕ → Bool → List ℕ → Bool
second_after ended second line = if ended == 0 then is_second (without_return line) else second

abbrev pub step_kept : Kept → ℕ → Result (Option Line) LineFault → Kept
step_kept k b (Ok o) = if b == line_feed then record {
  ended = line_number k.ended;
  second = second_after k.ended k.second k.line;
  line = [];
  fault = k.fault;
} else record k { line = k.line ++ b ∷ [] }
step_kept k b (Err f) = record k { fault = Some f }

abbrev pub second_line : ℕ → Result (Option Line) LineFault → Result (Option Line) LineFault
second_line n (Ok o) = if n == 1 then Err (record { line = 2; why = why.Freq }) else Ok o
second_line n (Err f) = Err f

abbrev pub nothing_unless : Option LineFault → Result (Option Line) LineFault
nothing_unless None = Ok None
nothing_unless (Some f) = Err f

abbrev pub sound_end : Bool → ℕ → ℕ → List ℕ → Result (Option Line) LineFault
sound_end second ended n [] = nothing_unless (missing ended)
sound_end second ended n (b ∷ bs) = second_line n (at_line n (short_says second n (b ∷ bs)))

unfoldable pub last_answer : Kept → Result (Option Line) LineFault
last_answer k = unless_faulty k.fault (sound_end k.second k.ended (line_number k.ended) k.line)
