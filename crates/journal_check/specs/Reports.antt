-- A report on a replay: what it tells of, its lines, and its text.
use Rattle.std.specs.Prelude.{◌≡◌, ℕ, ℤ, ◌+◌, nat_le, Bool, true, false, List, [], ◌∷◌, ◌++◌, length}
use Rattle.std.specs.List.{list_all, flat_map, AllByRecursion}
use Rattle.ff_grain.specs.declared.bintime.Bintime.{Bintime}
use Rattle.stamp_text.specs.declared.accepts.Refused.{Refused}
use Rattle.ff_hands.specs.declared.hands.Hands.{Hands}
use Rattle.ff_estimator.specs.declared.fulls.Full.{Full}
use Rattle.clock_lines.specs.declared.readings.Entry.{Entry}
use Rattle.journal_check.specs.Lines.{line_text, FitsLine}
use Rattle.journal_check.specs.declared.lines.Line.{Line}
use Rattle.journal_check.specs.declared.lines.Line.TheVariants as line
use Rattle.journal_check.specs.declared.lines.Options.{Options}

-- what became of an item: the estimate of a stamp, a set or a leap second that is accepted, or its line and why it is refused
pub data Item : Type 0 where
  estimated : Full → Item
  clock_set : ℕ → Bintime → Item
  leap_second : ℕ → ℤ → Item
  refusal : ℕ → Refused → Item

pub record Report : Type 0 where
  pub freq : ℕ
  pub options : Options
  pub items : List Item
  pub ticks : List Hands
  pub logs : List (List Entry)

-- the line of an estimate, of version 2 or 1
abbrev pub estimate_line : Bool → ℕ → Full → Line
estimate_line true i f = line.ToldEstimate i f
estimate_line false i f = line.Estimate i f

-- estimates are numbered from 0 on
abbrev pub item_lines : Bool → ℕ → List Item → List Line
item_lines second i [] = []
item_lines second i (estimated f ∷ q) = estimate_line second i f ∷ item_lines second (i + 1) q
item_lines second i (clock_set count at ∷ q) = line.Set count at ∷ item_lines second i q
item_lines second i (leap_second count leap ∷ q) = line.Leap count leap ∷ item_lines second i q
item_lines second i (refusal n why ∷ q) = line.Refusal n why ∷ item_lines second i q

abbrev pub tick_lines : ℕ → List Hands → List Line
tick_lines n [] = []
tick_lines n (h ∷ hs) = line.Tick n h ∷ tick_lines (n + 1) hs

abbrev pub entry_lines : ℕ → ℕ → List Entry → List Line
entry_lines reader k [] = []
entry_lines reader k (e ∷ es) = line.Entry reader k e ∷ entry_lines reader (k + 1) es

abbrev pub log_lines : ℕ → List (List Entry) → List Line
log_lines reader [] = []
log_lines reader (es ∷ logs) = entry_lines reader 0 es ++ log_lines (reader + 1) logs

abbrev pub accepted_in : List Item → ℕ
accepted_in [] = 0
accepted_in (estimated f ∷ q) = 1 + accepted_in q
accepted_in (clock_set count at ∷ q) = accepted_in q
accepted_in (leap_second count leap ∷ q) = accepted_in q
accepted_in (refusal n why ∷ q) = accepted_in q

abbrev pub refused_in : List Item → ℕ
refused_in [] = 0
refused_in (estimated f ∷ q) = refused_in q
refused_in (clock_set count at ∷ q) = refused_in q
refused_in (leap_second count leap ∷ q) = refused_in q
refused_in (refusal n why ∷ q) = 1 + refused_in q

abbrev pub entries_in : List (List Entry) → ℕ
entries_in [] = 0
entries_in (es ∷ logs) = length es + entries_in logs

-- the lines between the first and the last
abbrev pub inner_lines : Report → List Line
inner_lines r = item_lines r.options.second 0 r.items ++ (tick_lines 0 r.ticks ++ log_lines 0 r.logs)

unfoldable pub lines_of : Report → List Line
lines_of r = line.Head r.freq r.options ∷ (inner_lines r ++ line.End (accepted_in r.items) (refused_in r.items) (length r.ticks) (entries_in r.logs) ∷ [])

-- the bytes of lines
abbrev pub text_of : List Line → List ℕ
text_of ls = flat_map line_text ls

-- each line is one, by the types of its numbers
abbrev pub AreLines : List Line → Type 0
AreLines ls = AllByRecursion FitsLine ls

-- so many logs of so many entries
pub record IsShaped (r : Report) : Type 0 where
  pub readers : length r.logs ≡ r.options.readers
  pub reads : AllByRecursion (λ (es : List Entry). length es ≡ r.options.reads) r.logs

-- no byte of a text ends a line
abbrev pub is_plain : List ℕ → Bool
is_plain text = list_all (nat_le 32) text
