-- What lines tell, part by part.
use Rattle.std.specs.Prelude.{ℕ, Bool, true, false, ◌||◌, List, [], ◌∷◌}
use Rattle.std.specs.List.{flat_map}
use Rattle.ff_hands.specs.declared.hands.Hands.{Hands}
use Rattle.clock_lines.specs.declared.readings.Entry.{Entry}
use Rattle.journal_check.specs.Reports.{Item, estimated, clock_set, leap_second, refusal}
use Rattle.journal_check.specs.declared.lines.Line.{Line}
use Rattle.journal_check.specs.declared.lines.Line.TheVariants as line
use Rattle.journal_check.specs.declared.lines.Options.{Options}

abbrev pub heads_by : Line → List (ℕ × Options)
heads_by (line.Head freq o) = (freq, o) ∷ []
heads_by (line.Estimate i f) = []
heads_by (line.ToldEstimate i f) = []
heads_by (line.Set count at) = []
heads_by (line.Leap count leap) = []
heads_by (line.Refusal n why) = []
heads_by (line.Tick n h) = []
heads_by (line.Entry reader k e) = []
heads_by (line.End accepted refused ticks entries) = []

abbrev pub items_by : Line → List Item
items_by (line.Head freq o) = []
items_by (line.Estimate i f) = estimated f ∷ []
items_by (line.ToldEstimate i f) = estimated f ∷ []
items_by (line.Set count at) = clock_set count at ∷ []
items_by (line.Leap count leap) = leap_second count leap ∷ []
items_by (line.Refusal n why) = refusal n why ∷ []
items_by (line.Tick n h) = []
items_by (line.Entry reader k e) = []
items_by (line.End accepted refused ticks entries) = []

abbrev pub ticks_by : Line → List Hands
ticks_by (line.Head freq o) = []
ticks_by (line.Estimate i f) = []
ticks_by (line.ToldEstimate i f) = []
ticks_by (line.Set count at) = []
ticks_by (line.Leap count leap) = []
ticks_by (line.Refusal n why) = []
ticks_by (line.Tick n h) = h ∷ []
ticks_by (line.Entry reader k e) = []
ticks_by (line.End accepted refused ticks entries) = []

abbrev pub entries_by : Line → List Entry
entries_by (line.Head freq o) = []
entries_by (line.Estimate i f) = []
entries_by (line.ToldEstimate i f) = []
entries_by (line.Set count at) = []
entries_by (line.Leap count leap) = []
entries_by (line.Refusal n why) = []
entries_by (line.Tick n h) = []
entries_by (line.Entry reader k e) = e ∷ []
entries_by (line.End accepted refused ticks entries) = []

abbrev pub is_end : Line → Bool
is_end (line.Head freq o) = false
is_end (line.Estimate i f) = false
is_end (line.ToldEstimate i f) = false
is_end (line.Set count at) = false
is_end (line.Leap count leap) = false
is_end (line.Refusal n why) = false
is_end (line.Tick n h) = false
is_end (line.Entry reader k e) = false
is_end (line.End accepted refused ticks entries) = true

abbrev pub heads_in : List Line → List (ℕ × Options)
heads_in ls = flat_map heads_by ls

abbrev pub items_in : List Line → List Item
items_in ls = flat_map items_by ls

abbrev pub ticks_in : List Line → List Hands
ticks_in ls = flat_map ticks_by ls

abbrev pub attempts_in : List Line → List Entry
attempts_in ls = flat_map entries_by ls

-- an end line is among them
abbrev pub has_end : List Line → Bool
has_end [] = false
has_end (l ∷ ls) = is_end l || has_end ls

-- the entries of all logs, one log behind the other
abbrev pub all_entries : List (List Entry) → List Entry
all_entries logs = flat_map (λ es. es) logs
