-- The lines of the program: the name of a command, and what its row has behind it.
use Rattle.std.specs.Prelude.{◌≡◌, ◌↔◌, ℕ, ◌<◌, ◌≤◌, ◌^◌, ◌-◌, ◌&&◌, Bool, false, true, nat_le, if◌then◌else◌, List, [], ◌∷◌, take, Option, None, Some, IfSome, codes, option_map, option_and_then}
use Rattle.std.specs.Option.{option_zip}
use Rattle.std.specs.Str.{bytes_eq}
use Rattle.stamp_text.specs.Digits.{number_in}
use Rattle.clock_words.specs.Rows.{Text, Row, Item, has, is_given, value_of, items_in}
use Rattle.clock_words.specs.Parts.{AreWritten, dashed}
use Rattle.clock_words.specs.declared.commands.Command.{Command}
use Rattle.clock_words.specs.declared.commands.Command.TheVariants as command
use Rattle.clock_words.specs.declared.commands.Report.{Report}
use Rattle.clock_words.specs.declared.commands.Report.TheVariants as report

-- the names of a row
abbrev pub ticks_name : Text
ticks_name = codes "ticks"

abbrev pub timers_name : Text
timers_name = codes "timers"

abbrev pub readers_name : Text
readers_name = codes "readers"

abbrev pub reads_name : Text
reads_name = codes "reads"

abbrev pub back_name : Text
back_name = codes "back"

abbrev pub crank_name : Text
crank_name = codes "crank"

abbrev pub utc_name : Text
utc_name = codes "utc"

abbrev pub lane_name : Text
lane_name = codes "lane"

abbrev pub number_name : Text
number_name = codes "NUMBER"

abbrev pub count_name : Text
count_name = codes "COUNT"

abbrev pub ideal_name : Text
ideal_name = codes "ideal"

-- nothing
abbrev pub bare_row : Row
bare_row = record { places = []; options = []; flags = [] }

-- `--ticks T` and `--timers N`
abbrev pub ticks_row : Row
ticks_row = record { places = []; options = ticks_name ∷ timers_name ∷ []; flags = [] }

-- `NUMBER COUNT`
abbrev pub make_row : Row
make_row = record { places = number_name ∷ count_name ∷ []; options = []; flags = [] }

-- `NUMBER COUNT` and `--ideal`
abbrev pub run_row : Row
run_row = record { places = number_name ∷ count_name ∷ []; options = []; flags = ideal_name ∷ [] }

-- `--ticks T`, `--readers N`, `--reads M`, `--back`, `--crank`, `--utc` and `--lane`
abbrev pub replay_row : Row
replay_row = record {
  places = [];
  options = ticks_name ∷ readers_name ∷ reads_name ∷ [];
  flags = back_name ∷ crank_name ∷ utc_name ∷ lane_name ∷ [];
}

-- the number that a text is, from `least` to `most`
abbrev pub within : ℕ → ℕ → Option ℕ → Option ℕ
within least most None = None
within least most (Some n) = if nat_le least n then (if nat_le n most then Some n else None) else None

abbrev pub number_within : ℕ → ℕ → Text → Option ℕ
number_within least most text = within least most (number_in text)

-- the value of an option, or what stands for it where the words do not give it
abbrev pub option_within : ℕ → ℕ → ℕ → Option Text → Option ℕ
option_within least most default None = Some default
option_within least most default (Some text) = number_within least most text

-- the value of an option that has nothing in its stead where the words do not give it
abbrev pub given_within : ℕ → ℕ → Option Text → Option (Option ℕ)
given_within least most None = Some None
given_within least most (Some text) = option_map Some (number_within least most text)

-- the value in a place
abbrev pub place_within : ℕ → ℕ → Option Text → Option ℕ
place_within least most text = option_and_then (number_within least most) text

-- the most plain steps between two estimates
abbrev pub most_ticks : ℕ
most_ticks = 15

-- the most timers
abbrev pub most_timers : ℕ
most_timers = 1000

-- the most readers
abbrev pub most_readers : ℕ
most_readers = 16

-- the most readings of one reader
abbrev pub most_reads : ℕ
most_reads = 16384

-- the most stamps that are made
abbrev pub most_made : ℕ
most_made = 16384

-- the most stamps that are made for a run
abbrev pub most_ran : ℕ
most_ran = 4096

-- the numbers that options give: 4 plain steps between two estimates where the words do not tell, 2 readers, and 100 readings of each
abbrev pub ticks_told : List Item → Option ℕ
ticks_told items = option_within 0 most_ticks 4 (value_of ticks_name items)

abbrev pub timers_told : List Item → Option (Option ℕ)
timers_told items = given_within 0 most_timers (value_of timers_name items)

abbrev pub readers_told : List Item → Option ℕ
readers_told items = option_within 0 most_readers 2 (value_of readers_name items)

abbrev pub reads_told : List Item → Option ℕ
reads_told items = option_within 0 most_reads 100 (value_of reads_name items)

-- `ticks`: so many plain steps between two estimates, and 4 where the words do not tell; and so many timers,
-- if the words tell of any
abbrev pub ticks_by : Option ℕ → Option (Option ℕ) → Option Command
ticks_by n timers = option_map (λ p. command.Report (report.Ticks p.0 p.1)) (option_zip n timers)

abbrev pub ticks_of : List Item → Option Command
ticks_of items = ticks_by (ticks_told items) (timers_told items)

-- `replay` by three numbers, where each is one, and four flags
abbrev pub replay_by : Bool → Bool → Bool → Bool → Option ℕ → Option ℕ → Option ℕ → Option Command
replay_by back crank utc lane n readers reads = option_map (λ n. command.Report (report.Replay n.0 n.1.0 n.1.1 back crank utc lane))
    (option_zip n (option_zip readers reads))

-- a crank and a lane are both given
abbrev pub has_both : List Item → Bool
has_both items = is_given crank_name items && is_given lane_name items

-- `replay`: the numbers of its options, and which of its flags are given; a crank goes with no lane
abbrev pub replay_of : List Item → Option Command
replay_of items = if has_both items then None
    else replay_by (is_given back_name items) (is_given crank_name items) (is_given utc_name items) (is_given lane_name items) (ticks_told items)
    (readers_told items) (reads_told items)

-- the two numbers that places give: one below 2^32, and a count from 1 to `most`
abbrev pub places_told : ℕ → List Item → Option (ℕ × ℕ)
places_told most items = option_zip (place_within 0 (2 ^ 32 - 1) (value_of number_name items)) (place_within 1 most (value_of count_name items))

-- `make`: a number below 2^32, and a count from 1 to 16,384
abbrev pub make_of : List Item → Option Command
make_of items = option_map (λ p. command.Make p.0 p.1) (places_told most_made items)

-- `run`: a number below 2^32, a count from 1 to 4,096, and whether its flag is given
abbrev pub run_of : List Item → Option Command
run_of items = option_map (λ p. command.Run p.0 p.1 (is_given ideal_name items)) (places_told most_ran items)

-- a command that has nothing behind its name
abbrev pub bare_in : Command → List Text → Option Command
bare_in c words = option_map (λ items. c) (items_in bare_row words)

abbrev pub ticks_in : List Text → Option Command
ticks_in words = option_and_then ticks_of (items_in ticks_row words)

abbrev pub replay_in : List Text → Option Command
replay_in words = option_and_then replay_of (items_in replay_row words)

abbrev pub make_in : List Text → Option Command
make_in words = option_and_then make_of (items_in make_row words)

-- the flag of `run` stands in front of a number
abbrev pub ideal_is_early : List Text → Bool
ideal_is_early words = has (take 2 words) (dashed ideal_name)

abbrev pub run_in : List Text → Option Command
run_in words = if ideal_is_early words then None else option_and_then run_of (items_in run_row words)

-- the names of the commands
abbrev pub command_names : List Text
command_names = codes "stamps" ∷ codes "rtt" ∷ codes "estimate" ∷ codes "ticks" ∷ codes "replay" ∷ codes "make" ∷ codes "run"
    ∷ codes "capture" ∷ []

-- words begin with the name of a command
abbrev pub begins_with_name : List Text → Bool
begins_with_name [] = false
begins_with_name (name ∷ words) = has command_names name

-- the command that has a name, with what the words behind it say
abbrev pub command_named : Text → List Text → Option Command
command_named name words =
    if bytes_eq name (codes "stamps") then bare_in (command.Report report.Stamps) words
    else (if bytes_eq name (codes "rtt") then bare_in (command.Report report.Rtt) words
    else (if bytes_eq name (codes "estimate") then bare_in (command.Report report.Estimate) words
    else (if bytes_eq name (codes "ticks") then ticks_in words
    else (if bytes_eq name (codes "replay") then replay_in words
    else (if bytes_eq name (codes "make") then make_in words
    else (if bytes_eq name (codes "run") then run_in words
    else (if bytes_eq name (codes "capture") then bare_in command.Capture words
    else None)))))))

-- the command that words are, if they are a line
unfoldable pub command_in : List Text → Option Command
command_in [] = None
command_in (name ∷ words) = command_named name words

-- the words are a line of the program, which is this command
pub data IsLine : List Text → Command → Type 0 where
  stamps : IsLine (codes "stamps" ∷ []) (command.Report report.Stamps)
  rtt : IsLine (codes "rtt" ∷ []) (command.Report report.Rtt)
  estimate : IsLine (codes "estimate" ∷ []) (command.Report report.Estimate)
  ticks : (words : List Text) (items : List Item) (n : ℕ) (timers : Option ℕ) → AreWritten ticks_row words items → ticks_told items ≡ Some n
      → timers_told items ≡ Some timers → IsLine (codes "ticks" ∷ words) (command.Report (report.Ticks n timers))
  replay : (words : List Text) (items : List Item) (n readers reads : ℕ) → AreWritten replay_row words items → ticks_told items ≡ Some n
      → readers_told items ≡ Some readers → reads_told items ≡ Some reads → has_both items ≡ false
      → IsLine (codes "replay" ∷ words) (command.Report (report.Replay n readers reads (is_given back_name items) (is_given crank_name items)
      (is_given utc_name items) (is_given lane_name items)))
  make : (first second : Text) (number count : ℕ) → number_within 0 (2 ^ 32 - 1) first ≡ Some number → number_within 1 most_made second ≡ Some count
      → IsLine (codes "make" ∷ first ∷ second ∷ []) (command.Make number count)
  run : (first second : Text) (number count : ℕ) → number_within 0 (2 ^ 32 - 1) first ≡ Some number → number_within 1 most_ran second ≡ Some count
      → IsLine (codes "run" ∷ first ∷ second ∷ []) (command.Run number count false)
  ideal_run : (first second : Text) (number count : ℕ) → number_within 0 (2 ^ 32 - 1) first ≡ Some number
      → number_within 1 most_ran second ≡ Some count → IsLine (codes "run" ∷ first ∷ second ∷ codes "--ideal" ∷ []) (command.Run number count true)
  capture : IsLine (codes "capture" ∷ []) command.Capture

-- what is found is the command of a line, and nothing where words are no line
abbrev pub IsCommandOf : List Text → Option Command → Type 0
IsCommandOf words found = (c : Command) → (found ≡ Some c) ↔ IsLine words c

-- the numbers of a report are in their ranges, and its flags go together
abbrev pub IsReportInRange : Report → Type 0
IsReportInRange report.Stamps = Unit {0}
IsReportInRange report.Rtt = Unit {0}
IsReportInRange report.Estimate = Unit {0}
IsReportInRange (report.Ticks n timers) = (n ≤ most_ticks) × IfSome timers (λ m. m ≤ most_timers)
IsReportInRange (report.Replay n readers reads back crank utc lane) = (n ≤ most_ticks) × (readers ≤ most_readers) × (reads ≤ most_reads)
    × (lane ≡ true → crank ≡ false)

-- the numbers of a command are in their ranges
abbrev pub IsCommandInRange : Command → Type 0
IsCommandInRange (command.Report r) = IsReportInRange r
IsCommandInRange (command.Make number count) = (number < 2 ^ 32) × (1 ≤ count) × (count ≤ most_made)
IsCommandInRange command.Capture = Unit {0}
IsCommandInRange (command.Run number count ideal) = (number < 2 ^ 32) × (1 ≤ count) × (count ≤ most_ran)
