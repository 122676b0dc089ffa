-- What a stamp file says, line by line, and where it is refused first.
use Rattle.std.specs.Prelude.{ℕ, ◌+◌, List, [], ◌∷◌, Bool, true, false, ◌&&◌, ◌||◌, nat_le, nat_lt, if◌then◌else◌, ◌==◌, Option, None, Some, Result, Ok, Err, codes, length, take, drop}
use Rattle.std.specs.Str.{bytes_eq}
use Rattle.stamp_text.specs.Format.{number_sign, line_limit, least_freq, greatest_freq}
use Rattle.stamp_text.specs.Cut.{ended_lines, open_line, file_lines, without_return}
use Rattle.stamp_text.specs.Digits.{number_in}
use Rattle.stamp_text.specs.Items.{item_in}
use Rattle.stamp_text.specs.declared.lines.Line.{Line}
use Rattle.stamp_text.specs.declared.lines.Line.TheVariants as gives
use Rattle.stamp_text.specs.declared.lines.LineFault.{LineFault}
use Rattle.stamp_text.specs.declared.lines.Item.{Item}
use Rattle.stamp_text.specs.declared.lines.Item.TheVariants as item
use Rattle.stamp_text.specs.declared.lines.Why.{Why}
use Rattle.stamp_text.specs.declared.lines.Why.TheVariants as why

-- line 1 says which version it is
abbrev pub is_second : List ℕ → Bool
is_second line = bytes_eq line (codes "radclock-stamps 2")

abbrev pub version_says : List ℕ → Result (Option Line) Why
version_says line = if bytes_eq line (codes "radclock-stamps 1") || is_second line then Ok None else Err why.Head

-- whether lines are those of a file of version 2: the first of them says so
abbrev pub second_of : List (List ℕ) → Bool
second_of [] = false
second_of (line ∷ lines) = is_second (without_return line)

-- a frequency from 1 MHz to 16 GHz
abbrev pub freq_within : Option ℕ → Option ℕ
freq_within None = None
freq_within (Some n) = if nat_le least_freq n && nat_le n greatest_freq then Some n else None

abbrev pub freq_in : List ℕ → Option ℕ
freq_in line = if bytes_eq (take 5 line) (codes "freq ") then freq_within (number_in (drop 5 line)) else None

abbrev pub version_of : Bool → ℕ
version_of second = if second then 2 else 1

-- a head is given by line 2, with what line 1 said
abbrev pub head_of : Bool → Option ℕ → Result (Option Line) Why
head_of second None = Err why.Freq
head_of second (Some n) = Ok (Some (gives.Head (record { version = version_of second; freq = n })))

-- line 2
abbrev pub freq_says : Bool → List ℕ → Result (Option Line) Why
freq_says second line = head_of second (freq_in line)

-- a line without bytes, or a comment
abbrev pub is_skipped : List ℕ → Bool
is_skipped [] = true
is_skipped (b ∷ bs) = b == number_sign

-- an item with the number of its line
abbrev pub line_of : ℕ → Item → Line
line_of n (item.Stamp stamp) = gives.Stamp n stamp
line_of n (item.Set count at) = gives.Set n count at
line_of n (item.Leap count leap) = gives.Leap n count leap

abbrev pub item_at : ℕ → Result Item Why → Result (Option Line) Why
item_at n (Ok x) = Ok (Some (line_of n x))
item_at n (Err w) = Err w

-- a line from 3 on
abbrev pub entry_says : Bool → ℕ → List ℕ → Result (Option Line) Why
entry_says second n line = if is_skipped line then Ok None else item_at n (item_in second line)

-- what the line of a number says, by its text
abbrev pub text_says : Bool → ℕ → List ℕ → Result (Option Line) Why
text_says second n line = if n == 1 then version_says line else if n == 2 then freq_says second line else entry_says second n line

-- what the line of a number says that is not too long
abbrev pub short_says : Bool → ℕ → List ℕ → Result (Option Line) Why
short_says second n line = text_says second n (without_return line)

-- what the line of a number says; a carriage return at its end counts in its length
abbrev pub line_says : Bool → ℕ → List ℕ → Result (Option Line) Why
line_says second n line = if nat_lt line_limit (length line) then Err why.LongLine else short_says second n line

-- the lines that are given, from line n on up to the first that is refused
abbrev pub given_on : Result (Option Line) Why → List Line → List Line
given_on (Ok None) more = more
given_on (Ok (Some x)) more = x ∷ more
given_on (Err w) more = []

abbrev pub given_from : Bool → ℕ → List (List ℕ) → List Line
given_from second n [] = []
given_from second n (line ∷ lines) = given_on (line_says second n line) (given_from second (n + 1) lines)

-- the first fault of the lines, from line n on
abbrev pub fault_on : ℕ → Result (Option Line) Why → Option LineFault → Option LineFault
fault_on n (Ok o) later = later
fault_on n (Err w) later = Some (record { line = n; why = w })

abbrev pub fault_from : Bool → ℕ → List (List ℕ) → Option LineFault
fault_from second n [] = None
fault_from second n (line ∷ lines) = fault_on n (line_says second n line) (fault_from second (n + 1) lines)

-- a fault of a line that has not ended: it is too long already
abbrev pub early_fault : ℕ → List ℕ → Option LineFault
early_fault n line = if nat_lt line_limit (length line) then Some (record { line = n; why = why.LongLine }) else None

abbrev pub first_fault : Option LineFault → Option LineFault → Option LineFault
first_fault None later = later
first_fault (Some f) later = Some f

-- the first fault of the lines of a file, and what they give
abbrev pub faults : List (List ℕ) → Option LineFault
faults lines = fault_from (second_of lines) 1 lines

abbrev pub gives_all : List (List ℕ) → List Line
gives_all lines = given_from (second_of lines) 1 lines

-- the first fault of a text that may go on
unfoldable pub fault_so_far : List ℕ → Option LineFault
fault_so_far text = first_fault (faults (ended_lines text)) (early_fault (length (ended_lines text) + 1) (open_line text))

-- what the lines of a text give that have ended
unfoldable pub given : List ℕ → List Line
given text = gives_all (ended_lines text)

-- a file that ends before its second line
abbrev pub missing : ℕ → Option LineFault
missing n = if n == 0 then Some (record { line = 1; why = why.Head }) else if n == 1 then Some (record { line = 2; why = why.Freq }) else None

-- the first fault of a whole file
unfoldable pub fault_of_file : List ℕ → Option LineFault
fault_of_file text = first_fault (faults (file_lines text)) (missing (length (file_lines text)))

-- what the lines of a whole file give
unfoldable pub given_of_file : List ℕ → List Line
given_of_file text = gives_all (file_lines text)
