-- A text cut into its lines, and a line without its carriage return.
use Rattle.std.specs.Prelude.{ℕ, ◌-◌, List, [], ◌∷◌, ◌++◌, length, get_or, take, drop, codes, if◌then◌else◌, ◌==◌}
use Rattle.std.specs.List.{slice_split}
use Rattle.std.specs.Str.{bytes_eq}
use Rattle.stamp_text.specs.Format.{line_feed}

-- a text, cut at each line feed
abbrev pub parts_of : List ℕ → List (List ℕ)
parts_of text = slice_split (λ b. b == line_feed) text

-- the lines that a line feed ends, each without it: all parts but the last
abbrev pub ended_lines : List ℕ → List (List ℕ)
ended_lines text = take (length (parts_of text) - 1) (parts_of text)

-- what follows the last line feed, the line that has not ended: the last part
abbrev pub open_line : List ℕ → List ℕ
open_line text = get_or (parts_of text) (length (parts_of text) - 1) []

-- an open line is a line at the end of the text, if it has bytes
abbrev pub with_last : List (List ℕ) → List ℕ → List (List ℕ)
with_last lines [] = lines
with_last lines (b ∷ bs) = lines ++ (b ∷ bs) ∷ []

-- the lines of a text that has ended
abbrev pub file_lines : List ℕ → List (List ℕ)
file_lines text = with_last (ended_lines text) (open_line text)

-- a line without one carriage return at its end
abbrev pub without_return : List ℕ → List ℕ
without_return line = if bytes_eq (drop (length line - 1) line) (codes "\r") then take (length line - 1) line else line
