-- What a reader of stamp files keeps, and which texts that stands for.
use Rattle.std.specs.Prelude.{◌≡◌, ℕ, Bool, List, [], ◌∷◌, ◌++◌, length, Option, None, Some, Result, MatchOption, MatchResult, option_to_list}
use Rattle.stamp_text.specs.Cut.{ended_lines, open_line}
use Rattle.stamp_text.specs.Grammar.{second_of, fault_so_far, given, fault_of_file, given_of_file}
use Rattle.stamp_text.specs.declared.lines.Line.{Line}
use Rattle.stamp_text.specs.declared.lines.LineFault.{LineFault}

-- how many lines have ended, whether the first of them said that the file is of version 2, the bytes of the
-- line that has not ended, and the fault that was found
pub record Kept : Type 0 where
  pub ended : ℕ
  pub second : Bool
  pub line : List ℕ
  pub fault : Option LineFault

-- no fault in the text, and these lines and bytes of it
pub record IsAt (ended : ℕ) (second : Bool) (line text : List ℕ) : Type 0 where
  pub sound : fault_so_far text ≡ None
  pub lines : ended ≡ length (ended_lines text)
  pub version : second ≡ second_of (ended_lines text)
  pub last : line ≡ open_line text

-- a reader that keeps this may have read this text
abbrev pub StandsFor : Kept → List ℕ → Type 0
StandsFor k text = MatchOption k.fault (IsAt k.ended k.second k.line text) (λ f. fault_so_far text ≡ Some f)

-- the answer to the byte b behind the text
abbrev pub AnswersByte : List ℕ → ℕ → Result (Option Line) LineFault → Type 0
AnswersByte text b r = MatchResult r
    (λ line. (fault_so_far (text ++ b ∷ []) ≡ None) × (given (text ++ b ∷ []) ≡ given text ++ option_to_list line))
    (λ f. fault_so_far (text ++ b ∷ []) ≡ Some f)

-- the answer to bytes behind the text, of which none but the last ends a line or is refused
abbrev pub AnswersBytes : List ℕ → List ℕ → Result (Option Line) LineFault → Type 0
AnswersBytes text bytes r = MatchResult r
    (λ line. (fault_so_far (text ++ bytes) ≡ None) × (given (text ++ bytes) ≡ given text ++ option_to_list line))
    (λ f. (fault_so_far (text ++ bytes) ≡ Some f) × (given (text ++ bytes) ≡ given text))

-- the answer to the end behind the text
abbrev pub AnswersEnd : List ℕ → Result (Option Line) LineFault → Type 0
AnswersEnd text r = MatchResult r
    (λ line. (fault_of_file text ≡ None) × (given_of_file text ≡ given text ++ option_to_list line))
    (λ f. fault_of_file text ≡ Some f)

-- each file that begins with the text has this fault first
abbrev pub IsFaultOfAll : List ℕ → LineFault → Type 0
IsFaultOfAll text f = (more : List ℕ) → fault_of_file (text ++ more) ≡ Some f
