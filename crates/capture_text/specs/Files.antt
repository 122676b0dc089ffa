-- The stamp file that a capture becomes.
use Rattle.std.specs.Prelude.{ℕ, List, ◌∷◌, map}
use Rattle.ntp_capture.specs.Grammar.{given}
use Rattle.capture_text.specs.Inputs.{freq_after, answers_of}
use Rattle.capture_text.specs.Text.{version_text, freq_text, exchange_text, unused_text}
use Rattle.capture_text.specs.declared.inputs.Answer.{Answer}
use Rattle.capture_text.specs.declared.inputs.Answer.TheVariants as answer

-- the line of a reply
abbrev pub answer_text : Answer → List ℕ
answer_text (answer.Unused n) = unused_text n
answer_text (answer.Exchange e) = exchange_text e

-- the lines of a file: the version, the frequency, and one for each reply
unfoldable pub stamp_lines : ℕ → List Answer → List (List ℕ)
stamp_lines freq answers = version_text ∷ freq_text freq ∷ map answer_text answers

-- what a capture becomes
unfoldable pub lines_of_capture : List ℕ → List (List ℕ)
lines_of_capture text = stamp_lines (freq_after 0 (given text)) (answers_of (given text))
