-- What a capture says to a stamp file, and where it is not read further.
use Rattle.std.specs.Prelude.{◌≡◌, ℕ, ◌+◌, Bool, true, false, List, [], ◌∷◌, ◌++◌, filter_map, if◌then◌else◌, nat_lt, Option, None, Some, option_to_list}
use Rattle.std.specs.List.{count_by, All}
use Rattle.std.specs.Option.{option_map}
use Rattle.ntp_capture.specs.Grammar.{given, fault_so_far, fault_of_capture}
use Rattle.ntp_capture.specs.Matches.{gots, IsExchangeTimed}
use Rattle.ntp_capture.specs.declared.exchanges.Got.{Got}
use Rattle.ntp_capture.specs.declared.exchanges.Got.TheVariants as got
use Rattle.ntp_capture.specs.declared.pieces.CapFault.{CapFault}
use Rattle.ntp_capture.specs.declared.pieces.Piece.{Piece}
use Rattle.ntp_capture.specs.declared.pieces.Piece.TheVariants as piece
use Rattle.ntp_capture.specs.declared.pieces.Record.{Record}
use Rattle.capture_text.specs.declared.inputs.Answer.{Answer}
use Rattle.capture_text.specs.declared.inputs.Answer.TheVariants as answer
use Rattle.capture_text.specs.declared.inputs.CaptureFile.{CaptureFile}
use Rattle.capture_text.specs.declared.inputs.CaptureStop.{CaptureStop}
use Rattle.capture_text.specs.declared.inputs.CaptureStop.TheVariants as stop

-- the most exchanges of a capture: as many as a stamp file may have stamps
abbrev pub most_exchanges : ℕ
most_exchanges = 65536

-- the records among what a capture gives
abbrev pub record_of : Piece → Option Record
record_of (piece.Freq freq) = None
record_of (piece.Record r) = Some r

abbrev pub records_in : List Piece → List Record
records_in pieces = filter_map record_of pieces

-- the frequency that the last head gives, behind a frequency
abbrev pub freq_with : ℕ → Piece → ℕ
freq_with freq (piece.Freq n) = n
freq_with freq (piece.Record r) = freq

abbrev pub freq_after : ℕ → List Piece → ℕ
freq_after freq [] = freq
freq_after freq (p ∷ ps) = freq_after (freq_with freq p) ps

-- what the reply of a record with this index becomes
abbrev pub answer_at : ℕ → Got → Option Answer
answer_at n got.Nothing = None
answer_at n got.Unused = Some (answer.Unused n)
answer_at n (got.Exchange e) = Some (answer.Exchange e)

abbrev pub answers_from : ℕ → List Got → List Answer
answers_from n [] = []
answers_from n (g ∷ gs) = option_to_list (answer_at n g) ++ answers_from (n + 1) gs

-- what the replies of a capture become
unfoldable pub answers_of : List Piece → List Answer
answers_of pieces = answers_from 0 (gots (records_in pieces))

abbrev pub is_exchange : Answer → Bool
is_exchange (answer.Unused n) = false
is_exchange (answer.Exchange e) = true

abbrev pub exchanges_in : List Answer → ℕ
exchanges_in answers = count_by is_exchange answers

-- the nanoseconds of a stamp are less than a second
abbrev pub IsAnswerTimed : Answer → Type 0
IsAnswerTimed (answer.Unused n) = Unit {0}
IsAnswerTimed (answer.Exchange e) = IsExchangeTimed e

-- what stops a capture that gives these pieces and has this first fault. Pieces are given up to the first fault, so a
-- limit that they pass stands before it.
abbrev pub stop_by : List Piece → Option CapFault → Option CaptureStop
stop_by pieces fault = if nat_lt most_exchanges (exchanges_in (answers_of pieces)) then Some (stop.ManyExchanges) else option_map stop.Fault fault

-- the first stop of bytes that may go on, as many as are read
unfoldable pub stop_within : List ℕ → Option CaptureStop
stop_within text = stop_by (given text) (fault_so_far text)

-- the first stop of a whole capture that is not too long
unfoldable pub stop_of_capture : List ℕ → Option CaptureStop
stop_of_capture text = stop_by (given text) (fault_of_capture text)

-- what was read is that of a whole capture that nothing stops
pub record IsFileOf (file : CaptureFile) (text : List ℕ) : Type 0 where
  pub sound : stop_of_capture text ≡ None
  pub freq : file.freq ≡ freq_after 0 (given text)
  pub answers : file.answers.items ≡ answers_of (given text)
  pub timed : All IsAnswerTimed file.answers.items
