-- While a capture is read.
use Rattle.std.specs.Prelude.{◌≡◌, ℕ, ◌≤◌, ◌<◌, List, length, None}
use Rattle.std.specs.List.{All}
use Rattle.ntp_capture.specs.Grammar.{given, fault_so_far}
use Rattle.ntp_capture.specs.Kept.{Kept}
use Rattle.ntp_capture.specs.Kept.{StandsFor as ReaderStandsFor}
use Rattle.ntp_capture.specs.Matches.{StandsFor as MatcherStandsFor}
use Rattle.ntp_capture.specs.declared.matches.Request.{Request}
use Rattle.ntp_capture.specs.declared.pieces.Piece.{Piece}
use Rattle.capture_text.specs.Inputs.{records_in, freq_after, answers_of, exchanges_in, most_exchanges, IsAnswerTimed}
use Rattle.capture_text.specs.declared.inputs.CaptureFile.{CaptureFile}
use Rattle.capture_text.specs.declared.inputs.CaptureStop.{CaptureStop}
use Rattle.capture_text.specs.declared.inputs.CaptureStop.TheVariants as stop

-- what a file and a matcher keep of these units
pub record Gathers (file : CaptureFile) (matcher : List Request) (pieces : List Piece) : Type 0 where
  pub freq : file.freq ≡ freq_after 0 pieces
  pub matches : MatcherStandsFor matcher (records_in pieces)
  pub records : file.records ≡ length (records_in pieces)
  pub answers : file.answers.items ≡ answers_of pieces
  pub exchanges : file.exchanges ≡ exchanges_in (answers_of pieces)
  pub few : exchanges_in (answers_of pieces) ≤ most_exchanges
  pub timed : All IsAnswerTimed (answers_of pieces)

-- units give more stamps than there may be
pub record PassesLimit (s : CaptureStop) (pieces : List Piece) : Type 0 where
  pub limit : s ≡ stop.ManyExchanges
  pub many : most_exchanges < exchanges_in (answers_of pieces)

-- a reader, a matcher and a file stand for a text without a fault
pub record Reads (k : Kept) (matcher : List Request) (file : CaptureFile) (text : List ℕ) : Type 0 where
  pub stands : ReaderStandsFor k text
  pub sound : fault_so_far text ≡ None
  pub gathers : Gathers file matcher (given text)
  pub few : length (given text) ≤ length text

-- want of memory, or a stop of the input with this property
abbrev pub IsInputStop : CaptureStop → Type 0 → Type 0
IsInputStop stop.Memory P = Unit {0}
IsInputStop stop.ManyExchanges P = P
IsInputStop (stop.Fault fault) P = P
