-- What the grammar of stamp files says of the file that a capture becomes.
use Rattle.std.specs.Prelude.{ℕ, ◌<◌, ◌+◌, ◌^◌, List, [], ◌∷◌}
use Rattle.ff_grain.specs.Grains.{of_nanos}
use Rattle.ntp_capture.specs.declared.exchanges.Exchange.{Exchange}
use Rattle.stamp_text.specs.declared.lines.Line.{Line}
use Rattle.stamp_text.specs.declared.lines.Line.TheVariants as gives
use Rattle.stamp_text.specs.declared.lines.Stamp.{Stamp}
use Rattle.stamp_maker.specs.MadeStamps.{IsTimePair}
use Rattle.capture_text.specs.declared.inputs.Answer.{Answer}
use Rattle.capture_text.specs.declared.inputs.Answer.TheVariants as answer

-- what eight bits hold
abbrev pub IsByte : ℕ → Type 0
IsByte b = b < 256

-- counters below 2^62, times of seconds below 2^32 and of nanoseconds below 10^9, a stratum of one byte, and a leap
-- indicator of two bits
pub record IsExchangeInRange (e : Exchange) : Type 0 where
  pub ta : e.ta < 2 ^ 62
  pub tb : IsTimePair e.tb
  pub te : IsTimePair e.te
  pub tf : e.tf < 2 ^ 62
  pub stratum : e.stratum < 256
  pub leap : e.leap < 4

-- an index of a record that 64 bits hold, or such an exchange
abbrev pub IsAnswerInRange : Answer → Type 0
IsAnswerInRange (answer.Unused n) = n < 2 ^ 64
IsAnswerInRange (answer.Exchange e) = IsExchangeInRange e

-- the stamp that an exchange is, with its times rounded down to a grain
abbrev pub stamp_of_exchange : Exchange → Stamp
stamp_of_exchange e = record { ta = e.ta; tb = of_nanos e.tb.0 e.tb.1; te = of_nanos e.te.0 e.te.1; tf = e.tf; stratum = e.stratum; leap = e.leap }

-- the stamps among some answers, each with the number of its line, from n on; a comment has a line, too
abbrev pub stamps_from : ℕ → List Answer → List Line
stamps_from n [] = []
stamps_from n (answer.Unused index ∷ later) = stamps_from (n + 1) later
stamps_from n (answer.Exchange e ∷ later) = gives.Stamp n (stamp_of_exchange e) ∷ stamps_from (n + 1) later

-- the head, and the stamps from line 3 on
abbrev pub stamp_file_gives : ℕ → List Answer → List Line
stamp_file_gives freq answers = gives.Head (record { version = 2; freq = freq }) ∷ stamps_from 3 answers
