-- The lines that a capture becomes.
use Rattle.std.specs.Prelude.{ℕ, List, ◌++◌, codes, decimal}
use Rattle.ntp_capture.specs.declared.exchanges.Exchange.{Exchange}
use Rattle.report_text.specs.Text.{written_text}

-- the first line of a stamp file of version 2
unfoldable pub version_text : List ℕ
version_text = codes "radclock-stamps 2\n"

-- the line of the counter's nominal frequency in Hz
unfoldable pub freq_text : ℕ → List ℕ
freq_text freq = codes "freq " ++ decimal freq ++ codes "\n"

-- what a stamp of version 2 says of an exchange: the counts and times of request and reply, the stratum, and the
-- leap indicator
unfoldable pub exchange_row : Exchange → List ℕ
exchange_row e = decimal e.ta ++ codes " " ++ written_text e.tb ++ codes " " ++ written_text e.te ++ codes " " ++ decimal e.tf
    ++ codes " " ++ decimal e.stratum ++ codes " " ++ decimal e.leap

-- its line
unfoldable pub exchange_text : Exchange → List ℕ
exchange_text e = exchange_row e ++ codes "\n"

-- the comment on a reply that takes no request, with the index of its record
unfoldable pub unused_text : ℕ → List ℕ
unused_text index = codes "# unused " ++ decimal index ++ codes "\n"
