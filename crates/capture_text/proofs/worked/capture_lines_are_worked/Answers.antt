use Rattle.std.proofs.Common.{refl}
use Rattle.std.specs.Fmt.{digits}
use Rattle.capture_text.specs.Files.{stamp_lines}
use Rattle.capture_text.specs.Text.{version_text, freq_text, exchange_row, exchange_text, unused_text}
use Rattle.capture_text.proofs.worked.capture_lines_are_worked.Goals as goal

pub returns-clause-exchange : goal.returns-clause-exchange
unfolding exchange_row exchange_text digits
returns-clause-exchange c = refl

pub returns-clause-unused : goal.returns-clause-unused
unfolding unused_text digits
returns-clause-unused c = refl

pub returns-clause-file : goal.returns-clause-file
unfolding stamp_lines version_text freq_text exchange_row exchange_text unused_text digits
returns-clause-file c = refl
