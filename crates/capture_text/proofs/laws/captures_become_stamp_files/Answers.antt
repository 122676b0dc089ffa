use Rattle.ntp_capture.specs.Grammar.{given}
use Rattle.capture_text.specs.Files.{lines_of_capture}
use Rattle.capture_text.specs.Inputs.{freq_after, answers_of}
use Rattle.capture_text.proofs.FileLaws.{fault_of_file-capture, given_of_file-capture}
use Rattle.capture_text.proofs.Ranges.{answers-in-range, freq-in-range}
use Rattle.capture_text.proofs.laws.captures_become_stamp_files.Goals as goal

pub returns-clause-sound : goal.returns-clause-sound
unfolding lines_of_capture
returns-clause-sound c text all short none =
    let freq = freq-in-range text all none in
    fault_of_file-capture (freq_after 0 (given text)) (answers_of (given text)) freq.0 freq.1 (answers-in-range text all short)

pub returns-clause-given : goal.returns-clause-given
unfolding lines_of_capture
returns-clause-given c text all short none =
    let freq = freq-in-range text all none in
    given_of_file-capture (freq_after 0 (given text)) (answers_of (given text)) freq.0 freq.1 (answers-in-range text all short)
