use Rattle.capture_text.proofs.FileLaws.{fault_of_file-capture, given_of_file-capture}
use Rattle.capture_text.proofs.laws.capture_files_are_read.Goals as goal

pub returns-clause-sound : goal.returns-clause-sound
returns-clause-sound c = fault_of_file-capture

pub returns-clause-given : goal.returns-clause-given
returns-clause-given c = given_of_file-capture
