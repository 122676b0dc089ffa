use Rattle.stamp_text.proofs.VersionLaws.{line-says, file-accepts}
use Rattle.stamp_text.proofs.laws.version_1_is_a_special_case.Goals as goal

pub returns : goal.returns
returns c = record { line = line-says; accepted = file-accepts }
