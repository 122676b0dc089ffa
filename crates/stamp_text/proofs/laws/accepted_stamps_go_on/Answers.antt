use Rattle.std.proofs.lemmas.List.Sums.{fold-append}
use Rattle.stamp_text.specs.Accepted.{accept_of, accepted_with, last_of}
use Rattle.stamp_text.proofs.laws.accepted_stamps_go_on.Goals as goal

pub returns : goal.returns
returns c freq accepted stamps more = fold-append (λ all s. accepted_with all s (accept_of (last_of all) s freq)) accepted stamps more
