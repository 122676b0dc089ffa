use Rattle.rtt_window.proofs.Prefixes.{base_at-append}
use Rattle.rtt_window.proofs.laws.bases_stay.Goals as goal

pub returns : goal.returns
returns c = base_at-append
