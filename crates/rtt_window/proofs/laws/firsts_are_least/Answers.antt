use Rattle.rtt_window.proofs.FirstLeasts.{first_least-is}
use Rattle.rtt_window.proofs.laws.firsts_are_least.Goals as goal

pub returns : goal.returns
returns c = first_least-is
