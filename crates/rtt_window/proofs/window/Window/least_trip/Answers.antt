use Rattle.std.proofs.Common.{◌∙◌}
use Rattle.rtt_window.specs.Windows.{stamps_in}
use Rattle.rtt_window.proofs.FirstLeasts.{least-by-first}
use Rattle.rtt_window.proofs.window.Window.least_trip.Goals as goal

pub returns : goal.returns
returns c = c.trip.ensures ∙ least-by-first (stamps_in c.args.self.now c.args.which) c.least_in.result c.least_in.ensures.value
