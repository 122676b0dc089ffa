use Rattle.stamp_maker.proofs.Accepting.{made-came, made-left}
use Rattle.stamp_maker.proofs.laws.server_times_are_true.Goals as goal

pub returns : goal.returns
returns c = record { came = made-came; left = made-left }
