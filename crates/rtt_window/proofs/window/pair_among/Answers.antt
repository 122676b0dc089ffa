use Rattle.std.proofs.Common.{arith}
use Rattle.rtt_window.proofs.Pairing.{pair_of-some}
use Rattle.rtt_window.proofs.window.pair_among.Goals as goal

pub returns : goal.returns
returns c =
    pair_of-some c.args.reach c.len-end.result c.min-near.result c.quarter-quarter.result c.args.stamps.now.items c.first_least-j.result c.first_least-k.result
    c.len-end.ensures.len (omega arith) c.requires.two c.min-near.ensures (omega arith) c.first_least-j.ensures c.first_least-k.ensures
