use Rattle.std.proofs.Common.{◌≡◌, length}
use Rattle.rad_io.proofs.Written.{Passed}
use Rattle.rad_io.proofs.streams.StdSinkSink.push.Given as goal

abbrev pub invariant-loop-rest : goal.invariant-loop-rest
invariant-loop-rest g l = record {
  same : l.self.faults ≡ l.initial.self.faults;
  passed : Passed g.W.Writer.contents g.W.Writer.write_gives l.initial.self.writer l.piece l.rest l.self.writer;
}

abbrev pub decreases-loop-rest : goal.decreases-loop-rest
decreases-loop-rest g l = length l.rest
