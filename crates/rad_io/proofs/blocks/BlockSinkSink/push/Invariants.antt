use Rattle.std.proofs.Common.{length}
use Rattle.rad_io.specs.Blocks.{Short}
use Rattle.rad_io.proofs.InBlocks.{Taking}
use Rattle.rad_io.proofs.blocks.BlockSinkSink.push.Given as goal

abbrev pub invariant-loop-rest : goal.invariant-loop-rest
invariant-loop-rest g l = record { taking : Taking g.K.Sink.written g.K.Sink.faults (Short g.K.Sink.push_gives) l.initial.self l.piece l.rest l.self }

abbrev pub decreases-loop-rest : goal.decreases-loop-rest
decreases-loop-rest g l = length l.rest
