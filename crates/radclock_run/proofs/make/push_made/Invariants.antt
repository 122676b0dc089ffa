use Rattle.std.proofs.Common.{◌≡◌, ◌≤◌, ◌-◌}
use Rattle.radclock_run.proofs.Filing.{Filing}
use Rattle.radclock_run.proofs.make.push_made.Given as goal

abbrev pub invariant-loop-made : goal.invariant-loop-made
invariant-loop-made g l = record {
  of : (l.maker.number ≡ l.number) × (l.maker.count ≡ l.count);
  within : l.maker.made ≤ l.count;
  filing : Filing g.K.Sink.written g.K.Sink.faults g.K.Sink.push_gives l.number l.count l.maker.made l.fn.sink l.sink;
}

abbrev pub decreases-loop-made : goal.decreases-loop-made
decreases-loop-made g l = l.count - l.maker.made
