use Rattle.std.proofs.Common.{refl, rules}
use Rattle.rad_io.proofs.Written.{passed_none, passed_more, halts}
use Rattle.rad_io.proofs.streams.StdSinkSink.push.Goals as goal

pub loop-rest-init : goal.loop-rest-init
loop-rest-init g c = record { same = refl; passed = passed_none _ _ _ _ }

pub loop-rest-preserved : goal.loop-rest-preserved
loop-rest-preserved g c = record {
  same = search rules;
  passed = passed_more _ _ _ _ _ _ _ _ _ _ c.in_ok-count.count g.met.W.Writer.appends c.loop-rest.invariant.passed c.write_once.ensures.once
      c.in_ok-count.ensures;
}

pub returns-in_err-count : goal.returns-in_err-count
returns-in_err-count g c = record {
  once = halts _ _ _ _ _ _ _ _ _ _ _ _ _ g.met.W.Writer.appends c.loop-rest.invariant.same c.loop-rest.invariant.passed (search rules)
      c.write_once.ensures.once c.in_err-count.ensures c.from_residual.ensures.0;
}
