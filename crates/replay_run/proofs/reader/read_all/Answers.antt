use Rattle.std.proofs.Common.{◌∙◌, arith}
use Rattle.replay_run.specs.Logs.{tried_by}
use Rattle.replay_run.proofs.Reading.{reads-more}
use Rattle.replay_run.proofs.reader.read_all.Goals as goal

pub loop-k-preserved : goal.loop-k-preserved
loop-k-preserved g c =
    let l = c.loop-k in
    record {
      reads = reads-more c.args.freq (tried_by c.args.options) l.entries.items _ _ _ l.k l.latest _ c.kind_at.result c.attempt-entry.result
          c.kind_at.ensures c.push_reserved.ensures.items c.latest_with-latest.ensures l.invariant.reads c.attempt-entry.ensures;
      room = omega (arith, c.push_reserved.ensures.capacity, l.invariant.room);
      table = c.attempt-entry.ensures.table ∙ l.invariant.table;
      number = c.attempt-entry.ensures.grows.number ∙ l.invariant.number;
    }
