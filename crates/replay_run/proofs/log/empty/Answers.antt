use Rattle.std.proofs.Common.{None, refl}
use Rattle.replay_run.specs.Logs.{IsEmpty}
use Rattle.replay_run.specs.declared.log.ReadLog.{ReadLog}
use Rattle.replay_run.proofs.Opening.{empty-next}
use Rattle.replay_run.proofs.log.empty.Goals as goal

pub loop-reader-preserved : goal.loop-reader-preserved
loop-reader-preserved c =
    let entries = c.in_ok-entries.ensures in
    let log : ReadLog = record { reader = c.loop-reader.reader; entries = c.in_ok-entries.entries; pass = None } in
    let is : IsEmpty c.args.reads c.loop-reader.reader log = record { reader = refl; items = entries.items; room = entries.capacity } in
    record { empty = empty-next c.args.reads c.loop-reader.reader _ _ log c.loop-reader.invariant.empty is c.in_ok-push.ensures.items }
