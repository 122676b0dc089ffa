use Rattle.std.proofs.Common.{[]}
use Rattle.std.proofs.lemmas.Result.{IfOk-weaker, IfErr-weaker}
use Rattle.radclock_input.proofs.PacketLaws.{reads-nothing-stops}
use Rattle.radclock_input.proofs.captures.read_capture.Goals as goal

pub read_all-requires-clause-fresh : goal.read_all-requires-clause-fresh
read_all-requires-clause-fresh g c = (tt, record { read = c.new.ensures; sound = reads-nothing-stops _ _ _ [] c.new.ensures })

pub returns-clause-ok : goal.returns-clause-ok
returns-clause-ok g c = IfOk-weaker c.read_all.result _ _ (λ file ok. ok tt
    (record { read = c.new.ensures; sound = reads-nothing-stops _ _ _ [] c.new.ensures })) c.read_all.ensures.ok

pub returns-clause-err : goal.returns-clause-err
returns-clause-err g c = IfErr-weaker c.read_all.result _ _ (λ s err. err tt
    (record { read = c.new.ensures; sound = reads-nothing-stops _ _ _ [] c.new.ensures })) c.read_all.ensures.err
