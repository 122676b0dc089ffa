use Rattle.std.proofs.Common.{[], ◌∙◌}
use Rattle.std.proofs.lemmas.Result.{IfOk-weaker, IfErr-weaker}
use Rattle.radclock_input.proofs.Gathering.{reads-within}
use Rattle.radclock_input.proofs.stamps.read_file.Goals as goal

pub read_all-requires-clause-fresh : goal.read_all-requires-clause-fresh
read_all-requires-clause-fresh g c = (c.args.limited, record { read = c.new.ensures; sound = reads-within _ _ _ _ [] c.new.ensures })

pub returns-clause-ok : goal.returns-clause-ok
returns-clause-ok g c = IfOk-weaker c.read_all.result _ _ (λ file ok. ok c.args.limited
    (record { read = c.new.ensures; sound = reads-within _ _ _ _ [] c.new.ensures })) c.read_all.ensures.ok

pub returns-clause-err : goal.returns-clause-err
returns-clause-err g c = IfErr-weaker c.read_all.result _ _ (λ s err. err c.args.limited
    (record { read = c.new.ensures; sound = reads-within _ _ _ _ [] c.new.ensures })) c.read_all.ensures.err
