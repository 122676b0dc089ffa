use Rattle.radclock_run.proofs.Blocking.{run-in-blocks}
use Rattle.radclock_run.proofs.output.run_in_blocks.Goals as goal

pub returns-in-Ok-clause-ran : goal.returns-in-Ok-clause-ran
returns-in-Ok-clause-ran g c = run-in-blocks _ _ _ _ _ _ _ _ _ _ _ _ _ _ _ _ c.in-Ok.ensures.ok c.run-status.ensures c.close-last.ensures
    c.ended.ensures.ok c.ended.ensures.err
