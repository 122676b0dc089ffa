use Rattle.std.proofs.Common.{[], refl, inl, inr}
use Rattle.report_text.specs.Text.{fault_text}
use Rattle.rad_io.proofs.Chains.{wrote_nothing, wrote_more, broke}
use Rattle.radclock_run.proofs.faults.refuse.Goals as goal

pub returns-in-Ok : goal.returns-in-Ok
returns-in-Ok g c =
    let sink = g.met.K.Sink in
    inl (
      refl,
      wrote_more _ _ _ _ _ _ [] (fault_text c.args.fault) (sink.appends _ _ _ _ c.in-Ok.ensures) (sink.cause _ _ _ _ c.in-Ok.ensures)
          (wrote_nothing _ _ _ _) c.in-Ok.ensures,
    )

pub returns-in-Err : goal.returns-in-Err
returns-in-Err g c =
    let sink = g.met.K.Sink in
    inr (
      refl,
      broke _ _ _ _ _ _ [] (fault_text c.args.fault) [] (sink.appends _ _ _ _ c.in-Err.ensures) (sink.cause _ _ _ _ c.in-Err.ensures)
          (wrote_nothing _ _ _ _) c.in-Err.ensures,
    )
