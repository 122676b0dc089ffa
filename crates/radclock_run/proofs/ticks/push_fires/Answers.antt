use Rattle.std.proofs.Common.{[], ◌∷◌, refl}
use Rattle.std.proofs.lemmas.Result.{err_from_is_err_and}
use Rattle.rad_io.proofs.Chains.{wrote_nothing, wrote_more, broke}
use Rattle.report_text.specs.Text.{fire_text}
use Rattle.radclock_run.specs.Reports.{fire_lines}
use Rattle.radclock_run.proofs.Listing.{listing-more, listing-breaks, listing-done}
use Rattle.radclock_run.proofs.ticks.push_fires.Goals as goal

pub loop-f-init : goal.loop-f-init
loop-f-init g c = record { listing = record { front = []; wrote = wrote_nothing _ _ _ _; whole = refl } }

pub returns-in_err-fire_line : goal.returns-in_err-fire_line
returns-in_err-fire_line g c =
    let sink = g.met.K.Sink in
    let once = c.in_err-fire_line.ensures in
    let p = err_from_is_err_and c.from_residual.result c.from_residual.ensures.1 in
    let one = broke _ _ _ _ _ _ [] _ [] (sink.appends _ _ _ _ once) (sink.cause _ _ _ _ once) (wrote_nothing _ _ _ _) once in
    rw p.1 (listing-breaks _ _ _ (λ n. fire_lines) (λ n f. fire_text f.tick f.fired ∷ []) (λ n x xs. refl) c.args.fired.now c.loop-f.f-index
    _ _ _ _ c.loop-f-test.true c.loop-f.invariant.listing one)

pub loop-f-preserved : goal.loop-f-preserved
loop-f-preserved g c =
    let sink = g.met.K.Sink in
    let once = c.in_ok-fire_line.ensures in
    let one = wrote_more _ _ _ _ _ _ [] _ (sink.appends _ _ _ _ once) (sink.cause _ _ _ _ once) (wrote_nothing _ _ _ _) once in
    record {
      listing = listing-more _ _ _ (λ n. fire_lines) (λ n f. fire_text f.tick f.fired ∷ []) (λ n x xs. refl) c.args.fired.now
          c.loop-f.f-index _ _ _ _ c.loop-f-test.true c.loop-f.invariant.listing one;
    }

pub returns : goal.returns
returns g c = listing-done _ _ _ (λ n. fire_lines) (λ n. refl) c.args.fired.now c.loop-f.f-index _ _ c.loop-f-test.false c.loop-f.invariant.listing
