use Rattle.std.proofs.Common.{[], ◌∷◌, refl}
use Rattle.std.proofs.lemmas.Result.{err_from_is_err_and}
use Rattle.rad_io.proofs.Chains.{wrote_nothing, wrote_more, broke}
use Rattle.report_text.specs.Text.{tick_text}
use Rattle.radclock_run.specs.Reports.{tick_lines}
use Rattle.radclock_run.proofs.Listing.{listing-more, listing-breaks, listing-done}
use Rattle.radclock_run.proofs.listings.push_journal.Goals as goal

pub loop-n-init : goal.loop-n-init
loop-n-init g c = record { listing = record { front = []; wrote = wrote_nothing _ _ _ _; whole = refl } }

pub returns-in_err-tick_line : goal.returns-in_err-tick_line
returns-in_err-tick_line g c =
    let sink = g.met.K.Sink in
    let once = c.in_err-tick_line.ensures in
    let p = err_from_is_err_and c.from_residual.result c.from_residual.ensures.1 in
    let one = broke _ _ _ _ _ _ [] _ [] (sink.appends _ _ _ _ once) (sink.cause _ _ _ _ once) (wrote_nothing _ _ _ _) once in
    rw p.1 (listing-breaks _ _ _ tick_lines (λ n h. tick_text n h ∷ []) (λ n x xs. refl) c.args.ticks.now c.loop-n.n _ _ _ _ c.loop-n-test.true
    c.loop-n.invariant.listing one)

pub loop-n-preserved : goal.loop-n-preserved
loop-n-preserved g c =
    let sink = g.met.K.Sink in
    let once = c.in_ok-tick_line.ensures in
    let one = wrote_more _ _ _ _ _ _ [] _ (sink.appends _ _ _ _ once) (sink.cause _ _ _ _ once) (wrote_nothing _ _ _ _) once in
    record {
      listing = listing-more _ _ _ tick_lines (λ n h. tick_text n h ∷ []) (λ n x xs. refl) c.args.ticks.now c.loop-n.n _ _ _ _
          c.loop-n-test.true c.loop-n.invariant.listing one;
    }

pub returns : goal.returns
returns g c = listing-done _ _ _ tick_lines (λ n. refl) c.args.ticks.now c.loop-n.n _ _ c.loop-n-test.false c.loop-n.invariant.listing
