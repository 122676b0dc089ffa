use Rattle.std.proofs.Common.{[], ◌∷◌, refl}
use Rattle.std.proofs.lemmas.Result.{err_from_is_err_and}
use Rattle.rad_io.proofs.Chains.{wrote_nothing, wrote_more, broke}
use Rattle.report_text.specs.Text.{entry_text}
use Rattle.radclock_run.specs.Reports.{entry_lines}
use Rattle.radclock_run.proofs.Listing.{listing-more, listing-breaks, listing-done}
use Rattle.radclock_run.proofs.listings.push_log.Goals as goal

pub loop-k-init : goal.loop-k-init
loop-k-init g c = record { listing = record { front = []; wrote = wrote_nothing _ _ _ _; whole = refl } }

pub returns-in_err-entry_line : goal.returns-in_err-entry_line
returns-in_err-entry_line g c =
    let sink = g.met.K.Sink in
    let once = c.in_err-entry_line.ensures in
    let p = err_from_is_err_and c.from_residual.result c.from_residual.ensures.1 in
    let one = broke _ _ _ _ _ _ [] _ [] (sink.appends _ _ _ _ once) (sink.cause _ _ _ _ once) (wrote_nothing _ _ _ _) once in
    rw p.1 (listing-breaks _ _ _ (entry_lines c.args.reader) (λ k e. entry_text c.args.reader k e ∷ []) (λ n x xs. refl) c.args.entries.now
    c.loop-k.k _ _ _ _ c.loop-k-test.true c.loop-k.invariant.listing one)

pub loop-k-preserved : goal.loop-k-preserved
loop-k-preserved g c =
    let sink = g.met.K.Sink in
    let once = c.in_ok-entry_line.ensures in
    let one = wrote_more _ _ _ _ _ _ [] _ (sink.appends _ _ _ _ once) (sink.cause _ _ _ _ once) (wrote_nothing _ _ _ _) once in
    record {
      listing = listing-more _ _ _ (entry_lines c.args.reader) (λ k e. entry_text c.args.reader k e ∷ []) (λ n x xs. refl) c.args.entries.now
          c.loop-k.k _ _ _ _ c.loop-k-test.true c.loop-k.invariant.listing one;
    }

pub returns : goal.returns
returns g c = listing-done _ _ _ (entry_lines c.args.reader) (λ n. refl) c.args.entries.now c.loop-k.k _ _ c.loop-k-test.false c.loop-k.invariant.listing
