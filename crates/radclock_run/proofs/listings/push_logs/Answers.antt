use Rattle.std.proofs.Common.{◌∙◌, [], refl, ap, subst}
use Rattle.std.proofs.lemmas.Result.{err_from_is_err_and}
use Rattle.rad_io.specs.Pushes.{Wrote, Broke}
use Rattle.rad_io.proofs.Chains.{wrote_nothing}
use Rattle.radclock_run.specs.Reports.{entry_lines}
use Rattle.radclock_run.proofs.Listing.{listing-more, listing-breaks, listing-done}
use Rattle.radclock_run.proofs.Replaying.{lines_of_logs}
use Rattle.radclock_run.proofs.listings.push_logs.Goals as goal

pub loop-i-init : goal.loop-i-init
loop-i-init g c = record { listing = record { front = []; wrote = wrote_nothing _ _ _ _; whole = refl } }

pub returns-in_err-push_log : goal.returns-in_err-push_log
returns-in_err-push_log g c =
    let d = c.index-logs-i.result in
    let same = c.deref.ensures.value ∙ ap (λ l. l.entries.items) c.index-logs-i.is in
    let p = err_from_is_err_and c.from_residual.result c.from_residual.ensures.1 in
    let one = subst (λ es. Broke g.K.Sink.written g.K.Sink.faults g.K.Sink.push_gives c.loop-i.sink (entry_lines c.loop-i.i 0 es)
    c.push_log.new.sink) same c.in_err-push_log.ensures in
    rw p.1 (listing-breaks _ _ _ lines_of_logs (λ n l. entry_lines n 0 l.entries.items) (λ n x xs. refl) c.args.logs.now c.loop-i.i d _ _ _
    c.loop-i-test.true c.loop-i.invariant.listing one)

pub loop-i-preserved : goal.loop-i-preserved
loop-i-preserved g c =
    let d = c.index-logs-i.result in
    let same = c.deref.ensures.value ∙ ap (λ l. l.entries.items) c.index-logs-i.is in
    let one = subst (λ es. Wrote g.K.Sink.written g.K.Sink.faults g.K.Sink.push_gives c.loop-i.sink (entry_lines c.loop-i.i 0 es)
    c.push_log.new.sink) same c.in_ok-push_log.ensures in
    record {
      listing = listing-more _ _ _ lines_of_logs (λ n l. entry_lines n 0 l.entries.items) (λ n x xs. refl) c.args.logs.now c.loop-i.i d _ _ _
          c.loop-i-test.true c.loop-i.invariant.listing one;
    }

pub returns : goal.returns
returns g c = listing-done _ _ _ lines_of_logs (λ n. refl) c.args.logs.now c.loop-i.i _ _ c.loop-i-test.false c.loop-i.invariant.listing
