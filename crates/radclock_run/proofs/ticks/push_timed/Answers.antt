use Rattle.std.proofs.Common.{◌≡◌, ◌+◌, List, [], ◌∷◌, ◌++◌, drop, get_or, refl, ap, ◌∙◌, subst}
use Rattle.std.proofs.lemmas.Result.{err_from_is_err_and}
use Rattle.rad_io.proofs.Chains.{wrote_nothing, wrote_more, broke}
use Rattle.rad_io.proofs.Joining.{wrote-on, broke-on, broke-early}
use Rattle.report_text.specs.Text.{tick_text}
use Rattle.callouts.specs.Firings.{fired_at, firing_list}
use Rattle.radclock_run.specs.Reports.{fire_lines, timed_lines}
use Rattle.radclock_run.proofs.Listing.{listing-more, listing-breaks, listing-done}
use Rattle.radclock_run.proofs.ticks.push_timed.Goals as goal

pub loop-n-init : goal.loop-n-init
loop-n-init g c = record {
  rest = λ ess is. is;
  listing = λ ess is. record { front = []; wrote = wrote_nothing _ _ _ _; whole = refl };
}

pub returns-in_err-tick_line : goal.returns-in_err-tick_line
returns-in_err-tick_line g c ess is =
    let sink = g.met.K.Sink in
    let once = c.in_err-tick_line.ensures in
    let p = err_from_is_err_and c.from_residual.result c.from_residual.ensures.1 in
    let one = broke _ _ _ _ _ _ [] _ (fire_lines (fired_at ess c.loop-n.n)) (sink.appends _ _ _ _ once) (sink.cause _ _ _ _ once)
    (wrote_nothing _ _ _ _) once in
    rw p.1 (listing-breaks _ _ _ (timed_lines (fired_at ess)) (λ n h. tick_text n h ∷ fire_lines (fired_at ess n)) (λ n x xs. refl)
    c.args.ticks.now c.loop-n.n _ _ _ _ c.loop-n-test.true (c.loop-n.invariant.listing ess is) one)

pub returns-in_err-push_fires : goal.returns-in_err-push_fires
returns-in_err-push_fires g c ess is =
    let sink = g.met.K.Sink in
    let once = c.in_ok-tick_line.ensures in
    let p = err_from_is_err_and c.from_residual-in_err-push_fires.result c.from_residual-in_err-push_fires.ensures.1 in
    let head = wrote_more _ _ _ _ _ _ [] _ (sink.appends _ _ _ _ once) (sink.cause _ _ _ _ once) (wrote_nothing _ _ _ _) once in
    let now = (c.split_firings.ensures ess (c.loop-n.invariant.rest ess is)).0 in
    let one = broke-on _ _ _ _ _ _ _ (fire_lines (fired_at ess c.loop-n.n)) head (rw (← now) c.in_err-push_fires.ensures) in
    rw p.1 (listing-breaks _ _ _ (timed_lines (fired_at ess)) (λ n h. tick_text n h ∷ fire_lines (fired_at ess n)) (λ n x xs. refl)
    c.args.ticks.now c.loop-n.n _ _ _ _ c.loop-n-test.true (c.loop-n.invariant.listing ess is) one)

pub loop-n-preserved : goal.loop-n-preserved
loop-n-preserved g c =
    let sink = g.met.K.Sink in
    let once = c.in_ok-tick_line.ensures in
    let head = wrote_more _ _ _ _ _ _ [] _ (sink.appends _ _ _ _ once) (sink.cause _ _ _ _ once) (wrote_nothing _ _ _ _) once in
    record {
      rest = λ ess is. (c.split_firings.ensures ess (c.loop-n.invariant.rest ess is)).1;
      listing = λ ess is.
          let now = (c.split_firings.ensures ess (c.loop-n.invariant.rest ess is)).0 in
          let one = wrote-on _ _ _ _ _ _ _ (fire_lines (fired_at ess c.loop-n.n)) head (rw (← now) c.in_ok-push_fires.ensures) in
          listing-more _ _ _ (timed_lines (fired_at ess)) (λ n h. tick_text n h ∷ fire_lines (fired_at ess n)) (λ n x xs. refl)
          c.args.ticks.now c.loop-n.n _ _ _ _ c.loop-n-test.true (c.loop-n.invariant.listing ess is) one;
    }

pub returns : goal.returns
returns g c ess is = listing-done _ _ _ (timed_lines (fired_at ess)) (λ n. refl) c.args.ticks.now c.loop-n.n _ _ c.loop-n-test.false
    (c.loop-n.invariant.listing ess is)
