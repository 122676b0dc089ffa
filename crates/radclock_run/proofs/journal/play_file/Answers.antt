use Rattle.std.proofs.Common.{[], length, ap, ◌∙◌}
use Rattle.callouts.specs.Firings.{asked_timers, firing_list, firings}
use Rattle.radclock_run.specs.Reports.{outcomes}
use Rattle.radclock_run.proofs.Counted.{said-count, ends-so}
use Rattle.radclock_run.proofs.journal.play_file.Goals as goal

pub returns-clause-counts : goal.returns-clause-counts
returns-clause-counts g c =
    let file = c.args.file.now in
    let said = c.in_ok-said in
    let ticks = c.in_ok-core.core.ticks in
    let fired = c.deref-2.ensures.value ∙ c.in_ok-fired.ensures ∙ ap (λ hs. firing_list 0 (firings (asked_timers c.args.timers) hs)) c.ticks.ensures.value in
    c.counts_of-counts.ensures ∙ ends-so c.args.timers (outcomes file.head.freq [] file.items.items) ticks _ _ _ (ap length fired)
    (said-count file.head.freq file.items.items _ said.ensures.events.fold) said.ensures.refused
