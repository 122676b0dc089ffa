use Rattle.std.proofs.Common.{List, length, ap, sym, ◌∙◌, subst}
use Rattle.tick_table.specs.Sees.{PassSees}
use Rattle.tick_desk.specs.Shows.{PenShows}
use Rattle.replay_run.specs.Logs.{AreOpened, AreReady}
use Rattle.replay_run.proofs.Opening.{first-passes, new-many, new-ready}
use Rattle.replay_run.proofs.tests.opened.Goals as goal

pub all-requires : goal.all-requires
all-requires c =
    let fresh = c.in_ok-desk.ensures.fresh in
    ap length (first-passes _ _ _ _ _ c.args.plan.now.options.readers fresh.none (ap (λ (p : PenShows). p.made) c.reserve.ensures.kept ∙ fresh.made)
    c.in_ok-passes.ensures.passes) ∙ new-many _ 0 _ c.args.plan.now.options.readers

pub returns-clause-logs : goal.returns-clause-logs
returns-clause-logs c =
    let fresh = c.in_ok-desk.ensures.fresh in
    let reads = c.args.plan.now.options.reads in
    let new = first-passes _ _ _ _ _ c.args.plan.now.options.readers fresh.none (ap (λ (p : PenShows). p.made) c.reserve.ensures.kept ∙ fresh.made)
    c.in_ok-passes.ensures.passes in
    let ready = new-ready _ _ c.args.plan.now.options.readers reads _
    (subst (λ (ps : List PassSees). AreOpened reads ps c.in_ok-logs.logs.items) new c.in_ok-logs.ensures.opened) in
    let table = ap (λ (p : PenShows). p.table) c.all.ensures.pen ∙ ap (λ (p : PenShows). p.table) c.in_ok-passes.ensures.made in
    subst (λ id. AreReady id reads c.in_ok-logs.logs.items) (sym table) ready
