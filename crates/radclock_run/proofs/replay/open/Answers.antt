use Rattle.std.proofs.Common.{◌∙◌}
use Rattle.std.proofs.lemmas.Result.{IfOk-weaker}
use Rattle.radclock_run.proofs.Replaying.{as-many, ready-for}
use Rattle.radclock_run.proofs.replay.open.Goals as goal

pub all-requires : goal.all-requires
all-requires c = as-many c.args.desk.now.pen c.reserve.new.self c.args.desk.now.passes.items c.passes.new.self.passes.items _ _
    c.args.plan.now.options.readers c.requires.fresh c.reserve.ensures.kept c.in_ok-passes.ensures.passes

pub returns-clause-ready : goal.returns-clause-ready
returns-clause-ready c =
    let unused = c.is_fresh.ensures.unused (c.is_fresh.ensures.exact c.requires.fresh) in
    IfOk-weaker c.all.result _ _ (λ logs opened options same. ready-for c.args.plan.now.options options c.args.steps logs.items c.args.desk.now.pen
    c.reserve.new.self c.all.new.desk.pen c.args.desk.now.passes.items c.passes.new.self.passes.items _ _ c.requires.fresh unused
    c.in_ok-reserve.ensures.room c.reserve.ensures.kept (c.all.ensures.pen ∙ c.in_ok-passes.ensures.made) c.in_ok-passes.ensures.passes opened same)
    c.all.ensures.opened
