use Rattle.std.proofs.Common.{subst}
use Rattle.tick_desk.specs.Answers.{Finishes, entry_by}
use Rattle.tick_desk.proofs.Adding.{read_adds}
use Rattle.tick_desk.proofs.pass.Pass.read_kind.Goals as goal

pub returns-clause-adds : goal.returns-clause-adds
returns-clause-adds c = read_adds c.args.self.now c.begin-begun.new.self c.finish.new.self c.args.kind _ _ c.begin-begun.ensures.table
    c.begin-begun.ensures.calls
    (subst (λ k. Finishes c.begin-begun.new.self c.finish.new.self k (entry_by k c.finish.result)) c.begin-begun.ensures.kind c.finish.ensures.finishes)
