use Rattle.std.proofs.Common.{subst, sym}
use Rattle.tick_laws.specs.Goes.{ask_of}
use Rattle.tick_desk.specs.Answers.{Adds, Finishes, entry_by}
use Rattle.tick_desk.proofs.Adding.{read_adds}
use Rattle.replay_run.proofs.reader.read_kind.Goals as goal

pub returns : goal.returns
returns c = subst (Adds c.args.pass.now c.finish.new.self (ask_of c.args.kind)) (sym c.entry_by.ensures)
    (read_adds c.args.pass.now c.begin-begun.new.self c.finish.new.self c.args.kind _ _ c.begin-begun.ensures.table c.begin-begun.ensures.calls
    (subst (λ k. Finishes c.begin-begun.new.self c.finish.new.self k (entry_by k c.finish.result)) c.begin-begun.ensures.kind c.finish.ensures.finishes))
