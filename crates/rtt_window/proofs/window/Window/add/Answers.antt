use Rattle.std.proofs.Common.{◌∙◌}
use Rattle.rtt_window.proofs.Keeping.{base-push, stands-push}
use Rattle.rtt_window.proofs.window.Window.add.Goals as goal

pub returns-clause-base : goal.returns-clause-base
returns-clause-base g c freq all was = c.judge.ensures.base ∙ base-push c.args.self.now freq all c.args.s was

pub returns-clause-stands : goal.returns-clause-stands
returns-clause-stands g c freq all was = stands-push c.args.self.now c.judge.new.self freq all c.args.s c.judge.result was c.judge.ensures.base
    c.judge.ensures.kept
