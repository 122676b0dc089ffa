use Rattle.std.proofs.Common.{rules, subst, ap, ◌∙◌}
use Rattle.tick_table.specs.Rule.{turn_now}
use Rattle.tick_table.specs.Steps.{LegalLogs}
use Rattle.tick_table.proofs.PassKeeps.{looks_at}
use Rattle.tick_table.proofs.pen.PenSeat.load_turn.Goals as goal

pub load-requires : goal.load-requires
load-requires c = (search rules, search rules, looks_at _ _ _ _ c.self.invariant.first c.self.invariant.knows)

pub returns-clause-value : goal.returns-clause-value
returns-clause-value c = c.load.ensures.2.1 ∙ ap (λ v. turn_now v.view) c.self.view_is

pub returns-clause-legal : goal.returns-clause-legal
returns-clause-legal c = subst LegalLogs (ap (λ v. v.view) c.self.view_is) c.load.ensures.2.2
