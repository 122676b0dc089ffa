use Rattle.std.proofs.Common.{ap, sym, ◌∙◌, subst}
use Rattle.tick_views.specs.Views.{kept_of}
use Rattle.tick_table.specs.Sees.{PassSees, PenSees}
use Rattle.tick_laws.specs.Logs.{IsKeptLegal}
use Rattle.tick_desk.specs.Shows.{PenShows}
use Rattle.tick_desk.proofs.Taking.{taken-legal, each-legal}
use Rattle.tick_desk.proofs.pen.Pen.take_in.Goals as goal

pub returns-clause-legal : goal.returns-clause-legal
returns-clause-legal c =
    let legal = taken-legal c.self.inside.seat.view c.join_pass.new.self.view c.pass.inside.seat.view c.self.inside.ticks.items c.self.inside.top
    c.self.inside.out c.self.inside.made c.self.invariant c.join_pass.ensures.view c.load_turn.ensures.legal in
    subst (λ (p : PassSees). IsKeptLegal c.args.self.now.journal c.args.self.now.top c.args.self.now.out (kept_of p.view)) c.pass.view_is
    (subst (λ (s : PenShows). IsKeptLegal s.journal s.top s.out (kept_of c.pass.inside.seat.view)) c.self.view_is legal)

pub returns-clause-counters : goal.returns-clause-counters
returns-clause-counters c home = (returns-clause-legal c).counters home

pub returns-clause-all : goal.returns-clause-all
returns-clause-all c i k at =
    let v = c.join_pass.ensures.view in let h = c.self.invariant in
    subst (λ (s : PenShows). IsKeptLegal s.journal s.top s.out k) c.self.view_is
    (each-legal c.join_pass.new.self.view c.self.inside.ticks.items c.self.inside.top c.self.inside.out c.load_turn.new.self.view.kept
    (ap (λ p. p.journal) v ∙ h.journal) (ap (λ p. p.top) v ∙ h.top_is) (ap (λ p. p.out) v ∙ h.out_is)
    (ap (λ (s : PenSees). s.view.kept) (sym c.load_turn.ensures.same)) (ap (λ p. p.winding) v ∙ h.closed) c.load_turn.ensures.legal i k at)
