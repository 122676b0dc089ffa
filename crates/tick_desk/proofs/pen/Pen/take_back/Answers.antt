use Rattle.std.proofs.Common.{◌≡◌, ◌≤◌, false, max, ap, ap₂, sym, ◌∙◌, subst, refl}
use mathlib.Core.Option.{some}
use lib.ListN.{get_elem?}
use Rattle.tick_table.proofs.Lists.{to_some}
use Rattle.tick_table.specs.Sees.{PenSees}
use Rattle.tick_desk.proofs.Taking.{each-legal}
use Rattle.tick_desk.proofs.pen.Pen.take_back.Goals as goal

pub returns-clause-most : goal.returns-clause-most
returns-clause-most c k h at =
    let l = c.load_turn.ensures.legal in let v = c.join_crank.ensures.view in let i = c.self.invariant in
    let journal = ap (λ p. p.journal) v ∙ i.journal in
    let closed = ap (λ p. p.winding) v ∙ i.closed in
    let top = ap (λ p. p.top) v ∙ (ap₂ (λ s t. max s t) i.top_is (sym c.crank.invariant) ∙ sym c.max-self-inside.ensures) in
    subst (λ t. h.count ≤ t) (l.home (ap (λ p. p.out) v) ∙ top)
    (l.reached closed k h (subst (λ js. get_elem? js k ≡ some h) (sym journal) (to_some c.self.inside.ticks.items k h at)))

pub returns-clause-all : goal.returns-clause-all
returns-clause-all c i k at =
    let v = c.join_crank.ensures.view in let h = c.self.invariant in
    let top = ap (λ p. p.top) v ∙ (ap₂ (λ s t. max s t) h.top_is (sym c.crank.invariant) ∙ sym c.max-self-inside.ensures) in
    each-legal c.join_crank.new.self.view c.self.inside.ticks.items c.max-self-inside.result false c.load_turn.new.self.view.kept
    (ap (λ p. p.journal) v ∙ h.journal) top (ap (λ p. p.out) v) (ap (λ (s : PenSees). s.view.kept) (sym c.load_turn.ensures.same))
    (ap (λ p. p.winding) v ∙ h.closed) c.load_turn.ensures.legal i k at
