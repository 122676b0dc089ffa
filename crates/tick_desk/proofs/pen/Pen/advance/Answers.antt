use Rattle.std.proofs.Common.{◌≡◌, max, ap, sym, ◌∙◌, refl}
use Rattle.tick_desk.specs.contracts.pen.Pen.{the_view}
use Rattle.tick_desk.proofs.Pens.{counter-shown}
use Rattle.tick_desk.proofs.pen.Pen.advance.Goals as goal

pub returns-clause-counter : goal.returns-clause-counter
returns-clause-counter c =
    let r = c.raise_counter in let i = c.self.invariant in
    counter-shown r.new.self.view (the_view record {
      seat = r.new.self;
      ticks = c.self.inside.ticks;
      top = c.max-self-inside.result;
      out = c.self.inside.out;
      made = c.self.inside.made;
    }) r.result
    (ap (λ v. v.journal) r.ensures.view ∙ i.journal) refl (ap (λ v. v.top) r.ensures.view
    ∙ (ap (λ t. max t c.args.to) i.top_is ∙ sym c.max-self-inside.ensures)) (ap (λ v. v.out) r.ensures.view ∙ i.out_is) i.legal r.ensures.learns
