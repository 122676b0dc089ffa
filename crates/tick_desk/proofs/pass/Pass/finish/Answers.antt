use Rattle.std.proofs.Common.{rules, ◌≡◌, ◌%◌, ◌∙◌, subst, ap, sym}
use Rattle.clock_lines.specs.declared.readings.Entry.TheVariants.{Again}
use Rattle.clock_logs.specs.Legal.{full, quick, way_of}
use Rattle.tick_laws.specs.Goes.{Answers}
use Rattle.tick_desk.specs.Answers.{Finishes, IsBegun, IsEntryBy, entry_by, hands_of}
use Rattle.tick_desk.proofs.Adding.{quick_yet, even_yet, rest_of, no_rest, full_late}
use Rattle.tick_desk.proofs.pass.Pass.finish.Goals as goal

pub returns-in-Fast-clause-finishes : goal.returns-in-Fast-clause-finishes
returns-in-Fast-clause-finishes c =
    let begun = subst IsBegun c.begun.view_is c.begun.invariant in
    let kind = ap (λ b. b.kind) c.begun.view_is in
    let fast = sym kind ∙ c.in-Fast.is in
    let view = c.finish_quick.new.self.view in
    rest_of c.args.begun c.args.self.now c.finish_quick.new.self (entry_by c.args.begun.kind c.finish_quick.result) begun c.requires
    (quick_yet c.args.begun c.args.self.now begun c.requires (ap way_of fast)) c.finish_quick.ensures.table
    (subst (λ k. Answers c.args.self.now.view view (entry_by k c.finish_quick.result)) kind c.finish_quick.ensures.answers)
    (subst (λ k. IsEntryBy (hands_of view) (entry_by k c.finish_quick.result)) kind c.finish_quick.ensures.by)

pub returns-then-first-ne0 : goal.returns-then-first-ne0
returns-then-first-ne0 c =
    let way : way_of c.args.begun.kind ≡ full = search rules in
    let begun = subst IsBegun c.begun.view_is c.begun.invariant in
    let first = ap (λ b. b.first) c.begun.view_is in record {
      finishes = subst (λ t. Finishes c.args.self.now c.args.self.now c.args.begun.kind (Again c.args.begun.kind t t)) (sym first)
          (no_rest c.args.begun c.args.self.now begun c.requires way (λ z. c.if-first-ne0.true (ap (λ t. t % 2) first ∙ z)));
      late = full_late c.args.begun.kind _ way;
    }

pub returns : goal.returns
returns c =
    let way : way_of c.args.begun.kind ≡ full = search rules in
    let begun = subst IsBegun c.begun.view_is c.begun.invariant in
    let kind = ap (λ b. b.kind) c.begun.view_is in
    let view = c.finish_kind.new.self.view in record {
      finishes = rest_of c.args.begun c.args.self.now c.finish_kind.new.self (entry_by c.args.begun.kind c.finish_kind.result) begun c.requires
          (even_yet c.args.begun c.args.self.now begun c.requires (ap (λ b. b.first % 2) (sym c.begun.view_is) ∙ c.if-first-ne0.false))
          c.finish_kind.ensures.table
          (subst (λ k. Answers c.args.self.now.view view (entry_by k c.finish_kind.result)) kind c.finish_kind.ensures.answers)
          (subst (λ k. IsEntryBy (hands_of view) (entry_by k c.finish_kind.result)) kind c.finish_kind.ensures.by);
      late = full_late c.args.begun.kind _ way;
    }
