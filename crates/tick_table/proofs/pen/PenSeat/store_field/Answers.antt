use Rattle.std.proofs.Common.{rules, ap, sym, ◌∙◌, ◌≡◌, ◌+◌, arith, length}
use Rattle.tick_table.proofs.PenKeeps.{stores_at}
use Rattle.tick_table.specs.Rule.{field_at}
use Rattle.tick_table.proofs.pen.PenSeat.store_field.Goals as goal

pub store-requires : goal.store-requires
store-requires c = let i = c.self.invariant in let w : c.deref.result.now.shared.table_id.words ≡ 162 = search rules in let n = c.requires in
    let tick : c.args.tick ≡ c.self.inside.last + 1 = n.tick ∙ (sym (ap (λ v. length v.view.journal) c.self.view_is) ∙ i.ticks) in (
      search rules,
      omega arith,
      stores_at _ _ _ _ c.self.inside.last c.args.field _ c.args.word i.first i.knows
          (ap (λ v. v.view.winding) c.self.view_is ∙ n.open) (ap (λ v. v.view.marked) c.self.view_is ∙ n.winding.0)
          (ap (λ v. v.view.set) c.self.view_is ∙ n.winding.1) (n.next.0 ∙ sym (ap (λ v. length v.view.stored) c.self.view_is)) n.next.1 i.ticks
          (ap (λ t. field_at t c.args.field) tick),
    )
