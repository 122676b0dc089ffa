use Rattle.std.proofs.Common.{rules, ap, sym, ◌∙◌, ◌≡◌, ◌+◌, arith, length}
use Rattle.tick_reads.specs.Looks.{full_mark}
use Rattle.tick_table.proofs.PenKeeps.{sets_at}
use Rattle.tick_table.specs.Rule.{mark_at}
use Rattle.tick_table.proofs.pen.PenSeat.set_mark.Goals as goal

pub store-requires : goal.store-requires
store-requires c = let i = c.self.invariant in let w : c.deref.result.now.shared.table_id.words ≡ 162 = search rules in let n = c.requires in
    let tick : c.args.tick ≡ c.self.inside.last + 1 = n.next ∙ (sym (ap (λ v. length v.view.journal) c.self.view_is) ∙ i.ticks) in (
      search rules,
      omega arith,
      sets_at _ _ _ _ c.self.inside.last _ _ i.first i.knows (ap (λ v. v.view.winding) c.self.view_is ∙ n.winding.0)
          (ap (λ v. v.view.marked) c.self.view_is ∙ n.winding.1) (ap (λ v. length v.view.stored) c.self.view_is ∙ n.whole) i.ticks (ap mark_at tick)
          (ap full_mark tick),
    )
