use Rattle.std.proofs.Common.{rules, ap, sym, ◌∙◌, ◌≡◌, arith, refl, subst, ◌<◌, ◌^◌}
use Rattle.std.proofs.Common.{[], ◌∷◌, ◌++◌}
use Rattle.tick_table.proofs.Closing.{closed_journal}
use Rattle.tick_table.proofs.PenKeeps.{closes_at, follows_newest}
use Rattle.tick_table.proofs.pen.PenSeat.close_turn.Goals as goal

pub store-requires : goal.store-requires
store-requires c = let i = c.self.invariant in let w : c.deref.result.now.shared.table_id.words ≡ 162 = search rules in let n = c.requires in
    let open-now = ap (λ v. v.view.winding) c.self.view_is ∙ n.winding.0 in (
      search rules,
      omega arith,
      closes_at _ _ _ _ c.self.inside.last _ c.args.h.now i.first i.knows open-now
          (ap (λ v. v.view.set) c.self.view_is ∙ n.winding.1) i.ticks (subst (λ k. k < 2 ^ 62) (sym i.ticks) (i.room open-now))
          (ap (λ v. v.view.stored) c.self.view_is ∙ n.stored) c.fits_words.ensures (ap (λ v. v.view.loaded) c.self.view_is ∙ n.loaded)
          (follows_newest _ _ _ _ (ap (λ v. v.view) c.self.view_is) i.ticks n.follows) refl,
    )

pub returns-clause-journal : goal.returns-clause-journal
returns-clause-journal c = let i = c.self.invariant in let n = c.requires in
    closed_journal _ _ _ c.self.inside.last c.args.h.now i.knows c.store.ensures.2.0 c.store.ensures.2.1 i.ticks
    (ap (λ v. v.view.stored) c.self.view_is ∙ n.stored) (follows_newest _ _ _ _ (ap (λ v. v.view) c.self.view_is) i.ticks n.follows) c.fits_words.ensures
    ∙ ap (λ v. v.view.journal ++ c.args.h.now ∷ []) c.self.view_is
