-- A pass that was taken in.
use Rattle.std.proofs.Common.{◌≡◌, ℕ, List, Bool, false, refl, ap, sym, ◌∙◌, subst, length, slice_get, Some}
use mathlib.Core.Option.{some}
use lib.ListN.{get_elem?}
use Rattle.atomic_table.proofs.Lists.{at_last}
use Rattle.ff_hands.specs.declared.hands.Hands.{Hands}
use Rattle.clock_logs.specs.declared.noted.Kept.{Kept}
use Rattle.tick_views.specs.declared.views.PenView.{PenView}
use Rattle.tick_views.specs.declared.views.PassView.{PassView}
use Rattle.tick_views.specs.Views.{kept_of, pass_taken}
use Rattle.tick_table.specs.Steps.{LegalLogs}
use Rattle.tick_table.proofs.Lists.{to_some}
use Rattle.tick_laws.specs.Logs.{IsKeptLegal}
use Rattle.tick_laws.proofs.Legal.{kept_legal}
use Rattle.tick_desk.specs.Shows.{PenHolds}

pub taken-legal : (p p' : PenView) (v : PassView) (ticks : List Hands) (top : ℕ) (out : Bool) (made : ℕ) → PenHolds p ticks top out made
    → p' ≡ pass_taken p v → LegalLogs p' → IsKeptLegal ticks top out (kept_of v)
taken-legal p p' v ticks top out made holds is legal =
    let last : get_elem? p'.kept (length p.kept) ≡ some (kept_of v) = subst (λ (q : PenView). get_elem? q.kept (length p.kept) ≡ some (kept_of v))
    (sym is) (at_last p.kept (kept_of v) (length p.kept) refl) in
    let closed : p'.winding ≡ false = ap (λ (q : PenView). q.winding) is ∙ holds.closed in
    subst (λ (x : List Hands × ℕ × Bool). IsKeptLegal x.0 x.1 x.2 (kept_of v))
    (λ i. (
      (ap (λ (q : PenView). q.journal) is ∙ holds.journal) i,
      (ap (λ (q : PenView). q.top) is ∙ holds.top_is) i,
      (ap (λ (q : PenView). q.out) is ∙ holds.out_is) i,
    ))
    (kept_legal p' (length p.kept) (kept_of v) legal closed last)

-- and so is each that was taken in before: the journal that it is legal over has grown since
pub each-legal : (p' : PenView) (ticks : List Hands) (top : ℕ) (out : Bool) (kept : List Kept) → p'.journal ≡ ticks → p'.top ≡ top → p'.out ≡ out
    → p'.kept ≡ kept → p'.winding ≡ false → LegalLogs p' → (i : ℕ) (k : Kept) → slice_get kept i ≡ Some k → IsKeptLegal ticks top out k
each-legal p' ticks top out kept journal top-is out-is kept-is closed legal i k at =
    let there : get_elem? p'.kept i ≡ some k = subst (λ (ks : List Kept). get_elem? ks i ≡ some k) (sym kept-is) (to_some kept i k at) in
    subst (λ (x : List Hands × ℕ × Bool). IsKeptLegal x.0 x.1 x.2 k) (λ j. (journal j, top-is j, out-is j)) (kept_legal p' i k legal closed there)
