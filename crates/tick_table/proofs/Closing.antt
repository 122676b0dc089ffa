-- The journal after the turn word is closed.
use Rattle.std.proofs.Common.{◌≡◌, ℕ, ◌+◌, [], ◌∷◌, ◌++◌, length, slice_get, Some, ap, ◌∙◌, subst}
use Rattle.atomic_table.specs.Table.{Me}
use Rattle.ff_hands.specs.Journals.{Follows, IsJournal}
use Rattle.ff_hands.specs.Ranges.{FitsWords}
use Rattle.ff_hands.specs.declared.hands.Hands.{Hands}
use Rattle.hand_words.specs.Words.{pack, unpack}
use Rattle.tick_views.specs.declared.views.PenView.{PenView}
use Rattle.tick_views.specs.declared.views.View.{View}
use Rattle.tick_views.specs.declared.views.View.TheVariants.{Pen}
use Rattle.tick_views.specs.Views.{on_pen, pen_of, turn_closed}
use Rattle.tick_table.proofs.PenKeeps.{can_be_read}

pub closed_journal : (m m' : Me (Unit {0}) View) (p : PenView) (n : ℕ) (h : Hands) → m ≡ (Pen p, []) → m' ≡ (on_pen turn_closed m.0, m.1)
    → IsJournal (pen_of m.0).journal → length p.journal ≡ n + 1 → p.stored ≡ pack h
    → ((g : Hands) → slice_get p.journal n ≡ Some g → Follows g h) → FitsWords h → (pen_of m'.0).journal ≡ p.journal ++ h ∷ []
closed_journal m m' p n h is moved legal long stored next ranges =
    let legal' : IsJournal p.journal = subst (λ (x : Me (Unit {0}) View). IsJournal (pen_of x.0).journal) is legal in
    let step : (pen_of m'.0).journal ≡ p.journal ++ unpack p.stored ∷ [] = ap (λ (x : Me (Unit {0}) View). (pen_of x.0).journal) moved
    ∙ ap (λ (x : Me (Unit {0}) View). (pen_of (on_pen turn_closed x.0)).journal) is in
    step ∙ ap (λ g. p.journal ++ g ∷ []) (ap unpack stored ∙ can_be_read p.journal n h long legal' next ranges)
