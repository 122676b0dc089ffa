-- What the pen keeps, and what it meets of the counter.
use Rattle.std.proofs.Common.{◌≡◌, ℕ, ◌+◌, ◌-◌, ◌<◌, ◌≤◌, ◌^◌, min, Bool, true, false, List, [], ◌∷◌, ◌++◌, length, slice_get, refl, ap, sym, ◌∙◌, subst, Some, None, arith, zero, suc}
use Rattle.std.proofs.Math.Nat.{min-le_left, min-le_right}
use Rattle.std.proofs.lemmas.Option.{slice_get-get_or}
use mathlib.Core.Option.{some}
use lib.ListN.{get_elem?}
use Rattle.ff_hands.specs.Journals.{IsJournal}
use Rattle.ff_hands.specs.Windups.{cold}
use Rattle.ff_hands.specs.declared.hands.Hands.{Hands}
use Rattle.clock_lines.specs.Readings.{newest}
use Rattle.clock_logs.specs.declared.noted.Kept.{Kept}
use Rattle.tick_views.specs.declared.views.PenView.{PenView}
use Rattle.tick_views.proofs.Grow.{in_list}
use Rattle.tick_table.specs.Steps.{LearnsCounter}
use Rattle.tick_table.proofs.Lists.{to_some}
use Rattle.tick_desk.specs.Shows.{PenShows, PenHolds, room_of}
use Rattle.tick_desk.specs.Winds.{IsCounter}

pub room-most : (len capacity : ℕ) → len ≤ 2 ^ 62 → len + (room_of capacity - len) ≤ 2 ^ 62
room-most len capacity few = let m : room_of capacity ≤ 2 ^ 62 = min-le_right capacity (2 ^ 62) in omega arith

pub room-below : (n len capacity : ℕ) → n ≤ room_of capacity - len → n ≤ 2 ^ 62 - len
room-below n len capacity h = let m : room_of capacity ≤ 2 ^ 62 = min-le_right capacity (2 ^ 62) in omega arith

pub room-there : (n len capacity : ℕ) → n ≤ room_of capacity - len → n ≤ capacity - len
room-there n len capacity h = let m : room_of capacity ≤ capacity = min-le_left capacity (2 ^ 62) in omega arith

pub journal-some : (ticks : List Hands) → IsJournal ticks → 0 < length ticks
journal-some ticks j = in_list ticks 0 cold (to_some ticks 0 cold j.first)

pub newest-at : (ticks : List Hands) → IsJournal ticks → slice_get ticks (length ticks - 1) ≡ Some (newest ticks)
newest-at ticks j = let some-tick = journal-some ticks j in slice_get-get_or ticks (length ticks - 1) cold (omega arith)

-- a value of the counter that the seat learned, as the pen shows it
pub counter-shown : (p : PenView) (s : PenShows) (c : ℕ) → p.journal ≡ s.journal → p.counters ≡ s.counters → p.top ≡ s.top → p.out ≡ s.out
    → IsJournal s.journal → LearnsCounter p c → IsCounter s c
counter-shown p s c journal counters top out legal l = record {
  top = subst (λ t. t ≤ c) top l.top;
  home = λ e. l.home (out ∙ e) ∙ top;
  reached = l.reached (length s.journal - 1) (newest s.journal)
      (subst (λ (js : List Hands). get_elem? js (length s.journal - 1) ≡ some (newest s.journal)) (sym journal)
      (to_some s.journal (length s.journal - 1) (newest s.journal) (newest-at s.journal legal)));
  later = λ i x e. l.later i x (subst (λ (xs : List ℕ). get_elem? xs i ≡ some x) (sym counters) e);
  small = l.small;
}

-- a journal of one tick is the cold hands
pub cold-alone : (ticks : List Hands) → IsJournal ticks → length ticks ≡ 1 → ticks ≡ cold ∷ []
cold-alone [] j one = let h : 0 ≡ 1 = one in absurd (omega arith)
cold-alone (h ∷ []) j one = let first : Some h ≡ Some cold = j.first in ap (λ x. x ∷ []) (some-first h cold first)
  where
    some-first : (a b : Hands) → Some a ≡ Some b → a ≡ b
    some-first a b e = cc
cold-alone (h ∷ g ∷ hs) j one = let n : suc (suc (length hs)) ≡ 1 = one in absurd (omega arith)

-- no pass was taken in where none was made
pub none-kept : (kept : List Kept) (made : ℕ) → ((i : ℕ) (k : Kept) → get_elem? kept i ≡ some k → k.number < made) → made ≡ 0 → kept ≡ []
none-kept [] made given z = refl
none-kept (k ∷ ks) made given z = let less : k.number < made = given zero k refl in absurd (omega arith)
