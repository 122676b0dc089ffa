-- What contracts see of a pen and of a desk.
use Rattle.std.specs.Prelude.{◌≡◌, ℕ, ◌+◌, ◌≤◌, ◌<◌, ◌^◌, min, Bool, false, List, [], ◌∷◌, ◌++◌, length, slice_get, take, Some, zero, suc}
use mathlib.Core.Option.{some}
use lib.ListN.{get_elem?}
use Rattle.atomic_table.specs.Seated.{TableId}
use Rattle.ff_hands.specs.Journals.{IsJournal}
use Rattle.ff_hands.specs.Windups.{cold}
use Rattle.ff_hands.specs.declared.hands.Hands.{Hands}
use Rattle.clock_logs.specs.declared.noted.Kept.{Kept}
use Rattle.tick_views.specs.declared.views.PenView.{PenView}
use Rattle.tick_views.specs.Views.{new_pass}
use Rattle.tick_table.specs.Sees.{PassSees}

pub record PenShows : Type 0 where
  pub table : TableId
  -- all ticks that were published
  pub journal : List Hands
  -- for how many more there is room
  pub spare : ℕ
  -- the counters that the pen ever loaded
  pub counters : List ℕ
  -- the greatest count that it, or a crank that it took back, raised the counter to
  pub top : ℕ
  -- the counter as each of the pen's own raises left it
  pub met : List ℕ
  -- a crank is out
  pub out : Bool
  -- how many passes were ever made
  pub made : ℕ
  -- the passes that were taken in
  pub kept : List Kept

-- a journal has at most 2^62 ticks, however much memory there is
abbrev pub room_of : ℕ → ℕ
room_of capacity = min capacity (2 ^ 62)

-- What the pen keeps are its seat's. No windup stands open between two calls, and no pass is taken
-- in that was not made
pub record PenHolds (p : PenView) (ticks : List Hands) (top : ℕ) (out : Bool) (made : ℕ) : Type 0 where
  pub journal : p.journal ≡ ticks
  pub closed : p.winding ≡ false
  pub legal : IsJournal ticks
  pub room : length ticks ≤ 2 ^ 62
  pub top_is : p.top ≡ top
  pub out_is : p.out ≡ out
  pub made_is : p.made ≡ made
  pub given : (i : ℕ) (k : Kept) → get_elem? p.kept i ≡ some k → k.number < p.made

-- the pen of a clock that was never set, with this room, these loads and what its raises answered
abbrev pub new_pen : TableId → ℕ → List ℕ → List ℕ → PenShows
new_pen table spare counters met = record {
  table = table;
  journal = cold ∷ [];
  spare = spare;
  counters = counters;
  top = 0;
  met = met;
  out = false;
  made = 0;
  kept = [];
}

-- so many new passes, with the numbers from one on, which have seen so many ticks and made no load
abbrev pub new_passes : TableId → ℕ → ℕ → ℕ → List PassSees
new_passes table number seen zero = []
new_passes table number seen (suc n) = new_passes table number seen n ++ record { table = table; view = new_pass (number + n) seen } ∷ []

-- nothing was done with the desk
pub record IsFresh (pen : PenShows) (passes : List PassSees) : Type 0 where
  pub journal : pen.journal ≡ cold ∷ []
  pub top : pen.top ≡ 0
  pub home : pen.out ≡ false
  pub made : pen.made ≡ 0
  pub none : passes ≡ []
