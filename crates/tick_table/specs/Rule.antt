-- The rule: the words stand for what the pen knows, and each other view fits.
use Rattle.std.specs.Prelude.{◌≡◌, ℕ, ◌+◌, ◌-◌, ◌*◌, ◌%◌, ◌<◌, ◌≤◌, ◌⊎◌, ◌^◌, max, Bool, true, false, cond, List, length, slice_index, Option, Some, None}
use mathlib.Core.Option.{some}
use lib.ListN.{get_elem?}
use Rattle.atomic_table.specs.Table.{State}
use Rattle.ff_hands.specs.Journals.{IsJournal}
use Rattle.ff_hands.specs.declared.hands.Hands.{Hands}
use Rattle.hand_words.specs.Words.{pack, unpack}
use Rattle.tick_reads.specs.Looks.{full_mark}
use Rattle.clock_logs.specs.declared.noted.Kept.{Kept}
use Rattle.tick_views.specs.declared.views.CrankView.{CrankView}
use Rattle.tick_views.specs.declared.views.PenView.{PenView}
use Rattle.tick_views.specs.declared.views.View.{View}
use Rattle.tick_views.specs.declared.views.View.TheVariants.{Pen, Pass, Crank, Note, Spent}
use Rattle.tick_views.specs.Worlds.{World, AllAtMost, FitsKept, Fits, IsMark, or_else}

abbrev pub turn_of : PenView → ℕ → ℕ
turn_of p n = 2 * n + cond p.winding 1 0

-- the turn word, as the pen knows it
abbrev pub turn_now : PenView → ℕ
turn_now p = turn_of p (length p.journal - 1)

abbrev pub mark_at : ℕ → ℕ
mark_at m = 2 + 16 * (m % 10)

abbrev pub field_at : ℕ → ℕ → ℕ
field_at m f = 2 + 16 * (m % 10) + 1 + f

abbrev pub marks_of : List ℕ → ℕ → ℕ
marks_of words m = slice_index words (mark_at m)

abbrev pub world_of : List ℕ → PenView → ℕ → World
world_of words p n = record {
  journal = p.journal;
  turn = turn_of p n;
  marks = marks_of words;
  counter = slice_index words 1;
  bound = or_else p.loaded (slice_index words 1);
  made = p.made;
}

-- the slot of tick m, which has the hands h: its mark is of a tick k from m on, and where k is m, its fields are those of h. n is the last tick
pub record SlotIs (words : List ℕ) (n : ℕ) (marked : Bool) (m : ℕ) (h : Hands) : Type 0 where
  pub k : ℕ
  pub mark : IsMark (marks_of words m) k
  pub same : k % 10 ≡ m % 10
  pub from : m ≤ k
  pub top : k ≤ n + cond marked 1 0
  pub whole : k ≤ n → marks_of words m ≡ full_mark k
  pub fields : k ≡ m → (f x : ℕ) → get_elem? (pack h) f ≡ some x → slice_index words (field_at m f) ≡ x

-- the slots without a tick, those above the tick that was started last: each has the mark 0, and fields that are 0
pub record AreBare (words : List ℕ) (started : ℕ) : Type 0 where
  pub marks : (m : ℕ) → started < m → m < 10 → marks_of words m ≡ 0
  pub fields : (m f : ℕ) → started < m → m < 10 → f < 15 → slice_index words (field_at m f) ≡ 0

-- the slots stand for the journal, whose last tick is n
pub record SlotsStand (words : List ℕ) (p : PenView) (n : ℕ) : Type 0 where
  pub slots : (m : ℕ) (h : Hands) → get_elem? p.journal m ≡ some h → SlotIs words n p.marked m h
  pub opened : p.marked ≡ true → p.winding ≡ true
  pub started : p.marked ≡ true → p.set ≡ false → marks_of words (n + 1) ≡ 2 * (n + 1) + 1
  pub finished : p.set ≡ true → (p.marked ≡ true) × (marks_of words (n + 1) ≡ full_mark (n + 1))
  pub stored : p.marked ≡ true → (i x : ℕ) → get_elem? p.stored i ≡ some x → slice_index words (field_at (n + 1) i) ≡ x
  pub bare : AreBare words (n + cond p.marked 1 0)

-- the counter is past each tick, and so is what the open windup loaded
pub record CounterStands (c : ℕ) (p : PenView) : Type 0 where
  pub small : c < 2 ^ 62
  pub ticks : (m : ℕ) (h : Hands) → get_elem? p.journal m ≡ some h → h.count ≤ or_else p.loaded c
  pub bound : or_else p.loaded c ≤ c
  pub counted : AllAtMost c p.counters
  pub closed : p.winding ≡ false → p.loaded ≡ None

pub record Stands (words : List ℕ) (p : PenView) (n : ℕ) : Type 0 where
  pub wide : length words ≡ 162
  pub long : length p.journal ≡ n + 1
  pub few : n < 2 ^ 62
  pub turn : slice_index words 0 ≡ turn_of p n
  pub slots : SlotsStand words p n
  pub counter : CounterStands (slice_index words 1) p
  pub legal : IsJournal p.journal
  pub back : (m : ℕ) (h : Hands) → get_elem? p.journal m ≡ some h → unpack (pack h) ≡ h
  pub kept : (i : ℕ) (k : Kept) → get_elem? p.kept i ≡ some k → FitsKept (world_of words p n) k

-- the counter is the greater of the pen's top and the crank's. There is at most one crank, and one only where the pen knows of it
pub record Tops (views : List View) (p : PenView) (c crank : ℕ) : Type 0 where
  pub home : p.out ≡ false → c ≡ p.top
  pub away : p.out ≡ true → (k : CrankView) × (get_elem? views crank ≡ some (Crank k)) × (c ≡ max p.top k.top)
  pub only : (j : ℕ) (k : CrankView) → get_elem? views j ≡ some (Crank k) → (p.out ≡ true) × (j ≡ crank)

-- the number of a pass's view
abbrev pub number_in : View → Option ℕ
number_in (Pen p) = None
number_in (Pass v) = Some v.number
number_in (Crank top) = None
number_in (Note seen) = None
number_in Spent = None

-- a pass that is out, or one that was taken in, has this number
abbrev pub IsHeld : List View → List Kept → ℕ → Type 0
IsHeld views kept n = ((i : ℕ) × (u : View) × (get_elem? views i ≡ some u) × (number_in u ≡ Some n))
    ⊎ ((k : ℕ) × (q : Kept) × (get_elem? kept k ≡ some q) × (q.number ≡ n))

-- no two passes that were taken in have one number
abbrev pub IsOnce : List Kept → Type 0
IsOnce kept = (j k : ℕ) (a b : Kept) → get_elem? kept j ≡ some a → get_elem? kept k ≡ some b → a.number ≡ b.number → j ≡ k

-- each number of a pass that was made is that of one pass, which is out or was taken in
pub record Numbers (views : List View) (kept : List Kept) (made : ℕ) : Type 0 where
  pub one : (i j : ℕ) (u v : View) (n : ℕ) → get_elem? views i ≡ some u → get_elem? views j ≡ some v → number_in u ≡ Some n → number_in v ≡ Some n → i ≡ j
  pub apart : (i k : ℕ) (u : View) (q : Kept) → get_elem? views i ≡ some u → get_elem? kept k ≡ some q → number_in u ≡ Some q.number → ⊥
  pub once : IsOnce kept
  pub small : (i : ℕ) (u : View) (n : ℕ) → get_elem? views i ≡ some u → number_in u ≡ Some n → n < made
  pub small_kept : (k : ℕ) (q : Kept) → get_elem? kept k ≡ some q → q.number < made
  pub every : (n : ℕ) → n < made → IsHeld views kept n

pub record Rule (s : State (Unit {0}) View) : Type 0 where
  pub pen : PenView
  pub last : ℕ
  pub crank : ℕ
  pub seated : get_elem? s.views 0 ≡ some (Pen pen)
  pub stands : Stands s.words pen last
  pub tops : Tops s.views pen (slice_index s.words 1) crank
  pub numbers : Numbers s.views pen.kept pen.made
  pub each : (j : ℕ) (v : View) → get_elem? s.views j ≡ some v → 0 < j → Fits (world_of s.words pen last) v
