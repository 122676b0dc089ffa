-- What a windup does.
use Rattle.std.specs.Prelude.{◌≡◌, ℕ, ◌-◌, ◌≤◌, ◌<◌, ◌^◌, nat_le, not, Bool, true, false, List, [], ◌∷◌, ◌++◌, length, Option, Some, None, Result, Ok, Err}
use mathlib.Core.Option.{some}
use lib.ListN.{get_elem?}
use Rattle.ff_hands.specs.Windups.{wind_of}
use Rattle.ff_hands.specs.declared.hands.Hands.{Hands}
use Rattle.ff_hands.specs.declared.hands.Order.{Order}
use Rattle.ff_hands.specs.declared.hands.Order.TheVariants as order
use Rattle.clock_lines.specs.Readings.{newest, reading_at}
use Rattle.clock_lines.specs.declared.readings.Kind.{Kind}
use Rattle.clock_lines.specs.declared.readings.Reading.{Reading}
use Rattle.clock_core.specs.declared.machine.Refuse.{Refuse}
use Rattle.clock_core.specs.Machines.{refusal, answer_by, count_of}
use Rattle.tick_views.specs.declared.views.PenView.{PenView}
use Rattle.tick_views.specs.Views.{pen_counted}
use Rattle.tick_views.specs.Worlds.{AllAtMost}
use Rattle.tick_table.specs.Sees.{CrankSees}
use Rattle.tick_table.specs.Steps.{LearnsCounter}
use Rattle.tick_desk.specs.Shows.{PenShows}

-- a Reset, and a Take that is not stale, load the counter for the test of Ahead
abbrev pub tests_counter : Hands → Order → Bool
tests_counter last order.Plain = false
tests_counter last (order.Take e) = not (nat_le e.update_ffcount last.est.update_ffcount)
tests_counter last (order.Reset e) = true

abbrev pub counted_if : Bool → ℕ → PenView → PenView
counted_if true c p = pen_counted c p
counted_if false c p = p

-- the test of an order on the pen's seat, with the counter at c where it is loaded
pub record Tested (before after : PenView) (last : Hands) (o : Order) (found : Option Refuse) : Type 0 where
  pub counter : ℕ
  pub answer : found ≡ refusal last counter o
  pub view : after ≡ counted_if (tests_counter last o) counter before
  pub learns : tests_counter last o ≡ true → LearnsCounter before counter

-- the journal gains the hands
pub record Publishes (before after : PenView) (h : Hands) : Type 0 where
  pub journal : after.journal ≡ before.journal ++ h ∷ []
  pub closed : after.winding ≡ false
  pub counters : after.counters ≡ before.counters
  pub top : after.top ≡ before.top
  pub met : after.met ≡ before.met
  pub out : after.out ≡ before.out
  pub made : after.made ≡ before.made
  pub kept : after.kept ≡ before.kept

-- A value of the counter, as the pen meets it: at least its top, and its top where no crank is out,
-- not before the newest tick, and not below any that it loaded before
pub record IsCounter (p : PenShows) (c : ℕ) : Type 0 where
  pub top : p.top ≤ c
  pub home : p.out ≡ false → c ≡ p.top
  pub reached : (newest p.journal).count ≤ c
  pub later : AllAtMost c p.counters
  pub small : c < 2 ^ 62

abbrev pub tested_if : Bool → ℕ → List ℕ
tested_if true c = c ∷ []
tested_if false c = []

-- the counters that a windup loads: for the test, where the order wants one, and then as the tick's
-- count
abbrev pub counters_by : Result ℕ Refuse → Bool → ℕ → ℕ → List ℕ
counters_by (Ok n) tests tested count = tested_if tests tested ++ count ∷ []
counters_by (Err why) tests tested count = tested_if tests tested

-- a new tick at the count, by the newest one, unless the order was refused
abbrev pub wound_by : Result ℕ Refuse → PenShows → Order → ℕ → PenShows
wound_by (Ok n) p o count = record p { journal = p.journal ++ wind_of (newest p.journal) count o ∷ []; spare = p.spare - 1 }
wound_by (Err why) p o count = p

-- A read of now by the newest tick, at the counter that is loaded, or for Fast at the tick's own
-- count
pub record ReadsNewest (old new : PenShows) (k : Kind) (r : Reading) : Type 0 where
  pub counter : ℕ
  pub counter_is : IsCounter old counter
  pub reading : r ≡ reading_at (newest old.journal) (length old.journal - 1) k (count_of k (newest old.journal).count counter)
  pub after : new ≡ record old { counters = old.counters ++ counter ∷ [] }

-- the crank was not out, and is now: it has raised the counter to nothing yet
pub record Lends (old new : PenShows) (crank : CrankSees) : Type 0 where
  pub home : old.out ≡ false
  pub table : crank.table ≡ old.table
  pub top : crank.top ≡ 0
  pub none : crank.met ≡ []
  pub after : new ≡ record old { out = true }

-- One windup. The order is refused, or not, at the counter that is loaded for it, and the tick's
-- count is the counter that is loaded last
pub record Winds (old new : PenShows) (o : Order) (result : Result ℕ Refuse) : Type 0 where
  -- the counter that the order was tested at; where its test loads none it is any number
  pub tested_at : ℕ
  -- the tick's count; where the order was refused it is any number
  pub count : ℕ
  pub tested_is : tests_counter (newest old.journal) o ≡ true → IsCounter old tested_at
  pub count_is : (n : ℕ) → result ≡ Ok n → IsCounter old count
  pub later : (n : ℕ) → result ≡ Ok n → tests_counter (newest old.journal) o ≡ true → tested_at ≤ count
  pub answer : result ≡ answer_by (length old.journal) (refusal (newest old.journal) tested_at o)
  pub after : new ≡ record (wound_by result old o count) {
    counters = old.counters
        ++ counters_by result (tests_counter (newest old.journal) o) tested_at count;
  }
