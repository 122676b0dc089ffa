-- The clock of one thread.
use Rattle.std.specs.Prelude.{ℕ, ◌-◌, ◌^◌, ◌<◌, ◌≤◌, nat_lt, nat_le, if◌then◌else◌, ⊤, List, [], ◌∷◌, ◌++◌, length, Option, None, Some, Result, Ok, Err}
use Rattle.ff_hands.specs.Journals.{IsJournal}
use Rattle.ff_hands.specs.Windups.{wind_of}
use Rattle.ff_hands.specs.declared.estimates.Estimate.{Estimate}
use Rattle.ff_hands.specs.declared.hands.Hands.{Hands}
use Rattle.ff_hands.specs.declared.hands.Order.{Order}
use Rattle.ff_hands.specs.declared.hands.Order.TheVariants as order
pub use Rattle.clock_lines.specs.Readings.{newest, reading_at}
use Rattle.clock_lines.specs.declared.readings.Kind.{Kind}
use Rattle.clock_lines.specs.declared.readings.Kind.TheVariants as kinds
use Rattle.clock_lines.specs.declared.readings.Reading.{Reading}
use Rattle.clock_core.specs.declared.machine.Refuse.{Refuse}
use Rattle.clock_core.specs.declared.machine.Refuse.TheVariants as refuse

-- the ticks so far, the counter, and for how many more ticks there is room
pub record Machine : Type 0 where
  pub ticks : List Hands
  pub counter : ℕ
  pub spare : ℕ

-- what every clock has
pub record Holds (ticks : List Hands) (counter : ℕ) : Type 0 where
  pub journal : IsJournal ticks
  pub reached : (newest ticks).count ≤ counter
  pub most : counter < 2 ^ 62

-- an estimate may not be of a count that the counter has not reached
abbrev pub refusal_ahead : ℕ → Estimate → Option Refuse
refusal_ahead counter e = if nat_lt counter e.update_ffcount then Some (refuse.Ahead counter) else None

-- and one to take has to be of a later count than the newest estimate, which is looked at first
abbrev pub refusal : Hands → ℕ → Order → Option Refuse
refusal last counter order.Plain = None
refusal last counter (order.Take e) = if nat_le e.update_ffcount last.est.update_ffcount then Some
    (refuse.Stale last.est.update_ffcount) else refusal_ahead counter e
refusal last counter (order.Reset e) = refusal_ahead counter e

-- the number of a new tick, unless the order is refused
abbrev pub answer_by : ℕ → Option Refuse → Result ℕ Refuse
answer_by tick None = Ok tick
answer_by tick (Some why) = Err why

abbrev pub answer_of : Machine → Order → Result ℕ Refuse
answer_of m o = answer_by (length m.ticks) (refusal (newest m.ticks) m.counter o)

-- one more tick at the counter
abbrev pub wound : Machine → Order → Machine
wound m o = record { ticks = m.ticks ++ wind_of (newest m.ticks) m.counter o ∷ []; counter = m.counter; spare = m.spare - 1 }

-- the kinds that ask for the present
abbrev pub ReadsNow : Kind → Type 0
ReadsNow kinds.Abs = ⊤
ReadsNow kinds.Mono = ⊤
ReadsNow kinds.Uptime = ⊤
ReadsNow kinds.Fast = ⊤
ReadsNow kinds.Diff = ⊥
ReadsNow kinds.Back = ⊥
ReadsNow kinds.Utc = ⊥

-- a fast read is at the tick, and the others are at the counter
abbrev pub count_of : Kind → ℕ → ℕ → ℕ
count_of kinds.Fast at counter = at
count_of _ at counter = counter

-- what is read now, by the newest tick
abbrev pub reading_of : Machine → Kind → Reading
reading_of m k = reading_at (newest m.ticks) (length m.ticks - 1) k (count_of k (newest m.ticks).count m.counter)
