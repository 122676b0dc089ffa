-- Journals of ticks, and the hands that stand in one.
use Rattle.std.specs.Prelude.{◌≡◌, ℕ, ◌+◌, ◌-◌, true, List, length, slice_get, Some}
use Rattle.ff_hands.specs.Orders.{fits}
use Rattle.ff_hands.specs.Windups.{cold, wind_of}
use Rattle.ff_hands.specs.declared.hands.Hands.{Hands}
use Rattle.ff_hands.specs.declared.hands.How.{How}
use Rattle.ff_hands.specs.declared.hands.How.TheVariants as how
use Rattle.ff_hands.specs.declared.hands.Order.{Order}
use Rattle.ff_hands.specs.declared.hands.Order.TheVariants as order
use Rattle.ff_hands.specs.declared.estimates.Estimate.{Estimate}

-- the order that made hands, as they tell it
abbrev pub order_by : How → Estimate → Order
order_by how.Cold e = order.Plain
order_by how.Plain e = order.Plain
order_by how.Take e = order.Take e
order_by how.Jump e = order.Take e
order_by how.Reset e = order.Reset e

abbrev pub order_of : Hands → Order
order_of h = order_by h.how h.est

-- hands follow others by their own order at their own count, which fits
pub record Follows (h next : Hands) : Type 0 where
  pub fits : fits h next.count (order_of next) ≡ true
  pub wound : next ≡ wind_of h next.count (order_of next)

-- it begins with the cold hands, and each tick follows the one before it
pub record IsJournal (ticks : List Hands) : Type 0 where
  pub first : slice_get ticks 0 ≡ Some cold
  pub next : (n : ℕ) (h next : Hands) → slice_get ticks n ≡ Some h → slice_get ticks (n + 1) ≡ Some next → Follows h next

-- hands that stand last in a journal
pub record IsSound (h : Hands) : Type 0 where
  pub ticks : List Hands
  pub journal : IsJournal ticks
  pub last : slice_get ticks (length ticks - 1) ≡ Some h
