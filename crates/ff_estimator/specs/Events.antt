-- What accepted items say to a clock, one after the other: the estimate at each stamp, and each set.
use Rattle.std.specs.Prelude.{◌≡◌, ℕ, ◌<◌, true, ⊤, pos, List, [], ◌∷◌, ◌++◌, length, filter_map, Option, None, Some}
use Rattle.std.specs.List.{All, AllPairs}
use Rattle.std.specs.Option.{option_to_list}
use Rattle.stamp_text.specs.Past.{AreAcceptedItems, accept_item, stamps_of}
use Rattle.stamp_text.specs.declared.lines.Item.{Item}
use Rattle.stamp_text.specs.declared.lines.Item.TheVariants as item
use Rattle.stamp_text.specs.declared.lines.Stamp.{Stamp}
use Rattle.ff_hands.specs.Orders.{is_sane}
use Rattle.ff_hands.specs.Windups.{reset_estimate}
use Rattle.ff_hands.specs.declared.hands.Order.{Order}
use Rattle.ff_hands.specs.declared.hands.Order.TheVariants as order
use Rattle.ff_estimator.specs.Estimates.{full_at, fed_by}
use Rattle.ff_estimator.specs.Leaps.{leaps_of, fields_at}
use Rattle.ff_estimator.specs.declared.fulls.Event.{Event}
use Rattle.ff_estimator.specs.declared.fulls.Event.TheVariants as event
use Rattle.ff_estimator.specs.declared.fulls.Fed.{Fed}
use Rattle.ff_estimator.specs.declared.fulls.Full.{Full}
use Rattle.ff_estimator.specs.declared.leaps.LeapFields.{LeapFields}

-- an estimate with what is told of leap seconds
abbrev pub with_leaps : LeapFields → Full → Full
with_leaps l f = record f { est = record f.est { leapsec_next = l.next; leapsec_total = l.total; leapsec = l.sign } }

-- the same with no leap seconds
abbrev pub without_leaps : Full → Full
without_leaps f = with_leaps (record { next = 0; total = pos 0; sign = pos 0 }) f

-- what is said at one more stamp behind accepted items: what is said of the stamps, with the leap seconds
-- before it
unfoldable pub full_behind : ℕ → List Item → Stamp → Full
full_behind freq before s = with_leaps (fields_at (leaps_of before) s.tf) (full_at freq (stamps_of before ++ s ∷ []) (length (stamps_of before)))

-- what is said to one more stamp behind accepted items
abbrev pub fed_of : ℕ → List Item → Stamp → Fed
fed_of freq items s = fed_by (accept_item freq items (item.Stamp s)) (full_behind freq items s)

-- what an item says behind accepted ones
abbrev pub event_behind : ℕ → List Item → Item → Option Event
event_behind freq before (item.Stamp s) = Some (event.Estimate (full_behind freq before s))
event_behind freq before (item.Set count at) = Some (event.Set count at)
event_behind freq before (item.Leap count leap) = None

-- what items say, behind accepted ones
abbrev pub events_from : ℕ → List Item → List Item → List Event
events_from freq before [] = []
events_from freq before (x ∷ xs) = option_to_list (event_behind freq before x) ++ events_from freq (before ++ x ∷ []) xs

unfoldable pub events_of : ℕ → List Item → List Event
events_of freq items = events_from freq [] items

-- the estimates among them
abbrev pub full_of_event : Event → Option Full
full_of_event (event.Estimate f) = Some f
full_of_event (event.Set count at) = None

abbrev pub fulls_of : List Event → List Full
fulls_of events = filter_map full_of_event events

-- the count of an event, and what a clock is then wound by
abbrev pub count_of_event : Event → ℕ
count_of_event (event.Estimate f) = f.est.update_ffcount
count_of_event (event.Set count at) = count

abbrev pub order_of_event : ℕ → Event → Order
order_of_event freq (event.Estimate f) = order.Take f.est
order_of_event freq (event.Set count at) = order.Reset (reset_estimate at count freq)

-- these are the events of these accepted items
pub record AreOf (events : List Event) (freq : ℕ) (items : List Item) : Type 0 where
  pub fold : events ≡ events_of freq items
  pub accepted : AreAcceptedItems freq items

-- an estimate is not of the count 0
abbrev pub IsLate : Event → Type 0
IsLate (event.Estimate f) = 0 < f.est.update_ffcount
IsLate (event.Set count at) = ⊤

-- events that a clock can go by one after another: each is sane, and of a later count than each one before
-- it
pub record AreInTurn (freq : ℕ) (events : List Event) : Type 0 where
  pub sane : All (λ e. is_sane (order_of_event freq e) ≡ true) events
  pub late : All IsLate events
  pub rising : AllPairs (λ e later. count_of_event e < count_of_event later) events
