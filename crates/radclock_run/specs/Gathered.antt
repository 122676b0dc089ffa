-- What the accepted items among those of a file say to a clock.
use Rattle.std.specs.Prelude.{◌≡◌, ℕ, Bool, true, false, List, [], is_ok}
use Rattle.stamp_text.specs.Accepted.{accepted_with}
use Rattle.stamp_text.specs.Past.{accept_item}
use Rattle.stamp_text.specs.declared.lines.Item.{Item}
use Rattle.ff_estimator.specs.Daemons.{Kept, StandsFor}
use Rattle.ff_estimator.specs.Events.{AreOf}
use Rattle.ff_estimator.specs.declared.fulls.Event.{Event}
use Rattle.ff_estimator.specs.declared.fulls.Event.TheVariants as event
use Rattle.radclock_input.specs.Inputs.{accepted_among}
use Rattle.radclock_input.specs.declared.files.ItemLine.{ItemLine}

-- a daemon stands for accepted items, and these are their events
pub record Gathered (k : Kept) (events : List Event) (freq : ℕ) (items : List Item) : Type 0 where
  pub stands : StandsFor k freq items
  pub are : AreOf events freq items

-- and with one more item, which is accepted or not
pub record IsGathered (k : Kept) (events : List Event) (freq : ℕ) (before : List Item) (x : Item) (taken : Bool) : Type 0 where
  pub gathered : Gathered k events freq (accepted_with before x (accept_item freq before x))
  pub answer : taken ≡ is_ok (accept_item freq before x)

-- these are the events of the accepted items among those of a file
abbrev pub AreEvents : List Event → ℕ → List ItemLine → Type 0
AreEvents events freq items = AreOf events freq (accepted_among freq [] items)

-- an event that is an estimate
abbrev pub is_estimate : Event → Bool
is_estimate (event.Estimate f) = true
is_estimate (event.Set count at) = false
