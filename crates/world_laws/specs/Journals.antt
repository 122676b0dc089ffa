-- Journals that go by the estimates of accepted stamps.
use Rattle.std.specs.Prelude.{◌≡◌, ℕ, pos, ◌≤◌, ⊤, true, Bool, List}
use Rattle.std.specs.List.{All, Contains}
use Rattle.stamp_text.specs.Accepted.{AreAccepted}
use Rattle.stamp_text.specs.Past.{AreAcceptedItems, stamps_of}
use Rattle.stamp_text.specs.declared.lines.Item.{Item}
use Rattle.stamp_text.specs.declared.lines.Stamp.{Stamp}
use Rattle.ff_hands.specs.declared.estimates.Estimate.{Estimate}
use Rattle.ff_estimator.specs.Events.{events_of}
use Rattle.ff_hands.specs.Journals.{order_of, IsJournal}
use Rattle.ff_hands.specs.declared.hands.Hands.{Hands}
use Rattle.ff_hands.specs.declared.hands.Order.{Order}
use Rattle.ff_hands.specs.declared.hands.Order.TheVariants as order
use Rattle.ff_estimator.specs.Folds.{fold_of, estimates_of}
use Rattle.replay_run.specs.Journals.{journal_of, IsJournalOf}
use Rattle.replay_run.specs.Plans.{plan_of}
use Rattle.world_times.specs.declared.world.World.{World}
use Rattle.world_times.specs.Worlds.{IsFit, LiesIn}
use Rattle.world_laws.specs.Truths.{AreTrueTicks}

-- an estimate without what it tells of leap seconds, of which bounds say nothing
abbrev pub leapless : Estimate → Estimate
leapless e = record e { leapsec_next = 0; leapsec_total = pos 0; leapsec = pos 0 }

-- what is taken is an estimate of these stamps, but for leap seconds, and what is reset to promises nothing
abbrev pub GoesBy : ℕ → List Stamp → Order → Type 0
GoesBy freq all order.Plain = ⊤
GoesBy freq all (order.Take e) = Contains (estimates_of (fold_of freq all)) (leapless e)
GoesBy freq all (order.Reset e) = e.status.unsync ≡ true

-- so does a plan of the events of items with these stamps: its sets are such resets
abbrev pub PlansGoBy : Type 0
PlansGoBy = (freq ticks : ℕ) (items : List Item) → All (λ s. GoesBy freq (stamps_of items) s.order) (plan_of freq (events_of freq items) ticks)

-- the ticks of a legal journal are true that goes by the estimates of stamps that lie in the world
abbrev pub BoundsHold : Type 0
BoundsHold = (freq : ℕ) (w : World) (all : List Stamp) (ticks : List Hands) → 1000000 ≤ freq → freq ≤ 16000000000 → IsFit freq w
    → AreAccepted freq all → All (LiesIn w) all → IsJournal ticks → All (λ h. GoesBy freq all (order_of h)) ticks → AreTrueTicks w ticks

-- so are those of a journal of the plan of their events, also where the counter was raised beside the driver
abbrev pub ReadingsHold : Type 0
ReadingsHold = (freq between : ℕ) (beside : Bool) (w : World) (items : List Item) (ticks : List Hands) → 1000000 ≤ freq → freq ≤ 16000000000
    → IsFit freq w → AreAcceptedItems freq items → All (LiesIn w) (stamps_of items)
    → IsJournalOf beside (plan_of freq (events_of freq items) between) ticks → AreTrueTicks w ticks

-- and those of the journal that the plan makes by itself
abbrev pub PlaysHold : Type 0
PlaysHold = (freq between : ℕ) (w : World) (items : List Item) → 1000000 ≤ freq → freq ≤ 16000000000 → IsFit freq w → AreAcceptedItems freq items
    → All (LiesIn w) (stamps_of items) → AreTrueTicks w (journal_of (plan_of freq (events_of freq items) between))
