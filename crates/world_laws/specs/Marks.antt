-- What sets of the clock do to the truth: until the next estimate is taken, nothing is promised.
use Rattle.std.specs.Prelude.{◌≡◌, ℕ, ◌<◌, ◌≤◌, Bool, true, false, List, slice_get, Some}
use Rattle.std.specs.List.{All}
use Rattle.stamp_text.specs.Past.{AreAcceptedItems, stamps_of}
use Rattle.stamp_text.specs.declared.lines.Item.{Item}
use Rattle.ff_hands.specs.Journals.{order_of, IsJournal}
use Rattle.ff_hands.specs.declared.estimates.Estimate.{Estimate}
use Rattle.ff_hands.specs.declared.hands.Hands.{Hands}
use Rattle.ff_hands.specs.declared.hands.Order.TheVariants as order
use Rattle.ff_estimator.specs.Events.{events_of}
use Rattle.replay_run.specs.Journals.{IsJournalOf}
use Rattle.replay_run.specs.Plans.{plan_of}
use Rattle.world_times.specs.declared.world.World.{World}
use Rattle.world_times.specs.Worlds.{IsFit, LiesIn}
use Rattle.world_laws.specs.Truths.{IsTrueTick}

-- a tick that resets the clock to an estimate that is marked, as that of a set is, is marked, and so is each
-- tick behind it as long as the clock only goes on
abbrev pub SetsAreMarked : Type 0
SetsAreMarked = (ticks : List Hands) (m n : ℕ) (set h : Hands) (e : Estimate) → IsJournal ticks → slice_get ticks m ≡ Some set
    → order_of set ≡ order.Reset e → e.status.unsync ≡ true → m ≤ n → slice_get ticks n ≡ Some h
    → ((k : ℕ) (between : Hands) → m < k → k ≤ n → slice_get ticks k ≡ Some between → order_of between ≡ order.Plain) → h.kstatus.unsync ≡ true

-- a tick that takes an estimate is marked as the estimate is, whatever came before
abbrev pub TakesAreMarked : Type 0
TakesAreMarked = (ticks : List Hands) (n : ℕ) (h : Hands) (e : Estimate) → IsJournal ticks → slice_get ticks n ≡ Some h → order_of h ≡ order.Take e
    → h.kstatus ≡ e.status

-- so it is true again, wherever the sets of the file stand and whatever time they tell
abbrev pub TakesAreTrue : Type 0
TakesAreTrue = (freq between : ℕ) (beside : Bool) (w : World) (items : List Item) (ticks : List Hands) → 1000000 ≤ freq → freq ≤ 16000000000
    → IsFit freq w → AreAcceptedItems freq items → All (LiesIn w) (stamps_of items)
    → IsJournalOf beside (plan_of freq (events_of freq items) between) ticks
    → (n : ℕ) (h : Hands) (e : Estimate) → slice_get ticks n ≡ Some h → order_of h ≡ order.Take e → e.status.unsync ≡ false → IsTrueTick w h
