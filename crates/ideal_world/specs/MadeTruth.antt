-- What is told of made stamps.
use Rattle.std.specs.Prelude.{ℕ, ◌≤◌, Bool, List, map}
use Rattle.std.specs.List.{All}
use Rattle.ff_hands.specs.declared.hands.Hands.{Hands}
use Rattle.stamp_text.specs.declared.lines.Item.TheVariants as item
use Rattle.ff_estimator.specs.Events.{events_of}
use Rattle.ff_estimator.specs.Folds.{fold_of}
use Rattle.replay_run.specs.Journals.{IsJournalOf}
use Rattle.replay_run.specs.Plans.{plan_of}
use Rattle.world_laws.specs.Truths.{IsTrueEstimate, AreTrueTicks}
use Rattle.stamp_maker.specs.Worlds.{frequency, made_world}
use Rattle.stamp_maker.specs.MadeStamps.{made_stamps}

-- their estimates are true in the made world
abbrev pub MadeEstimatesAreTrue : Type 0
MadeEstimatesAreTrue = (number count : ℕ) → count ≤ 16384 → All (IsTrueEstimate made_world) (fold_of frequency (made_stamps number count))

-- so are the ticks of a journal of their plan, also where the counter was raised beside the driver
abbrev pub MadeTicksAreTrue : Type 0
MadeTicksAreTrue = (number count between : ℕ) (beside : Bool) (ticks : List Hands) → count ≤ 16384
    → IsJournalOf beside (plan_of frequency (events_of frequency (map item.Stamp (made_stamps number count))) between) ticks → AreTrueTicks made_world ticks
