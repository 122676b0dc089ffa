-- What a driver does that gets events one after the other: a lap for each.
use Rattle.std.specs.Prelude.{◌≡◌, ℕ, ◌<◌, true, List, [], ◌∷◌, ◌++◌, Option, None, Some, IfSome, Ok}
use Rattle.ff_hands.specs.Orders.{is_sane}
use Rattle.ff_estimator.specs.Events.{IsLate, count_of_event, order_of_event}
use Rattle.ff_estimator.specs.declared.fulls.Event.{Event}
use Rattle.stamp_text.specs.Accepted.{IsItemInRange}
use Rattle.stamp_text.specs.Past.{accept_item}
use Rattle.stamp_text.specs.declared.lines.Item.{Item}
use Rattle.clock_lines.specs.Readings.{newest}
use Rattle.tick_desk.specs.Shows.{PenShows}
use Rattle.replay_run.specs.Drives.{StepsBy}
use Rattle.replay_run.specs.Plans.{event_step, steps_between}
use Rattle.replay_run.specs.declared.plan.PlanStep.{PlanStep}

-- items each of which is in range, and accepted behind those before it and behind these ones
abbrev pub AreAcceptedBehind : ℕ → List Item → List Item → Type 0
AreAcceptedBehind freq before [] = Unit {0}
AreAcceptedBehind freq before (x ∷ xs) = IsItemInRange x × (accept_item freq before x ≡ Ok tt) × AreAcceptedBehind freq (before ++ x ∷ []) xs

-- the count of the last event, if there is one
abbrev pub last_count : List Event → Option ℕ
last_count [] = None
last_count (e ∷ []) = Some (count_of_event e)
last_count (e ∷ (next ∷ es)) = last_count (next ∷ es)

-- a clock can go by this event behind one of the count `last`, if there is one
pub record MayFollow (freq : ℕ) (last : Option ℕ) (e : Event) : Type 0 where
  pub sane : is_sane (order_of_event freq e) ≡ true
  pub late : IsLate e
  pub newer : IfSome last (λ c. c < count_of_event e)

-- the plain steps on the way from the event before, if there is one
abbrev pub way_to : ℕ → Option ℕ → ℕ → List PlanStep
way_to ticks None to = []
way_to ticks (Some from) to = steps_between ticks from to

-- and the step of the event itself
abbrev pub lap_of : ℕ → ℕ → Option ℕ → Event → List PlanStep
lap_of freq ticks last e = way_to ticks last (count_of_event e) ++ event_step freq e ∷ []

-- a pen was wound by each of these steps, one after the other
abbrev pub WindsBy : List PlanStep → PenShows → PenShows → Type 0
WindsBy [] old new = new ≡ old
WindsBy (s ∷ ss) old new = (mid : PenShows) × StepsBy s old mid × WindsBy ss mid new

-- the counter was raised up to this count, and the newest tick's estimate is of it
pub record IsAt (count : ℕ) (p : PenShows) : Type 0 where
  pub top : p.top ≡ count
  pub update : (newest p.journal).est.update_ffcount ≡ count

-- the same for the count of the last event, or for that of the reset where there is none
abbrev pub IsBehind : Option ℕ → PenShows → Type 0
IsBehind None p = IsAt 0 p
IsBehind (Some count) p = IsAt count p
