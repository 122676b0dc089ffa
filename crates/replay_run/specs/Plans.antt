-- The plan of a replay: which orders the clock is given, and at which counts.
use Rattle.std.specs.Prelude.{ℕ, ◌+◌, ◌-◌, ◌*◌, ◌/◌, ◌≤◌, List, [], ◌∷◌, ◌++◌, map}
use Rattle.std.specs.List.{range_with_len}
use Rattle.ff_hands.specs.Windups.{start_time, reset_estimate}
use Rattle.ff_estimator.specs.Events.{count_of_event, order_of_event}
use Rattle.ff_estimator.specs.declared.fulls.Event.{Event}
use Rattle.ff_hands.specs.declared.hands.Order.TheVariants as order
use Rattle.replay_run.specs.declared.plan.Options.{Options}
use Rattle.replay_run.specs.declared.plan.PlanStep.{PlanStep}

-- at most 15 plain steps between two estimates, 16 readers, and 16384 reads of each
pub record AreOptionsInRange (o : Options) : Type 0 where
  pub ticks : o.ticks ≤ 15
  pub readers : o.readers ≤ 16
  pub reads : o.reads ≤ 16384

-- the clock is set to time 0 at count 0
abbrev pub start_step : ℕ → PlanStep
start_step freq = record { to = 0; order = order.Reset (reset_estimate start_time 0 freq) }

-- an estimate is taken, and a set made, at its own count
abbrev pub event_step : ℕ → Event → PlanStep
event_step freq e = record { to = count_of_event e; order = order_of_event freq e }

-- where part m of the way between two counts ends, which is cut into ticks + 1 parts; rounded down
abbrev pub count_between : ℕ → ℕ → ℕ → ℕ → ℕ
count_between ticks from to m = from + m * (to - from) / (ticks + 1)

-- the clock goes on at such a count
abbrev pub plain_step : ℕ → ℕ → ℕ → ℕ → PlanStep
plain_step ticks from to m = record { to = count_between ticks from to m; order = order.Plain }

-- between two counts it does so where each part ends but the last one
abbrev pub steps_between : ℕ → ℕ → ℕ → List PlanStep
steps_between ticks from to = map (plain_step ticks from to) (range_with_len 1 ticks)

-- each event has its step, and between two of them the clock goes on
abbrev pub steps_from : ℕ → List Event → ℕ → List PlanStep
steps_from freq [] ticks = []
steps_from freq (e ∷ []) ticks = event_step freq e ∷ []
steps_from freq (e ∷ (next ∷ es)) ticks = event_step freq e
    ∷ (steps_between ticks (count_of_event e) (count_of_event next) ++ steps_from freq (next ∷ es) ticks)

-- the plan for a counter's frequency, the events, and how many plain steps stand between two
unfoldable pub plan_of : ℕ → List Event → ℕ → List PlanStep
plan_of freq es ticks = start_step freq ∷ steps_from freq es ticks
