-- What the driver makes of a pen, and the crank of the counter.
use Rattle.std.specs.Prelude.{◌≡◌, ℕ, ◌+◌, ◌-◌, ◌≤◌, max, false, true, List, [], ◌∷◌, ◌++◌, length, Option, None, Some}
use Rattle.ff_hands.specs.Journals.{IsJournal}
use Rattle.ff_hands.specs.Orders.{fits}
use Rattle.ff_hands.specs.Windups.{wind_of}
use Rattle.clock_lines.specs.Readings.{newest}
use Rattle.tick_table.specs.Sees.{CrankSees}
use Rattle.tick_desk.specs.Shows.{PenShows}
use Rattle.replay_run.specs.Journals.{greatest, AreTicksOf}
use Rattle.replay_run.specs.declared.plan.PlanStep.{PlanStep}

-- a pen was wound by a step, at a count that has reached the step's, and is the step's where no crank is out
pub record StepsBy (s : PlanStep) (old new : PenShows) : Type 0 where
  pub count : ℕ
  pub reached : s.to ≤ count
  pub later : (newest old.journal).count ≤ count
  pub still : old.out ≡ false → count ≡ s.to
  pub fits : fits (newest old.journal) count s.order ≡ true
  pub counters : List ℕ
  pub met : List ℕ
  pub after : new ≡ record old {
    journal = old.journal ++ wind_of (newest old.journal) count s.order ∷ [];
    counters = counters;
    top = s.to;
    met = met;
    spare = old.spare - 1;
  }

-- a pen was wound by each step
pub record IsDriven (steps : List PlanStep) (old new : PenShows) : Type 0 where
  pub journal : IsJournal new.journal
  pub many : length new.journal ≡ 1 + length steps
  pub each : AreTicksOf old.out steps new.journal
  pub top : new.top ≡ greatest steps
  pub spare : new.spare ≡ old.spare - length steps
  pub table : new.table ≡ old.table
  pub out : new.out ≡ old.out
  pub made : new.made ≡ old.made
  pub kept : new.kept ≡ old.kept

-- a crank, if there is one, has raised the counter to each step's count
abbrev pub Turned : List PlanStep → Option CrankSees → Option CrankSees → Type 0
Turned steps None after = after ≡ None
Turned steps (Some c) None = ⊥
Turned steps (Some c) (Some d) = d ≡ record c { top = max c.top (greatest steps); met = d.met }
