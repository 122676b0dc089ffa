-- What a replay wants before it is played, and what is printed of it.
use Rattle.std.specs.Prelude.{◌≡◌, ℕ, ◌+◌, ◌*◌, ◌<◌, ◌≤◌, ◌^◌, false, List, [], ◌∷◌, length, map}
use Rattle.std.specs.List.{All}
use Rattle.stamp_text.specs.declared.lines.Item.{Item}
use Rattle.ff_hands.specs.Windups.{cold}
use Rattle.clock_lines.specs.declared.readings.Entry.{Entry}
use Rattle.tick_desk.specs.Shows.{PenShows}
use Rattle.replay_run.specs.Fitting.{PlanFits}
use Rattle.replay_run.specs.Logs.{AreReady}
use Rattle.replay_run.specs.declared.log.ReadLog.{ReadLog}
use Rattle.replay_run.specs.declared.plan.Options.{Options}
use Rattle.replay_run.specs.declared.plan.Plan.{Plan}
use Rattle.radclock_run.specs.Replays.{IsReplayed, logs_of, steps_by}

-- how many entries stand in logs
abbrev pub entries_in : List (List Entry) → ℕ
entries_in [] = 0
entries_in (es ∷ logs) = length es + entries_in logs

-- the plan of accepted items
pub record IsPlanFor (freq : ℕ) (options : Options) (all : List Item) (p : Plan) : Type 0 where
  pub freq_is : p.freq ≡ freq
  pub options_is : p.options ≡ options
  pub steps : p.steps.items ≡ steps_by freq options.ticks all
  pub fits : PlanFits 0 0 p.steps.items

-- all that a play of so many steps wants of logs and a pen is there
pub record IsReadyFor (options : Options) (steps : ℕ) (logs : List ReadLog) (pen : PenShows) : Type 0 where
  pub logs_are : AreReady pen.table options.reads logs
  pub many : length logs ≡ options.readers
  pub spare : steps ≤ pen.spare
  pub journal : pen.journal ≡ cold ∷ []
  pub top : pen.top ≡ 0
  pub still : pen.out ≡ false
  pub kept : pen.kept ≡ []

-- the entries of logs
abbrev pub entries_of : List ReadLog → List (List Entry)
entries_of logs = map (λ (l : ReadLog). l.entries.items) logs

-- these logs have the entries that a pen keeps
pub record ArePrinted (options : Options) (pen : PenShows) (logs : List ReadLog) : Type 0 where
  pub same : entries_of logs ≡ logs_of pen
  pub few : length logs < 2 ^ 32
  pub short : All (λ (l : ReadLog). length l.entries.items < 2 ^ 32) logs
  pub entries : options.readers * options.reads ≡ entries_in (entries_of logs)

-- accepted items were played: their replay is what a pen shows, and these logs have the entries that it keeps
pub record ArePlayed (options : Options) (freq : ℕ) (all : List Item) (pen : PenShows) (logs : List ReadLog) : Type 0 where
  pub replayed : IsReplayed options freq all pen
  pub printed : ArePrinted options pen logs
