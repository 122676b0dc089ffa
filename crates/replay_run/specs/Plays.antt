-- What a play leaves: the journal, and the logs that the pen keeps.
use Rattle.std.specs.Prelude.{◌≡◌, ℕ, ◌-◌, ◌≤◌, Bool, true, false, max, List, [], ◌∷◌, ◌++◌, length, map, slice_get, slice_index_or, Option, None, Some}
use Rattle.atomic_table.specs.Seated.{TableId}
use Rattle.ff_hands.specs.declared.hands.Hands.{Hands}
use Rattle.clock_logs.specs.Attempts.{AreAttempts}
use Rattle.clock_logs.specs.Logs.{IsLog, AreSince, AreWithin, entry_of}
use Rattle.clock_logs.specs.declared.noted.Noted.{Noted}
use Rattle.clock_logs.specs.declared.noted.Kept.{Kept}
use Rattle.tick_laws.specs.Logs.{IsKeptLegal}
use Rattle.tick_views.specs.Views.{kept_of}
use Rattle.tick_table.specs.Sees.{CrankSees, PassSees}
use Rattle.tick_desk.specs.Shows.{PenShows}
use Rattle.tick_desk.specs.Winds.{Lends}
use Rattle.replay_run.specs.Journals.{greatest, IsJournalOf}
use Rattle.replay_run.specs.Logs.{tried_by}
use Rattle.replay_run.specs.declared.log.ReadLog.{ReadLog}
use Rattle.replay_run.specs.declared.plan.Options.{Options}
use Rattle.replay_run.specs.declared.plan.PlanStep.{PlanStep}

-- a crank was lent where one was wanted
abbrev pub IsLentFor : Bool → PenShows → Option CrankSees → PenShows → Type 0
IsLentFor wanted old None new = (wanted ≡ false) × (new ≡ old)
IsLentFor wanted old (Some c) new = (wanted ≡ true) × Lends old new c

-- no tick has a count past this one
abbrev pub IsMost : ℕ → List Hands → Type 0
IsMost most ticks = (n : ℕ) (h : Hands) → slice_get ticks n ≡ Some h → h.count ≤ most

-- and taken back where it was lent
abbrev pub IsBack : Option CrankSees → PenShows → PenShows → Type 0
IsBack None old new = new ≡ old
IsBack (Some c) old new = (new ≡ record old { top = max old.top c.top; out = false }) × IsMost new.top new.journal

-- a log has a pass, of this table
pub record HasPass (table : TableId) (l : ReadLog) : Type 0 where
  pub pass : PassSees
  pub has : l.pass ≡ Some pass
  pub table_is : pass.table ≡ table

-- what a log has lost when the pen has taken its pass in and keeps this of it
pub record IsKeptOf (p : PenShows) (before after : ReadLog) (k : Kept) : Type 0 where
  pub pass : PassSees
  pub had : before.pass ≡ Some pass
  pub is : k ≡ kept_of pass.view
  pub legal : IsKeptLegal p.journal p.top p.out k
  pub none : after.pass ≡ None
  pub reader : after.reader ≡ before.reader
  pub entries : after.entries.items ≡ before.entries.items

-- the pass of a log was taken in
pub record TakesIn (before after : ReadLog) (old new : PenShows) : Type 0 where
  pub kept : Kept
  pub log : IsKeptOf old before after kept
  pub pen : new ≡ record old { kept = old.kept ++ kept ∷ [] }

-- those of all logs were, in their order
pub record TakesAll (before after : List ReadLog) (old new : PenShows) : Type 0 where
  pub kept : List Kept
  pub many : length kept ≡ length before
  pub pen : new ≡ record old { kept = old.kept ++ kept }
  pub each : (i : ℕ) (d : ReadLog) (k : Kept) → slice_get kept i ≡ Some k → IsKeptOf old (slice_index_or before i d) (slice_index_or after i d) k

-- A legal log over a journal, of so many attempts in turn, each current at the first load of its call, and none that
-- shows the counter past this count
pub record IsLogOf (freq : ℕ) (options : Options) (most : ℕ) (ticks : List Hands) (es : List Noted) : Type 0 where
  pub legal : IsLog ticks (map entry_of es)
  pub since : AreSince ticks es
  pub attempts : AreAttempts freq (tried_by options) options.reads (map entry_of es)
  pub within : AreWithin most (map entry_of es)

-- the log of reader i, and what the pen keeps of its pass, which it has taken in
pub record IsKeptLog (freq : ℕ) (options : Options) (most : ℕ) (ticks : List Hands) (i : ℕ) (l : ReadLog) (k : Kept) : Type 0 where
  pub reader : l.reader ≡ i
  pub none : l.pass ≡ None
  pub number : k.number ≡ i
  pub entries : l.entries.items ≡ map entry_of k.entries
  pub log : IsLogOf freq options most ticks k.entries

-- A plan was played. The pen's journal is one of its steps, which took up room that was there, no crank is out, and the
-- pen has taken in the pass of each log, in their order
pub record Played (freq : ℕ) (options : Options) (steps : List PlanStep) (before after : List ReadLog) (old new : PenShows) : Type 0 where
  pub journal : IsJournalOf options.crank steps new.journal
  pub top : new.top ≡ greatest steps
  pub spare : new.spare ≡ old.spare - length steps
  pub still : new.out ≡ false
  pub table : new.table ≡ old.table
  pub made : new.made ≡ old.made
  pub kept : List Kept
  pub pen : new.kept ≡ old.kept ++ kept
  pub many : length kept ≡ length before
  pub same : length after ≡ length before
  pub each : (i : ℕ) (l : ReadLog) (k : Kept) → slice_get after i ≡ Some l → slice_get kept i ≡ Some k
      → IsKeptLog freq options (greatest steps) new.journal i l k
