-- The logs of readers: as they are opened, before their readers ran, and behind that.
use Rattle.std.specs.Prelude.{◌≡◌, ℕ, ◌<◌, ◌≤◌, List, [], All, length, map, slice_get, slice_index_or, Some, vec_capacity}
use Rattle.atomic_table.specs.Seated.{TableId}
use Rattle.clock_lines.specs.declared.readings.Kind.{Kind}
use Rattle.clock_logs.specs.Attempts.{AreAttempts, given_for, kinds_of}
use Rattle.clock_logs.specs.Logs.{entry_of}
use Rattle.tick_reads.specs.declared.loads.Ask.{Ask}
use Rattle.tick_table.specs.Sees.{PassSees}
use Rattle.replay_run.specs.declared.log.ReadLog.{ReadLog}
use Rattle.replay_run.specs.declared.plan.Options.{Options}

-- a log without a pass, with room for its entries
pub record IsEmpty (reads i : ℕ) (l : ReadLog) : Type 0 where
  pub reader : l.reader ≡ i
  pub items : l.entries.items ≡ []
  pub room : reads ≤ vec_capacity l.entries

-- so many logs, numbered from 0
pub record AreEmpty (readers reads : ℕ) (logs : List ReadLog) : Type 0 where
  pub many : length logs ≡ readers
  pub each : (i : ℕ) (l : ReadLog) → slice_get logs i ≡ Some l → IsEmpty reads i l

-- each log has its pass, and is else as before
pub record AreGiven (old new : List ReadLog) (passes : List PassSees) : Type 0 where
  pub many : length new ≡ length old
  pub each : (i : ℕ) (d : ReadLog) (p : PassSees) → slice_get passes i ≡ Some p → slice_index_or new i d ≡ record (slice_index_or old i d) { pass = Some p }

-- the log of reader i, with this pass
pub record IsOpened (reads i : ℕ) (p : PassSees) (l : ReadLog) : Type 0 where
  pub reader : l.reader ≡ i
  pub items : l.entries.items ≡ []
  pub room : reads ≤ vec_capacity l.entries
  pub pass : l.pass ≡ Some p

-- one log for each pass, in their order
pub record AreOpened (reads : ℕ) (passes : List PassSees) (logs : List ReadLog) : Type 0 where
  pub many : length logs ≡ length passes
  pub each : (i : ℕ) (p : PassSees) (l : ReadLog) → slice_get passes i ≡ Some p → slice_get logs i ≡ Some l → IsOpened reads i p l

-- the log of a reader that has not run: neither it nor its pass, which has the reader's number, has entries, and
-- there is room for all that come
pub record IsReady (reads : ℕ) (l : ReadLog) : Type 0 where
  pub empty : l.entries.items ≡ []
  pub room : reads ≤ vec_capacity l.entries
  pub pass : PassSees
  pub has : l.pass ≡ Some pass
  pub number : pass.view.number ≡ l.reader
  pub unused : pass.view.entries ≡ []

-- the pass of a log is one of this table
abbrev pub BelongsTo : TableId → ReadLog → Type 0
BelongsTo table l = (p : PassSees) → l.pass ≡ Some p → p.table ≡ table

-- logs are numbered from 0
abbrev pub IsNumbered : List ReadLog → Type 0
IsNumbered logs = (i : ℕ) (l : ReadLog) → slice_get logs i ≡ Some l → l.reader ≡ i

-- the logs of readers that have not run, on this table
pub record AreReady (table : TableId) (reads : ℕ) (logs : List ReadLog) : Type 0 where
  pub ready : All (IsReady reads) logs
  pub belong : All (BelongsTo table) logs
  pub numbered : IsNumbered logs

-- what an attempt asks
abbrev pub ask_for : ℕ → ℕ → Kind → Ask
ask_for freq latest k = record { kind = k; given = given_for freq latest k }

-- the kinds of the attempts of each reader, in turn
abbrev pub tried_by : Options → List Kind
tried_by options = kinds_of options.back options.utc

-- A reader has run: its log's entries are those of its pass, and are what so many attempts were answered
pub record HasRun (freq : ℕ) (options : Options) (before after : ReadLog) : Type 0 where
  pub reader : after.reader ≡ before.reader
  pub pass : PassSees
  pub has : after.pass ≡ Some pass
  pub number : pass.view.number ≡ before.reader
  pub entries : after.entries.items ≡ map entry_of pass.view.entries
  pub attempts : AreAttempts freq (tried_by options) options.reads after.entries.items
  pub table : (was : PassSees) → before.pass ≡ Some was → pass.table ≡ was.table

-- so has each
abbrev pub HaveRun : ℕ → Options → List ReadLog → List ReadLog → Type 0
HaveRun freq options before after = (i : ℕ) (d : ReadLog) → i < length before → HasRun freq options (slice_index_or before i d) (slice_index_or after i d)
