-- What passes answer, and what they note of it.
use Rattle.std.specs.Prelude.{◌≡◌, ℕ, ◌+◌, ◌<◌, ◌≤◌, ◌^◌, ◌⊎◌, ⊤, false, List, [], ◌∷◌, ◌++◌, None, Some}
use Rattle.ff_hands.specs.declared.hands.Hands.{Hands}
use Rattle.clock_lines.specs.Readings.{reading_at}
use Rattle.clock_lines.specs.Values.{MayRead}
use Rattle.clock_lines.specs.declared.readings.Kind.{Kind}
use Rattle.clock_lines.specs.declared.readings.Kind.TheVariants as kind
use Rattle.clock_lines.specs.declared.readings.Reading.{Reading}
use Rattle.clock_lines.specs.declared.readings.Entry.{Entry}
use Rattle.clock_lines.specs.declared.readings.Entry.TheVariants as entry
use Rattle.clock_logs.specs.Legal.{Way, full, quick, past, way_of}
use Rattle.hand_words.specs.Words.{unpack}
use Rattle.tick_reads.specs.declared.loads.Ask.{Ask}
use Rattle.tick_reads.specs.declared.loads.Load.{Load}
use Rattle.tick_reads.specs.declared.loads.Load.TheVariants.{Turn}
use Rattle.tick_reads.specs.Reads.{Reads}
use Rattle.tick_views.specs.declared.views.PassView.{PassView}
use Rattle.tick_views.specs.Views.{scan_of, noted}
use Rattle.tick_table.specs.Sees.{PassSees}
use Rattle.tick_table.specs.Steps.{IsSoundAt}
use Rattle.tick_laws.specs.Goes.{Answers, Grows, IsOpened, ask_of}
use Rattle.tick_desk.specs.declared.reads.Answer.{Answer}
use Rattle.tick_desk.specs.declared.reads.Answer.TheVariants as answer
use Rattle.tick_desk.specs.declared.convert.Converted.{Converted}
use Rattle.tick_desk.specs.declared.convert.Converted.TheVariants as converted

-- the kinds that may be read as of now
abbrev pub IsReadable : Kind → Type 0
IsReadable kind.Abs = ⊤
IsReadable kind.Mono = ⊤
IsReadable kind.Uptime = ⊤
IsReadable kind.Fast = ⊤
IsReadable kind.Utc = ⊤
IsReadable kind.Diff = ⊥
IsReadable kind.Back = ⊥

-- the entry of a read of a kind
abbrev pub entry_by : Kind → Answer → Entry
entry_by k (answer.Read r) = entry.Read r
entry_by k (answer.Again first last) = entry.Again k first last

-- the entry of a conversion of a past count
abbrev pub entry_from : ℕ → Converted → Entry
entry_from count (converted.Read r) = entry.Read r
entry_from count (converted.TooOld oldest) = entry.TooOld count oldest
entry_from count (converted.Ahead at) = entry.Ahead count at
entry_from count (converted.Again first last) = entry.Again kind.Back first last

-- the hands that the fields of the tick that a pass looked at last unpack to
abbrev pub hands_of : PassView → Hands
hands_of v = unpack (scan_of v).fields

-- A reading is by these hands, which stand at its tick in a journal, at a count where they may be
-- read
pub record IsBy (h : Hands) (r : Reading) : Type 0 where
  pub stands : IsSoundAt r.tick h
  pub is : r ≡ reading_at h r.tick r.kind r.count
  pub place : MayRead r.kind h.count r.count
  pub small : r.count < 2 ^ 62

-- an entry is a reading by these hands, where it is one
abbrev pub IsEntryBy : Hands → Entry → Type 0
IsEntryBy h (entry.Read r) = IsBy h r
IsEntryBy h (entry.Again k first last) = ⊤
IsEntryBy h (entry.TooOld count oldest) = ⊤
IsEntryBy h (entry.Ahead count at) = ⊤

-- one more entry is noted, with the turn word that the call loaded first
pub record Notes (before after : PassView) (e : Entry) : Type 0 where
  pub opening : ℕ
  pub rest : List Load
  pub opens : after.loads ≡ Turn opening ∷ rest
  pub entries : after.entries ≡ before.entries ++ noted e opening ∷ []

-- One whole call of a pass, which asks this: its loads, and no others of this pass, come to this entry,
-- a reading in it is by the hands of its tick, and it is noted once
pub record Adds (before after : PassSees) (ask : Ask) (e : Entry) : Type 0 where
  pub table : after.table ≡ before.table
  pub asked : after.view.ask ≡ ask
  pub ended : after.view.calling ≡ false
  pub grows : Grows before.view after.view after.view.loads
  pub reads : Reads ask after.view.loads e
  pub by : IsEntryBy (hands_of after.view) e
  pub notes : Notes before.view after.view e

-- a read that looks at a mark is to be made again only where the mark is of a tick at least ten
-- later
abbrev pub IsLateBy : Way → Answer → Type 0
IsLateBy full a = ⊤
IsLateBy past a = ⊤
IsLateBy quick (answer.Read r) = ⊤
IsLateBy quick (answer.Again first last) = first + 19 ≤ last

abbrev pub IsLate : Kind → Answer → Type 0
IsLate k a = IsLateBy (way_of k) a

pub record BegunShows : Type 0 where
  pub kind : Kind
  pub first : ℕ
  pub pass : PassSees

-- the pass as the beginning left it
pub record IsBegun (b : BegunShows) : Type 0 where
  pub readable : IsReadable b.kind
  pub opened : IsOpened b.pass.view (ask_of b.kind) b.first

-- The rest of a read: there is none where the beginning decided it, and else it is decided by
-- further loads
pub record Finishes (before after : PassSees) (k : Kind) (e : Entry) : Type 0 where
  pub table : after.table ≡ before.table
  pub rest : (((scan_of before.view).answer ≡ Some e) × (after ≡ before)) ⊎ (((scan_of before.view).answer ≡ None) × Answers before.view after.view e)
  pub reads : Reads (ask_of k) after.view.loads e
  pub by : IsEntryBy (hands_of after.view) e
