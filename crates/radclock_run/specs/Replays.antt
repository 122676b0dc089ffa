-- What a replay and a run over made stamps leave on a desk, and what is true of it. In each log of a reader each entry has the
-- opening value of its call: what the turn word held at the first load of it that the call made.
use Rattle.std.specs.Prelude.{◌≡◌, ℕ, ⊤, true, false, List, ◌∷◌, length, map, slice_get, Option, None, Some}
use Rattle.std.specs.List.{All}
use Rattle.ff_grain.specs.Grains.{number_of}
use Rattle.stamp_text.specs.Accepted.{AreAccepted}
use Rattle.stamp_text.specs.declared.lines.Item.{Item}
use Rattle.stamp_text.specs.declared.lines.Item.TheVariants as item
use Rattle.stamp_text.specs.declared.lines.Stamp.{Stamp}
use Rattle.ff_hands.specs.Journals.{order_of}
use Rattle.ff_hands.specs.declared.hands.Hands.{Hands}
use Rattle.ff_estimator.specs.Events.{events_of, fulls_of, order_of_event}
use Rattle.ff_estimator.specs.Folds.{estimates_of}
use Rattle.clock_lines.specs.declared.readings.Entry.{Entry}
use Rattle.clock_lines.specs.declared.readings.Entry.TheVariants as entry
use Rattle.clock_lines.specs.declared.readings.Kind.{Kind}
use Rattle.clock_lines.specs.declared.readings.Reading.{Reading}
use Rattle.clock_logs.specs.Attempts.{AreAttempts, HasNoAhead}
use Rattle.clock_logs.specs.Legal.{way_of}
use Rattle.clock_logs.specs.Logs.{IsAgain, IsLog, AreSince, AreWithin, entry_of}
use Rattle.clock_logs.specs.Rises.{Rises}
use Rattle.clock_logs.specs.declared.noted.Kept.{Kept}
use Rattle.clock_words.specs.declared.commands.Report.{Report}
use Rattle.clock_words.specs.declared.commands.Report.TheVariants as asked
use Rattle.tick_desk.specs.Shows.{PenShows}
use Rattle.replay_run.specs.Journals.{journal_of, greatest, moves_in, taken_in, IsJournalOf}
use Rattle.replay_run.specs.Logs.{tried_by}
use Rattle.replay_run.specs.Plans.{plan_of, start_step}
use Rattle.replay_run.specs.declared.plan.Options.{Options}
use Rattle.replay_run.specs.declared.plan.PlanStep.{PlanStep}
use Rattle.world_times.specs.Worlds.{IsFit, LiesIn}
use Rattle.world_times.specs.declared.world.World.{World}
use Rattle.world_laws.specs.Truths.{IsTrueEstimate, IsCovered, AreTrueTicks}
use Rattle.stamp_maker.specs.MadeStamps.{made_stamps}
use Rattle.stamp_maker.specs.Worlds.{frequency, made_world}
use Rattle.ideal_world.specs.Deviations.{IsFarthest}
use Rattle.ideal_world.specs.declared.deviations.Deviation.{Deviation}
use Rattle.radclock_run.specs.declared.ran.Asked.{Asked}

-- the entries of the passes that a pen took in
abbrev pub logs_of : PenShows → List (List Entry)
logs_of pen = map (λ (k : Kept). map entry_of k.entries) pen.kept

-- the steps of the plan of accepted items
abbrev pub steps_by : ℕ → ℕ → List Item → List PlanStep
steps_by freq ticks all = plan_of freq (events_of freq all) ticks

-- each log that a pen keeps is so; its place is the number of its reader
abbrev pub EachKept : PenShows → (ℕ → Kept → Type 0) → Type 0
EachKept pen IsSo = (i : ℕ) (k : Kept) → slice_get pen.kept i ≡ Some k → IsSo i k

-- Where a call of a log has to be made again, one of two causes came between the first value that it names and the last.
-- Of a full read they are turn words, and a windup stood open or came (`Crossed`). Of a fast read and of a difference they
-- are marks, and the slot of the tick was taken for a later one (`Overtaken`). Of a conversion they are the ones or the others
abbrev pub HaveCauses : List Hands → List Entry → Type 0
HaveCauses ticks es = (n first last : ℕ) (kind : Kind) → slice_get es n ≡ Some (entry.Again kind first last) → IsAgain (way_of kind) ticks first last

-- The replay of accepted items is what a pen shows
pub record IsReplayed (options : Options) (freq : ℕ) (all : List Item) (pen : PenShows) : Type 0 where
  -- the journal is a legal one with the plan's orders. With a crank each count is from the plan's to its greatest
  pub journal : IsJournalOf options.crank (steps_by freq options.ticks all) pen.journal
  -- without one it is the plan's own journal
  pub exact : options.crank ≡ false → pen.journal ≡ journal_of (steps_by freq options.ticks all)
  -- the estimates that its ticks took are those at the accepted stamps, each once and in order
  pub estimates : taken_in (map order_of pen.journal) ≡ estimates_of (fulls_of (events_of freq all))
  -- behind the reset at its start, it was reset by the accepted sets and by nothing else: its orders that are not plain
  -- are those of the estimates and of the sets, each once and in the order of the file
  pub moves : moves_in (map order_of pen.journal) ≡ (start_step freq).order ∷ map (order_of_event freq) (events_of freq all)
  -- there is one log for each reader
  pub readers : length pen.kept ≡ options.readers
  pub numbers : EachKept pen (λ i k. k.number ≡ i)
  -- it is legal: each reading is the definition's value by one tick of the journal, at a count not past the next tick
  pub legal : EachKept pen (λ i k. IsLog pen.journal (map entry_of k.entries))
  -- a call has to be made again only where a windup stood open or came between, or took the slot of its tick
  pub again : EachKept pen (λ i k. HaveCauses pen.journal (map entry_of k.entries))
  -- it has as many entries as attempts were asked for, each of its kind
  pub attempts : EachKept pen (λ i k. AreAttempts freq (tried_by options) options.reads (map entry_of k.entries))
  -- each entry is current at its opening value, and these never fall
  pub current : EachKept pen (λ i k. AreSince pen.journal k.entries)
  -- the counter that its entries show is not past the plan's greatest count (a difference shows an interval)
  pub within : EachKept pen (λ i k. AreWithin (greatest (steps_by freq options.ticks all)) (map entry_of k.entries))
  -- and none was asked for that the counter had not reached
  pub reached : EachKept pen (λ i k. HasNoAhead (map entry_of k.entries))
  -- between resets uninterrupted readings never fall as the counts rise, whoever read them
  pub rise : Rises pen.journal (logs_of pen)

-- each reading of the absolute clock, of Utc or of an interval in a log is off by at most its bound, unless its tick is
-- marked unsynchronised; nothing is said of the other clocks
abbrev pub AreTrueReadings : World → List Hands → List Entry → Type 0
AreTrueReadings w ticks es = (n : ℕ) (r : Reading) (h : Hands) → slice_get es n ≡ Some (entry.Read r) → slice_get ticks r.tick ≡ Some h
    → h.kstatus.unsync ≡ false → IsCovered w h.est r.kind r.count (number_of r.time) r.bound

-- what a replay of these items tells is true: the estimates at their stamps, the ticks, and such readings of each log
pub record IsTrueReplay (w : World) (freq : ℕ) (all : List Item) (pen : PenShows) : Type 0 where
  pub estimates : All (IsTrueEstimate w) (fulls_of (events_of freq all))
  pub ticks : AreTrueTicks w pen.journal
  pub readings : EachKept pen (λ i k. AreTrueReadings w pen.journal (map entry_of k.entries))

-- what a report on these items tells is true; of a replay's readings it is told by what the pen shows
abbrev pub TellsTrue : World → Report → ℕ → List Item → PenShows → Type 0
TellsTrue w asked.Stamps freq all pen = ⊤
TellsTrue w asked.Rtt freq all pen = ⊤
TellsTrue w asked.Estimate freq all pen = All (IsTrueEstimate w) (fulls_of (events_of freq all))
TellsTrue w (asked.Ticks ticks timers) freq all pen = AreTrueTicks w (journal_of (steps_by freq ticks all))
TellsTrue w (asked.Replay ticks readers reads back crank utc lane) freq all pen = IsTrueReplay w freq all pen

-- how a run over made stamps is replayed
abbrev pub run_options : Options
run_options = record { ticks = 4; readers = 4; reads = 1000; back = false; crank = false; utc = false }

-- its stamps, and its items, which are these alone
abbrev pub run_stamps : Asked → List Stamp
run_stamps asked = made_stamps asked.number asked.count

abbrev pub run_items : Asked → List Item
run_items asked = map item.Stamp (run_stamps asked)

-- exactly where it is asked for, the first tick, from tick 2 on, that is farthest from the truth in the made world
abbrev pub IsTold : Asked → List Hands → Option Deviation → Type 0
IsTold asked ticks None = asked.ideal ≡ false
IsTold asked ticks (Some farthest) = (asked.ideal ≡ true) × IsFarthest made_world ticks farthest

-- What a run over made stamps leaves on a desk, and what it tells of that
pub record IsRunOf (asked : Asked) (told : Option Deviation) (pen : PenShows) : Type 0 where
  -- all its stamps are accepted
  pub accepted : AreAccepted frequency (run_stamps asked)
  -- their replay is what the pen shows
  pub replayed : IsReplayed run_options frequency (run_items asked) pen
  -- where it is asked for, the tick that is farthest from the truth
  pub farthest : IsTold asked pen.journal told

-- what such a run tells is true in each world that fits the frequency and that its stamps lie in. The made world is one
pub record MadeTruth (a : Asked) (pen : PenShows) : Type 0 where
  pub holds : (w : World) → IsFit frequency w → All (LiesIn w) (run_stamps a) → IsTrueReplay w frequency (run_items a) pen
  pub made : IsTrueReplay made_world frequency (run_items a) pen
