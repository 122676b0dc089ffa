-- What follows of a run in bytes and in counts of faults, where the source and the sink tell them.
use Rattle.std.specs.Prelude.{◌≡◌, ℕ, ◌-◌, ◌^◌, ◌<◌, ◌≤◌, Bool, true, List, [], length, Option, None, Some}
use Rattle.std.specs.List.{All, concat}
use Rattle.std.specs.Io.KnownBytes.{Appends, Consumes, IsAtEnd}
use Rattle.stamp_text.specs.Grammar.{fault_of_file}
use Rattle.stamp_text.specs.Past.{stamps_of}
use Rattle.stamp_maker.specs.MadeStamps.{made_list}
use Rattle.clock_words.specs.declared.commands.Command.{Command}
use Rattle.clock_words.specs.declared.commands.Command.TheVariants as command
use Rattle.clock_words.specs.declared.commands.Report.{Report}
use Rattle.tick_desk.specs.Shows.{PenShows}
use Rattle.tick_desk.specs.declared.desk.Desk.{Desk}
use Rattle.replay_run.specs.declared.plan.Options.{Options}
use Rattle.ideal_world.specs.declared.deviations.Deviation.{Deviation}
use Rattle.world_times.specs.Worlds.{IsFit, LiesIn}
use Rattle.world_times.specs.declared.world.World.{World}
use Rattle.radclock_input.specs.Inputs.{most_bytes, most_items, most_accepted, counted_among, accepted_among, head_of_file, freq_of_file, items_of_file}
use Rattle.report_text.specs.MadeFiles.{file_lines_of}
use Rattle.ntp_capture.specs.Grammar.{given, fault_of_capture}
use Rattle.capture_text.specs.Files.{lines_of_capture}
use Rattle.capture_text.specs.Inputs.{answers_of, exchanges_in, most_exchanges}
use Rattle.radclock_run.specs.Asks.{takes_few}
use Rattle.radclock_run.specs.Endings.{Leaves, replay_by}
use Rattle.radclock_run.specs.MadeRuns.{run_by, run_text}
use Rattle.radclock_run.specs.Replays.{IsReplayed, IsRunOf, TellsTrue}
use Rattle.radclock_run.specs.Reports.{report_of}
use Rattle.radclock_run.specs.declared.ran.Asked.{Asked}
use Rattle.radclock_run.specs.declared.status.Status.{Status}
use Rattle.radclock_run.specs.declared.status.Status.TheVariants as status

-- the input was read to its end, its text is in the grammar and within the limits, and this report
-- on it was appended
pub record WasRead (left left' written written' : Option (List ℕ)) (desk desk' : Desk) (r : Report) : Type 0 where
  pub text : List ℕ
  pub bytes : Consumes left left' text
  pub ended : IsAtEnd left'
  pub sound : fault_of_file text ≡ None
  pub few_bytes : length text ≤ most_bytes
  pub few_items : length (items_of_file text) ≤ most_items
  pub few_accepted : takes_few r ≡ true → counted_among (freq_of_file text) (items_of_file text) ≤ most_accepted
  pub leaves : Leaves r (freq_of_file text) (items_of_file text) desk desk'
  pub wrote : Appends written written' (concat (report_of r (head_of_file text) (items_of_file text) desk'.pen))

-- the input was read to its end, it is a capture and within the limits, and the stamp file that it becomes was appended
pub record WasConverted (left left' written written' : Option (List ℕ)) (desk desk' : Desk) : Type 0 where
  pub text : List ℕ
  pub bytes : Consumes left left' text
  pub ended : IsAtEnd left'
  pub sound : fault_of_capture text ≡ None
  pub few_bytes : length text ≤ most_bytes
  pub few_exchanges : exchanges_in (answers_of (given text)) ≤ most_exchanges
  pub same : desk' ≡ desk
  pub wrote : Appends written written' (concat (lines_of_capture text))

-- what was read and appended: a report on the input or what a capture becomes, or a made file or the report on a run over
-- made stamps, and then nothing was read
pub data WasDone (left left' written written' : Option (List ℕ)) (desk desk' : Desk) (asked : Option Command) : Type 0 where
  reported : (r : Report) → asked ≡ Some (command.Report r) → WasRead left left' written written' desk desk' r
      → WasDone left left' written written' desk desk' asked
  converted : asked ≡ Some command.Capture → WasConverted left left' written written' desk desk'
      → WasDone left left' written written' desk desk' asked
  filed : (number count : ℕ) → asked ≡ Some (command.Make number count) → left' ≡ left → desk' ≡ desk
      → Appends written written' (concat (file_lines_of (made_list number count))) → WasDone left left' written written' desk desk' asked
  summarised : (a : Asked) → asked ≡ Some (run_by a) → left' ≡ left → (told : Option Deviation) → IsRunOf a told desk'.pen
      → Appends written written' (concat (run_text a told desk'.pen)) → WasDone left left' written written' desk desk' asked

-- What a replay printed and left
pub record HeadlineInBytes (left left' written written' : Option (List ℕ)) (options : Options) (lane : Bool) (pen : PenShows) : Type 0 where
  -- the input was read to its end, and its text is in the grammar
  pub text : List ℕ
  pub bytes : Consumes left left' text
  pub ended : IsAtEnd left'
  pub sound : fault_of_file text ≡ None
  -- what was appended is the report on it, with the pen's own journal, and the logs that it took in
  pub printed : Appends written written' (concat (report_of (replay_by options lane) (head_of_file text) (items_of_file text) pen))
  -- these are what a replay of the accepted items makes
  pub replayed : IsReplayed options (freq_of_file text) (accepted_among (freq_of_file text) [] (items_of_file text)) pen

-- What a run over made stamps printed and left
pub record RunInBytes (left left' written written' : Option (List ℕ)) (a : Asked) (pen : PenShows) : Type 0 where
  -- nothing was read
  pub unread : left' ≡ left
  -- what was appended is the summary of the estimates of the made stamps, what is told of the truth, the last
  -- estimate, and the last tick of the pen's own journal, with how many there are of each and of the entries
  -- that it took in
  pub told : Option Deviation
  pub printed : Appends written written' (concat (run_text a told pen))
  -- the made stamps are accepted, these are what a replay of them makes, and that is what is told of the truth
  pub made : IsRunOf a told pen

-- with these statuses no tick was made
abbrev pub MakesNone : Status → Type 0
MakesNone status.Done = ⊥
MakesNone status.WriteFault = ⊥
MakesNone (status.BadInput f) = Unit {0}
MakesNone status.Usage = Unit {0}
MakesNone status.ReadFault = Unit {0}
MakesNone status.NoMemory = Unit {0}
MakesNone (status.TooLarge l) = Unit {0}
MakesNone (status.BadCapture f) = Unit {0}

-- the count of faults did not rise, and does not stand at its last value
pub record WasFree (before now : ℕ) : Type 0 where
  pub same : now ≡ before
  pub below : before < 2 ^ 64 - 1

-- What a report told is true in each world that its accepted stamps lie in
pub record TruthInBytes (left left' written written' : Option (List ℕ)) (r : Report) (pen : PenShows) : Type 0 where
  -- the input was read to its end, and this report on it was appended
  pub text : List ℕ
  pub bytes : Consumes left left' text
  pub ended : IsAtEnd left'
  pub printed : Appends written written' (concat (report_of r (head_of_file text) (items_of_file text) pen))
  -- in each world that fits the frequency, and in which the accepted stamps lie, it is true
  pub holds : (w : World) → IsFit (freq_of_file text) w → All (LiesIn w) (stamps_of (accepted_among (freq_of_file text) [] (items_of_file text)))
      → TellsTrue w r (freq_of_file text) (accepted_among (freq_of_file text) [] (items_of_file text)) pen
