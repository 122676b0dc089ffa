-- What a run reads and writes, with which status it ends, and what it leaves on the desk: all over one text.
use Rattle.std.specs.Prelude.{◌≡◌, ℕ, ◌<◌, ◌⊎◌, ⊤, Bool, List, [], ◌∷◌, ◌++◌, length, Option, None, Some, Result, Ok, Err}
use Rattle.std.specs.List.{All, concat}
use Rattle.rad_io.specs.Blocks.{Short}
use Rattle.rad_io.specs.Pushes.{Pushes}
use Rattle.rad_io.specs.declared.Failed.{Failed}
use Rattle.stamp_text.specs.Past.{stamps_of}
use Rattle.stamp_text.specs.declared.lines.Item.{Item}
use Rattle.ff_hands.specs.Windups.{cold}
use Rattle.stamp_maker.specs.MadeStamps.{made_list}
use Rattle.report_text.specs.Text.{fault_text}
use Rattle.report_text.specs.MadeFiles.{file_lines_of}
use Rattle.report_text.specs.declared.lines.FaultText.TheVariants as fault
use Rattle.clock_words.specs.declared.commands.Command.{Command}
use Rattle.clock_words.specs.declared.commands.Command.TheVariants as command
use Rattle.clock_words.specs.declared.commands.Report.TheVariants as report
use Rattle.tick_desk.specs.Shows.{PenShows}
use Rattle.tick_desk.specs.declared.desk.Desk.{Desk}
use Rattle.world_times.specs.Worlds.{IsFit, LiesIn}
use Rattle.world_times.specs.declared.world.World.{World}
use Rattle.ideal_world.specs.declared.deviations.Deviation.{Deviation}
use Rattle.capture_text.specs.Files.{lines_of_capture}
use Rattle.radclock_input.specs.Captured.{capture_so_far, stop_of_packets}
use Rattle.radclock_input.specs.Inputs.{accepted_among, head_of_file, freq_of_file, items_of_file, stop_so_far, stop_of_file}
use Rattle.radclock_input.specs.Pulled.{PullGives, ReadsTo}
use Rattle.radclock_run.specs.Asks.{takes_few}
use Rattle.radclock_run.specs.MadeRuns.{run_text}
use Rattle.radclock_run.specs.Replays.{IsReplayed, IsRunOf, MadeTruth, TellsTrue}
use Rattle.radclock_run.specs.Reports.{report_of}
use Rattle.radclock_run.specs.Statuses.{status_by}
use Rattle.radclock_input.specs.declared.stops.Stop.{Stop}
use Rattle.radclock_input.specs.declared.stops.Stop.TheVariants as stop
use Rattle.radclock_run.specs.declared.status.Status.{Status}
use Rattle.radclock_run.specs.declared.status.Status.TheVariants as status

-- what one push may give: from this sink and piece, this answer and sink
abbrev pub PushGives : Type 0 → Type 1
PushGives K = K → List ℕ → Result (Unit {0}) Failed → K → Type 0

-- how lines may go out: from this sink, these lines, whether all went out, and this sink
abbrev pub Writing : Type 0 → Type 1
Writing K = K → List (List ℕ) → Result (Unit {0}) Failed → K → Type 0

-- the push of one of the pieces failed, and was the last one
pub record Breaks {K : Type 0} (push : PushGives K) (old : K) (pieces : List (List ℕ)) (new : K) : Type 0 where
  pub front : List (List ℕ)
  pub failed : List ℕ
  pub rest : List (List ℕ)
  pub cut : pieces ≡ front ++ failed ∷ rest
  pub mid : K
  pub pushes : Pushes push old front mid
  pub last : push mid failed (Err (record {})) new

-- line by line, each by one push
abbrev pub ByLines : {K : Type 0} → PushGives K → Writing K
ByLines push old lines (Ok o) new = Pushes push old lines new
ByLines push old lines (Err e) new = Breaks push old lines new

-- in blocks of at most 65,536 bytes, each by one push
pub record ByBlocks {K : Type 0} (push : PushGives K) (old : K) (lines : List (List ℕ)) (answer : Result (Unit {0}) Failed) (new : K) : Type 0 where
  pub blocks : List (List ℕ)
  pub bytes : concat blocks ≡ concat lines
  pub pushed : ByLines (Short push) old blocks answer new

-- the items of a text that are accepted
abbrev pub accepted_of_file : List ℕ → List Item
accepted_of_file text = accepted_among (freq_of_file text) [] (items_of_file text)

-- nothing is pulled
pub record IsUnread {S : Type 0} (old : S) (text : List ℕ) (new : S) : Type 0 where
  pub none : text ≡ []
  pub same : new ≡ old

-- What is read: only a report or a capture is, where there is memory for the words
abbrev pub IsRead : {S : Type 0} → PullGives S → Option Command → S → List ℕ → Option Stop → S → Type 0
IsRead pull None old text s new = IsUnread old text new × (s ≡ None)
IsRead pull (Some (command.Report r)) old text s new =
    ReadsTo pull (stop_so_far (takes_few r)) (stop_of_file (takes_few r)) old text s new ⊎ (IsUnread old text new × (s ≡ Some stop.Memory))
IsRead pull (Some command.Capture) old text s new =
    ReadsTo pull capture_so_far stop_of_packets old text s new ⊎ (IsUnread old text new × (s ≡ Some stop.Memory))
IsRead pull (Some (command.Make number count)) old text s new = IsUnread old text new × (s ≡ None)
IsRead pull (Some (command.Run number count ideal)) old text s new = IsUnread old text new × (s ≡ None)

-- the status by the words, and by what stopped the input
abbrev pub status_due : Option Command → Option Stop → Status
status_due None s = status.Usage
status_due (Some (command.Report r)) s = status_by s
status_due (Some command.Capture) s = status_by s
status_due (Some (command.Make number count)) s = status.Done
status_due (Some (command.Run number count ideal)) s = status.Done

-- Which status is due: that one, but where memory is wanting behind the reading
abbrev pub IsDue : Option Command → Option Stop → Status → Type 0
IsDue asked s due = (due ≡ status_due asked s) ⊎ ((due ≡ status.NoMemory) × (s ≡ None))

-- and with which a run ends, by whether all its lines went out
abbrev pub ends_with : Status → Result (Unit {0}) Failed → Status
ends_with due (Ok o) = due
ends_with due (Err e) = status.WriteFault

-- the lines of a done run: a report on the text, the stamp file that a capture becomes, a made file, or the report on a run over made stamps
abbrev pub done_lines : Option Command → List ℕ → Option Deviation → PenShows → List (List ℕ)
done_lines None text told pen = []
done_lines (Some (command.Report r)) text told pen = report_of r (head_of_file text) (items_of_file text) pen
done_lines (Some command.Capture) text told pen = lines_of_capture text
done_lines (Some (command.Make number count)) text told pen = file_lines_of (made_list number count)
done_lines (Some (command.Run number count ideal)) text told pen = run_text (record { number = number; count = count; ideal = ideal }) told pen

-- Which lines are due: those, or the one line of a fault
abbrev pub lines_due : Option Command → List ℕ → Option Deviation → PenShows → Status → List (List ℕ)
lines_due asked text told pen status.Done = done_lines asked text told pen
lines_due asked text told pen (status.BadInput f) = fault_text (fault.Input f) ∷ []
lines_due asked text told pen status.Usage = fault_text fault.Usage ∷ []
lines_due asked text told pen status.ReadFault = fault_text (fault.Read (length text)) ∷ []
lines_due asked text told pen status.WriteFault = []
lines_due asked text told pen status.NoMemory = fault_text fault.Memory ∷ []
lines_due asked text told pen (status.TooLarge l) = fault_text (fault.Large l) ∷ []
lines_due asked text told pen (status.BadCapture f) = fault_text (fault.Capture f) ∷ []

-- The headline. Of a replay: what the pen shows is the replay of the text's accepted items, each point of which has its
-- name in `IsReplayed`. Of a run over made stamps: it is that of these, and what is told of the truth is so (`IsRunOf`)
abbrev pub Headline : Option Command → List ℕ → Option Deviation → PenShows → Type 0
Headline None text told pen = ⊤
Headline (Some (command.Report report.Stamps)) text told pen = ⊤
Headline (Some (command.Report report.Rtt)) text told pen = ⊤
Headline (Some (command.Report report.Estimate)) text told pen = ⊤
Headline (Some (command.Report (report.Ticks ticks timers))) text told pen = ⊤
Headline (Some (command.Report (report.Replay ticks readers reads back crank utc lane))) text told pen =
    IsReplayed (record { ticks = ticks; readers = readers; reads = reads; back = back; crank = crank; utc = utc }) (freq_of_file text)
    (accepted_of_file text) pen
Headline (Some command.Capture) text told pen = ⊤
Headline (Some (command.Make number count)) text told pen = ⊤
Headline (Some (command.Run number count ideal)) text told pen = IsRunOf (record { number = number; count = count; ideal = ideal }) told pen

-- The truth: what was told is true in each world that fits the frequency and in which the accepted stamps lie
abbrev pub Truth : Option Command → List ℕ → PenShows → Type 0
Truth None text pen = ⊤
Truth (Some (command.Report r)) text pen = (w : World) → IsFit (freq_of_file text) w → All (LiesIn w) (stamps_of (accepted_of_file text))
    → TellsTrue w r (freq_of_file text) (accepted_of_file text) pen
Truth (Some command.Capture) text pen = ⊤
Truth (Some (command.Make number count)) text pen = ⊤
Truth (Some (command.Run number count ideal)) text pen = MadeTruth (record { number = number; count = count; ideal = ideal }) pen

-- what the desk holds where a command is done: nothing was done with it, but that the headline says what a replay and a
-- run over made stamps leave
abbrev pub HoldsDone : Option Command → Desk → Desk → Type 0
HoldsDone None old new = new ≡ old
HoldsDone (Some (command.Report report.Stamps)) old new = new ≡ old
HoldsDone (Some (command.Report report.Rtt)) old new = new ≡ old
HoldsDone (Some (command.Report report.Estimate)) old new = new ≡ old
HoldsDone (Some (command.Report (report.Ticks ticks timers))) old new = new ≡ old
HoldsDone (Some (command.Report (report.Replay ticks readers reads back crank utc lane))) old new = ⊤
HoldsDone (Some command.Capture) old new = new ≡ old
HoldsDone (Some (command.Make number count)) old new = new ≡ old
HoldsDone (Some (command.Run number count ideal)) old new = ⊤

-- and where memory was wanting: passes may have been made for a report or a run over made stamps, but no tick
abbrev pub HoldsShort : Option Command → Desk → Desk → Type 0
HoldsShort None old new = new ≡ old
HoldsShort (Some (command.Report r)) old new = new.pen.journal ≡ cold ∷ []
HoldsShort (Some command.Capture) old new = new ≡ old
HoldsShort (Some (command.Make number count)) old new = new ≡ old
HoldsShort (Some (command.Run number count ideal)) old new = new.pen.journal ≡ cold ∷ []

-- What the desk holds
abbrev pub Holds : Option Command → Status → Desk → Desk → Type 0
Holds asked status.Done old new = HoldsDone asked old new
Holds asked (status.BadInput f) old new = new ≡ old
Holds asked status.Usage old new = new ≡ old
Holds asked status.ReadFault old new = new ≡ old
Holds asked status.WriteFault old new = new ≡ old
Holds asked status.NoMemory old new = HoldsShort asked old new
Holds asked (status.TooLarge l) old new = new ≡ old
Holds asked (status.BadCapture f) old new = new ≡ old

-- A run by this command, over one text
pub record Ran {S K : Type 0} (pull : PullGives S) (writes : Writing K) (asked : Option Command) (source source' : S) (sink sink' : K)
    (desk desk' : Desk) (result : Status) : Type 0 where
  -- the bytes that the pulls gave, and what stopped the input
  pub text : List ℕ
  pub stopped : Option Stop
  -- the status that is due, whether all lines went out, and what is told of the truth
  pub due : Status
  pub answer : Result (Unit {0}) Failed
  pub told : Option Deviation
  -- which status comes, and when
  pub status_is : IsDue asked stopped due
  pub ended : result ≡ ends_with due answer
  -- what was read and written
  pub read : IsRead pull asked source text stopped source'
  pub wrote : writes sink (lines_due asked text told desk'.pen due) answer sink'
  -- the headline, of `replay` and of `run`
  pub headline : due ≡ status.Done → Headline asked text told desk'.pen
  -- the truth
  pub truth : due ≡ status.Done → Truth asked text desk'.pen
  -- what the desk holds
  pub holds : Holds asked due desk desk'
