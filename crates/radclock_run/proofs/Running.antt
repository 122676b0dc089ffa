-- How a run comes to be one over one text.
use Rattle.std.proofs.Common.{◌≡◌, ℕ, List, [], ◌∷◌, Option, None, Some, Result, Ok, Err, refl, ap, ◌∙◌, subst, inl, inr}
use Rattle.rad_io.specs.Pushes.{Broke, Writes}
use Rattle.rad_io.specs.declared.Failed.{Failed}
use Rattle.ff_hands.specs.Windups.{cold}
use Rattle.stamp_maker.specs.MadeStamps.{made_list}
use Rattle.report_text.specs.Text.{fault_text}
use Rattle.report_text.specs.MadeFiles.{file_lines_of}
use Rattle.report_text.specs.declared.lines.FaultText.TheVariants as fault
use Rattle.clock_words.specs.declared.commands.Command.{Command}
use Rattle.clock_words.specs.declared.commands.Command.TheVariants as command
use Rattle.clock_words.specs.declared.commands.Report.{Report}
use Rattle.clock_words.specs.declared.commands.Report.TheVariants as report
use Rattle.tick_desk.specs.Shows.{PenShows}
use Rattle.tick_desk.specs.declared.desk.Desk.{Desk}
use Rattle.ideal_world.specs.declared.deviations.Deviation.{Deviation}
use Rattle.capture_text.specs.Files.{lines_of_capture}
use Rattle.radclock_input.specs.Captured.{capture_so_far, stop_of_packets}
use Rattle.radclock_input.specs.Inputs.{stop_so_far, stop_of_file, head_of_file, freq_of_file, items_of_file}
use Rattle.radclock_input.specs.Pulled.{PullGives, ReadsTo, IsTaken}
use Rattle.radclock_run.specs.Asks.{takes_few}
use Rattle.radclock_run.specs.MadeRuns.{run_by}
use Rattle.radclock_run.specs.Statuses.{status_of, fault_of}
use Rattle.radclock_run.specs.Endings.{EndsWith, Finishes, Summarises, Leaves}
use Rattle.radclock_run.specs.Runs.{PushGives, Breaks, ByLines, Headline, Holds, HoldsDone, HoldsShort, IsRead, IsDue, Ran, ends_with, lines_due}
use Rattle.radclock_input.specs.declared.stops.Stop.{Stop}
use Rattle.radclock_input.specs.declared.stops.Stop.TheVariants as stop
use Rattle.radclock_run.specs.declared.ran.Asked.{Asked}
use Rattle.radclock_run.specs.declared.status.Status.{Status}
use Rattle.radclock_run.specs.declared.status.Status.TheVariants as status
use Rattle.radclock_input.proofs.Sound.{is-sound}
use Rattle.radclock_run.proofs.NotDone.{not-done}
use Rattle.radclock_run.proofs.Truth.{made-truth-of, truth-of}

-- what a report leaves is the headline of a replay, and the desk of each other
leaves-headline : (r : Report) (text : List ℕ) (told : Option Deviation) (old new : Desk) → Leaves r (freq_of_file text) (items_of_file text) old new
    → Headline (Some (command.Report r)) text told new.pen
leaves-headline report.Stamps text told old new leaves = tt
leaves-headline report.Rtt text told old new leaves = tt
leaves-headline report.Estimate text told old new leaves = tt
leaves-headline (report.Ticks ticks timers) text told old new leaves = tt
leaves-headline (report.Replay ticks readers reads back crank utc lane) text told old new leaves = leaves

leaves-holds : (r : Report) (text : List ℕ) (old new : Desk) → Leaves r (freq_of_file text) (items_of_file text) old new
    → HoldsDone (Some (command.Report r)) old new
leaves-holds report.Stamps text old new leaves = leaves
leaves-holds report.Rtt text old new leaves = leaves
leaves-holds report.Estimate text old new leaves = leaves
leaves-holds (report.Ticks ticks timers) text old new leaves = leaves
leaves-holds (report.Replay ticks readers reads back crank utc lane) text old new leaves = tt

-- the line of a stop is that of its status
stopped-lines : (s : Stop) (asked : Option Command) (text : List ℕ) (told : Option Deviation) (pen : PenShows) → IsTaken s text
    → fault_text (fault_of s) ∷ [] ≡ lines_due asked text told pen (status_of s)
stopped-lines stop.Memory asked text told pen is = refl
stopped-lines (stop.Read taken) asked text told pen is = ap (λ n. fault_text (fault.Read n) ∷ []) is
stopped-lines (stop.Fault f) asked text told pen is = refl
stopped-lines (stop.Large l) asked text told pen is = refl
stopped-lines (stop.Capture f) asked text told pen is = refl

stopped-holds : (s : Stop) (r : Report) (desk : Desk) → desk.pen.journal ≡ cold ∷ [] → Holds (Some (command.Report r)) (status_of s) desk desk
stopped-holds stop.Memory r desk fresh = fresh
stopped-holds (stop.Read taken) r desk fresh = refl
stopped-holds (stop.Fault f) r desk fresh = refl
stopped-holds (stop.Large l) r desk fresh = refl
stopped-holds (stop.Capture f) r desk fresh = refl

capture-holds : (s : Stop) (desk : Desk) → Holds (Some command.Capture) (status_of s) desk desk
capture-holds stop.Memory desk = refl
capture-holds (stop.Read taken) desk = refl
capture-holds (stop.Fault f) desk = refl
capture-holds (stop.Large l) desk = refl
capture-holds (stop.Capture f) desk = refl

module _ {K : Type 0} (written : K → Option (List ℕ)) (faults : K → ℕ) (push : PushGives K) where
  breaks-of : (old : K) (lines : List (List ℕ)) (new : K) → Broke written faults push old lines new → Breaks push old lines new
  breaks-of old lines new b = record { front = b.front; failed = b.failed; rest = b.rest; cut = b.cut; mid = b.mid; pushes = b.pushes; last = b.last }

  by-lines : (old : K) (lines : List (List ℕ)) (due result : Status) (new : K) → EndsWith written faults push old lines due result new
      → (answer : Result (Unit {0}) Failed) × ByLines push old lines answer new × (result ≡ ends_with due answer)
  by-lines old lines due result new ends =
      elim ends [
        | inl whole ↦ (Ok tt, whole.1.pushes, whole.0)
        | inr broken ↦ (Err (record {}), breaks-of old lines new broken.1, broken.0)
      ]

  -- pieces that were written, or whose push failed
  pub by-writes : (old : K) (pieces : List (List ℕ)) (answer : Result (Unit {0}) Failed) (new : K) → Writes written faults push old pieces answer new
      → ByLines push old pieces answer new
  by-writes old pieces (Ok o) new wrote = wrote.pushes
  by-writes old pieces (Err e) new broke = breaks-of old pieces new broke

module _ {S K : Type 0} (pull : PullGives S) (written : K → Option (List ℕ)) (faults : K → ℕ) (push : PushGives K) where
  -- a run that makes a file
  pub run-made : (number count : ℕ) (source : S) (sink sink' : K) (desk : Desk) (result : Status) → EndsWith written faults push sink
      (file_lines_of (made_list number count)) status.Done result sink'
      → Ran pull (ByLines push) (Some (command.Make number count)) source source sink sink' desk desk result
  run-made number count source sink sink' desk result ends =
      let out = by-lines written faults push sink _ status.Done result sink' ends in
      record {
        text = [];
        stopped = None;
        due = status.Done;
        answer = out.0;
        told = None;
        status_is = inl refl;
        ended = out.2;
        read = (record { none = refl; same = refl }, refl);
        wrote = out.1;
        headline = λ _. tt;
        truth = λ _. tt;
        holds = refl;
      }

  -- words that are no line
  pub run-no-line : (source : S) (sink sink' : K) (desk : Desk) (result : Status) → EndsWith written faults push sink (fault_text fault.Usage ∷ [])
      status.Usage result sink' → Ran pull (ByLines push) None source source sink sink' desk desk result
  run-no-line source sink sink' desk result ends =
      let out = by-lines written faults push sink _ status.Usage result sink' ends in
      record {
        text = [];
        stopped = None;
        due = status.Usage;
        answer = out.0;
        told = None;
        status_is = inl refl;
        ended = out.2;
        read = (record { none = refl; same = refl }, refl);
        wrote = out.1;
        headline = λ _. tt;
        truth = λ _. tt;
        holds = refl;
      }

  -- memory was wanting for the words
  short-as : (asked : Option Command) (s : Option Stop) (source : S) (sink sink' : K) (desk : Desk) (result : Status) → IsDue asked s status.NoMemory
      → IsRead pull asked source [] s source → HoldsShort asked desk desk
      → EndsWith written faults push sink (fault_text fault.Memory ∷ []) status.NoMemory result sink'
      → Ran pull (ByLines push) asked source source sink sink' desk desk result
  short-as asked s source sink sink' desk result due read holds ends =
      let out = by-lines written faults push sink _ status.NoMemory result sink' ends in
      record {
        text = [];
        stopped = s;
        due = status.NoMemory;
        answer = out.0;
        told = None;
        status_is = due;
        ended = out.2;
        read = read;
        wrote = out.1;
        headline = λ is. absurd (cc);
        truth = λ is. absurd (cc);
        holds = holds;
      }

  pub run-short : (asked : Option Command) (source : S) (sink sink' : K) (desk : Desk) (result : Status) → desk.pen.journal ≡ cold ∷ []
      → EndsWith written faults push sink (fault_text fault.Memory ∷ []) status.NoMemory result sink'
      → Ran pull (ByLines push) asked source source sink sink' desk desk result
  run-short None source sink sink' desk result fresh ends = short-as None None source sink sink' desk result (inr (refl, refl))
      (record { none = refl; same = refl }, refl) refl ends
  run-short (Some (command.Report r)) source sink sink' desk result fresh ends =
      short-as (Some (command.Report r)) (Some stop.Memory) source sink sink' desk result (inl refl)
      (inr (record { none = refl; same = refl }, refl)) fresh ends
  run-short (Some command.Capture) source sink sink' desk result fresh ends =
      short-as (Some command.Capture) (Some stop.Memory) source sink sink' desk result (inl refl) (inr (record { none = refl; same = refl }, refl)) refl ends
  run-short (Some (command.Make number count)) source sink sink' desk result fresh ends =
      short-as (Some (command.Make number count)) None source sink sink' desk result (inr (refl, refl)) (record { none = refl; same = refl }, refl) refl ends
  run-short (Some (command.Run number count ideal)) source sink sink' desk result fresh ends =
      short-as (Some (command.Run number count ideal)) None source sink sink' desk result (inr (refl, refl))
      (record { none = refl; same = refl }, refl) fresh ends

  -- a run over made stamps
  pub run-summarised : (a : Asked) (source : S) (sink sink' : K) (desk desk' : Desk) (result : Status) → desk.pen.journal ≡ cold ∷ []
      → Summarises written faults push a sink desk result sink' desk' → Ran pull (ByLines push) (Some (run_by a)) source source sink sink' desk desk' result
  run-summarised a source sink sink' desk desk' result fresh ends =
      elim ends [
        | inl done ↦
            let out = by-lines written faults push sink _ status.Done result sink' done.2 in
            record {
              text = [];
              stopped = None;
              due = status.Done;
              answer = out.0;
              told = done.0;
              status_is = inl refl;
              ended = out.2;
              read = (record { none = refl; same = refl }, refl);
              wrote = out.1;
              headline = λ _. done.1;
              truth = λ _. made-truth-of a done.0 desk'.pen done.1;
              holds = tt;
            }
        | inr short ↦
            let out = by-lines written faults push sink _ status.NoMemory result sink' short.1 in
            record {
              text = [];
              stopped = None;
              due = status.NoMemory;
              answer = out.0;
              told = None;
              status_is = inr (refl, refl);
              ended = out.2;
              read = (record { none = refl; same = refl }, refl);
              wrote = out.1;
              headline = λ is. absurd (cc);
              truth = λ is. absurd (cc);
              holds = short.0 ∙ fresh;
            }
      ]

  -- a report on a text that was read to its end
  pub run-finished : (r : Report) (text : List ℕ) (source source' : S) (sink sink' : K) (desk desk' : Desk) (result : Status) → desk.pen.journal
      ≡ cold ∷ [] → ReadsTo pull (stop_so_far (takes_few r)) (stop_of_file (takes_few r)) source text None source' → stop_of_file (takes_few r) text ≡ None
      → Finishes written faults push r (head_of_file text) (items_of_file text) sink desk result sink' desk'
      → Ran pull (ByLines push) (Some (command.Report r)) source source' sink sink' desk desk' result
  run-finished r text source source' sink sink' desk desk' result fresh reads none ends =
      elim ends [
        | inl done ↦
            let out = by-lines written faults push sink _ status.Done result sink' done.1 in
            record {
              text = text;
              stopped = None;
              due = status.Done;
              answer = out.0;
              told = None;
              status_is = inl refl;
              ended = out.2;
              read = inl reads;
              wrote = out.1;
              headline = λ _. leaves-headline r text None desk desk' done.0;
              truth = λ _. truth-of r text desk desk' (is-sound (takes_few r) text none).sound done.0;
              holds = leaves-holds r text desk desk' done.0;
            }
        | inr short ↦
            let out = by-lines written faults push sink _ status.NoMemory result sink' short.1 in
            record {
              text = text;
              stopped = None;
              due = status.NoMemory;
              answer = out.0;
              told = None;
              status_is = inr (refl, refl);
              ended = out.2;
              read = inl reads;
              wrote = out.1;
              headline = λ is. absurd (cc);
              truth = λ is. absurd (cc);
              holds = short.0 ∙ fresh;
            }
      ]

  -- a run whose text is stopped
  stopped-as : (asked : Option Command) (s : Stop) (text : List ℕ) (source source' : S) (sink sink' : K) (desk : Desk) (result : Status)
      → IsDue asked (Some s) (status_of s) → IsRead pull asked source text (Some s) source' → IsTaken s text → Holds asked (status_of s) desk desk
      → EndsWith written faults push sink (fault_text (fault_of s) ∷ []) (status_of s) result sink'
      → Ran pull (ByLines push) asked source source' sink sink' desk desk result
  stopped-as asked s text source source' sink sink' desk result due reads taken holds ends =
      let out = by-lines written faults push sink _ (status_of s) result sink' ends in
      record {
        text = text;
        stopped = Some s;
        due = status_of s;
        answer = out.0;
        told = None;
        status_is = due;
        ended = out.2;
        read = reads;
        wrote = subst (λ ls. ByLines push sink ls out.0 sink') (stopped-lines s asked text None desk.pen taken) out.1;
        headline = λ is. absurd (not-done s is);
        truth = λ is. absurd (not-done s is);
        holds = holds;
      }

  pub run-stopped : (r : Report) (s : Stop) (text : List ℕ) (source source' : S) (sink sink' : K) (desk : Desk) (result : Status) → desk.pen.journal
      ≡ cold ∷ [] → ReadsTo pull (stop_so_far (takes_few r)) (stop_of_file (takes_few r)) source text (Some s) source' → IsTaken s text
      → EndsWith written faults push sink (fault_text (fault_of s) ∷ []) (status_of s) result sink'
      → Ran pull (ByLines push) (Some (command.Report r)) source source' sink sink' desk desk result
  run-stopped r s text source source' sink sink' desk result fresh reads taken ends =
      stopped-as (Some (command.Report r)) s text source source' sink sink' desk result (inl refl) (inl reads) taken (stopped-holds s r desk fresh) ends

  -- a capture that is stopped, or was read to its end
  pub run-capture-stopped : (s : Stop) (text : List ℕ) (source source' : S) (sink sink' : K) (desk : Desk) (result : Status)
      → ReadsTo pull capture_so_far stop_of_packets source text (Some s) source' → IsTaken s text
      → EndsWith written faults push sink (fault_text (fault_of s) ∷ []) (status_of s) result sink'
      → Ran pull (ByLines push) (Some command.Capture) source source' sink sink' desk desk result
  run-capture-stopped s text source source' sink sink' desk result reads taken ends =
      stopped-as (Some command.Capture) s text source source' sink sink' desk result (inl refl) (inl reads) taken (capture-holds s desk) ends

  pub run-converted : (text : List ℕ) (source source' : S) (sink sink' : K) (desk : Desk) (result : Status)
      → ReadsTo pull capture_so_far stop_of_packets source text None source'
      → EndsWith written faults push sink (lines_of_capture text) status.Done result sink'
      → Ran pull (ByLines push) (Some command.Capture) source source' sink sink' desk desk result
  run-converted text source source' sink sink' desk result reads ends =
      let out = by-lines written faults push sink _ status.Done result sink' ends in
      record {
        text = text;
        stopped = None;
        due = status.Done;
        answer = out.0;
        told = None;
        status_is = inl refl;
        ended = out.2;
        read = inl reads;
        wrote = out.1;
        headline = λ _. tt;
        truth = λ _. tt;
        holds = refl;
      }
