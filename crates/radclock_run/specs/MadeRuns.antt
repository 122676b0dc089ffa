-- What the command `run` prints: a summary of made stamps and their replay.
use Rattle.std.specs.Prelude.{ℕ, ◌-◌, List, [], ◌∷◌, ◌++◌, length, count_by, Option, None, Some}
use Rattle.stamp_maker.specs.Worlds.{frequency}
use Rattle.ff_hands.specs.declared.hands.Hands.{Hands}
use Rattle.ff_estimator.specs.Events.{events_of, fulls_of}
use Rattle.ff_estimator.specs.declared.fulls.Full.{Full}
use Rattle.clock_core.specs.Machines.{newest}
use Rattle.clock_words.specs.Lines.{IsCommandInRange}
use Rattle.clock_words.specs.declared.commands.Command.{Command}
use Rattle.clock_words.specs.declared.commands.Command.TheVariants as command
use Rattle.tick_desk.specs.Shows.{PenShows}
use Rattle.ideal_world.specs.declared.deviations.Deviation.{Deviation}
use Rattle.report_text.specs.Text.{head_text, summary_text, ideal_text, estimate_text, tick_text, end_text}
use Rattle.report_text.specs.declared.lines.EndCounts.{EndCounts}
use Rattle.report_text.specs.declared.lines.ReportHead.{ReportHead}
use Rattle.report_text.specs.declared.lines.ReportHead.TheVariants as head
use Rattle.report_text.specs.declared.lines.Summary.{Summary}
use Rattle.radclock_run.specs.Replays.{logs_of, run_items}
use Rattle.radclock_run.specs.Plays.{entries_in}
use Rattle.radclock_run.specs.Reports.{of_nth}
use Rattle.radclock_run.specs.declared.ran.Asked.{Asked}

-- the command of such a run
abbrev pub run_by : Asked → Command
run_by asked = command.Run asked.number asked.count asked.ideal

-- its numbers are in their ranges
abbrev pub IsAskedInRange : Asked → Type 0
IsAskedInRange asked = IsCommandInRange (run_by asked)

-- all that a daemon says of them
abbrev pub run_fulls : Asked → List Full
run_fulls asked = fulls_of (events_of frequency (run_items asked))

-- what its summary counts, where each stamp is accepted
abbrev pub summary_of : List Full → Summary
summary_of fulls = record {
  accepted = length fulls;
  refused = 0;
  shifts = count_by (λ f. f.shifted) fulls;
  predicted = count_by (λ f. f.predicted) fulls;
  local = count_by (λ f. f.local) fulls;
}

-- what its end counts
abbrev pub run_counts : List Full → List Hands → ℕ → EndCounts
run_counts fulls ticks entries = record { accepted = length fulls; refused = 0; ticks = Some (length ticks); entries = Some entries; fired = None }

-- its head
abbrev pub run_head : Asked → ReportHead
run_head asked = head.Run asked.number asked.count asked.ideal

-- how its report begins: the head, and the summary
abbrev pub opening_lines : Asked → List Full → List (List ℕ)
opening_lines asked fulls = head_text (run_head asked) ∷ summary_text (summary_of fulls) ∷ []

-- then the tick that is told to be farthest from the truth, by how much, and its bound
abbrev pub told_lines : Option Deviation → List (List ℕ)
told_lines None = []
told_lines (Some f) = ideal_text f.tick f.distance f.bound ∷ []

-- and how it ends: the last estimate, the last tick, and what there is of each
abbrev pub closing_lines : List Full → List Hands → ℕ → List (List ℕ)
closing_lines fulls ticks entries =
    of_nth (λ f. estimate_text (length fulls - 1) f 1) fulls (length fulls - 1)
    ∷ tick_text (length ticks - 1) (newest ticks)
    ∷ end_text (run_counts fulls ticks entries)
    ∷ []

-- the report on estimates, what is told of the truth, a journal, and so many entries
abbrev pub run_lines : Asked → List Full → Option Deviation → List Hands → ℕ → List (List ℕ)
run_lines asked fulls told ticks entries = opening_lines asked fulls ++ told_lines told ++ closing_lines fulls ticks entries

-- the report on its own estimates, what is told of the truth, and what a pen shows
unfoldable pub run_text : Asked → Option Deviation → PenShows → List (List ℕ)
run_text asked told pen = run_lines asked (run_fulls asked) told pen.journal (entries_in (logs_of pen))
