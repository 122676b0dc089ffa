-- What becomes of the stamps of a file, and the report on them.
use Rattle.std.specs.Prelude.{ℕ, ◌+◌, Bool, true, false, ◌&&◌, List, [], ◌∷◌, ◌++◌, length, map, slice_get, count_by, is_ok, is_err, option_map, Option, None, Some, Result, Ok, Err, if◌then◌else◌}
use Rattle.std.specs.List.{range_with_len}
use Rattle.std.specs.Option.{option_map_or}
use Rattle.stamp_text.specs.Accepted.{accepted_with, trip}
use Rattle.stamp_text.specs.Past.{accept_item, stamps_of}
use Rattle.stamp_text.specs.declared.accepts.Refused.{Refused}
use Rattle.stamp_text.specs.declared.lines.Head.{Head}
use Rattle.stamp_text.specs.declared.lines.Item.{Item}
use Rattle.stamp_text.specs.declared.lines.Item.TheVariants as item
use Rattle.stamp_text.specs.declared.lines.Stamp.{Stamp}
use Rattle.rtt_window.specs.Bases.{base_at}
use Rattle.rtt_window.specs.declared.bases.Base.{Base}
use Rattle.ff_estimator.specs.Events.{events_of, fulls_of}
use Rattle.ff_estimator.specs.declared.fulls.Full.{Full}
use Rattle.ff_hands.specs.declared.hands.Hands.{Hands}
use Rattle.clock_lines.specs.declared.readings.Entry.{Entry}
use Rattle.tick_desk.specs.Shows.{PenShows}
use Rattle.replay_run.specs.declared.plan.Options.{Options}
use Rattle.callouts.specs.declared.firings.Firing.{Firing}
use Rattle.callouts.specs.Firings.{asked_timers, fired_at, firing_list, firings}
use Rattle.report_text.specs.Text.{head_text, end_text, stamp_text, base_text, estimate_text, set_text, leap_text, tick_text, fire_text, entry_text, refused_text}
use Rattle.report_text.specs.declared.lines.EndCounts.{EndCounts}
use Rattle.report_text.specs.declared.lines.ReportHead.{ReportHead}
use Rattle.report_text.specs.declared.lines.ReportHead.TheVariants as head
use Rattle.radclock_input.specs.Inputs.{accepted_among}
use Rattle.radclock_run.specs.Journals.{played_by}
use Rattle.radclock_run.specs.Replays.{logs_of}
use Rattle.radclock_run.specs.Plays.{entries_in}
use Rattle.radclock_input.specs.declared.files.ItemLine.{ItemLine}
use Rattle.clock_words.specs.declared.commands.Report.{Report}
use Rattle.clock_words.specs.declared.commands.Report.TheVariants as asked

-- an item with its line, and that it is accepted or why it is refused
pub record Outcome : Type 0 where
  pub line : ℕ
  pub item : Item
  pub answer : Result (Unit {0}) Refused

abbrev pub outcome_of : ℕ → List Item → ItemLine → Outcome
outcome_of freq accepted x = record { line = x.line; item = x.item; answer = accept_item freq accepted x.item }

-- the outcomes of items behind accepted ones: each is tested behind the accepted ones before it
abbrev pub outcomes : ℕ → List Item → List ItemLine → List Outcome
outcomes freq accepted [] = []
outcomes freq accepted (x ∷ xs) = outcome_of freq accepted x ∷ outcomes freq (accepted_with accepted x.item (outcome_of freq accepted x).answer) xs

abbrev pub is_stamp : Item → Bool
is_stamp (item.Stamp s) = true
is_stamp (item.Set count at) = false
is_stamp (item.Leap count leap) = false

-- a stamp that is accepted
abbrev pub is_taken : Outcome → Bool
is_taken o = is_stamp o.item && is_ok o.answer

-- the line of an accepted item: that of the accepted stamp with this index, a set, or a leap second
abbrev pub item_text : (ℕ → Stamp → List ℕ) → ℕ → Item → List ℕ
item_text says i (item.Stamp s) = says i s
item_text says i (item.Set count at) = set_text count at
item_text says i (item.Leap count leap) = leap_text count leap

-- the line of an outcome: that of the accepted item, or why it is refused
abbrev pub line_by : (ℕ → Stamp → List ℕ) → ℕ → ℕ → Item → Result (Unit {0}) Refused → List ℕ
line_by says i line x (Ok o) = item_text says i x
line_by says i line x (Err why) = refused_text line why

-- the lines of outcomes behind so many accepted stamps, in their order
abbrev pub lines_of : (ℕ → Stamp → List ℕ) → ℕ → List Outcome → List (List ℕ)
lines_of says i [] = []
lines_of says i (o ∷ os) = line_by says i o.line o.item o.answer ∷ lines_of says (i + (if is_taken o then 1 else 0)) os

-- the text of the value with this index
abbrev pub of_nth : {X : Type 0} → (X → List ℕ) → List X → ℕ → List ℕ
of_nth text xs i = option_map_or text (slice_get xs i) []

-- how many items are refused
abbrev pub refused_in : List Outcome → ℕ
refused_in q = count_by (λ o. is_err o.answer) q

-- how many stamps were accepted, how many items were refused, and how many ticks there are
abbrev pub end_counts : List Outcome → Option ℕ → EndCounts
end_counts q ticks = record { accepted = count_by is_taken q; refused = refused_in q; ticks = ticks; entries = None; fired = None }

-- a report: its head, a line for each outcome, and how many were accepted and refused
unfoldable pub stamp_report : ReportHead → (ℕ → Stamp → List ℕ) → List Outcome → List (List ℕ)
stamp_report head says q = (head_text head ∷ lines_of says 0 q) ++ end_text (end_counts q None) ∷ []

-- the command `stamps` tells each accepted stamp
abbrev pub stamps_report : Head → List Outcome → List Stamp → List (List ℕ)
stamps_report h q all = stamp_report (head.Stamps h.freq h.version) (λ i s. of_nth (λ s. stamp_text i s h.version) all i) q

-- the command `rtt` tells its round trip and its base, of these
abbrev pub rtt_report : Head → List Outcome → List Base → List (List ℕ)
rtt_report h q bases = stamp_report (head.Rtt h.freq h.version) (λ i s. of_nth (base_text i (trip s)) bases i) q

-- the command `estimate` tells its estimate, of these
abbrev pub estimate_report : Head → List Outcome → List Full → List (List ℕ)
estimate_report h q fulls = stamp_report (head.Estimate h.freq h.version) (λ i s. of_nth (λ f. estimate_text i f h.version) fulls i) q

-- the lines of ticks, numbered from n on
abbrev pub tick_lines : ℕ → List Hands → List (List ℕ)
tick_lines n [] = []
tick_lines n (h ∷ hs) = tick_text n h ∷ tick_lines (n + 1) hs

-- the lines of timers that fire
abbrev pub fire_lines : List Firing → List (List ℕ)
fire_lines [] = []
fire_lines (f ∷ fs) = fire_text f.tick f.fired ∷ fire_lines fs

-- the lines of ticks, numbered from n on, and behind each those of the timers that fire at it
abbrev pub timed_lines : (ℕ → List Firing) → ℕ → List Hands → List (List ℕ)
timed_lines fires n [] = []
timed_lines fires n (h ∷ hs) = (tick_text n h ∷ fire_lines (fires n)) ++ timed_lines fires (n + 1) hs

-- a report on a journal: its head, a line for each tick with those of its timers, and its end
unfoldable pub ticks_text : ReportHead → (ℕ → List Firing) → List Hands → EndCounts → List (List ℕ)
ticks_text head fires hs counts = (head_text head ∷ timed_lines fires 0 hs) ++ end_text counts ∷ []

-- how many timers fire at the ticks of a journal, if they are asked for
abbrev pub fired_in : Option ℕ → List Hands → Option ℕ
fired_in timers hs = option_map (λ _. length (firing_list 0 (firings (asked_timers timers) hs))) timers

-- what the end of that report counts: the stamps and refused items, the ticks, and the timers that fire
abbrev pub ticks_counts : Option ℕ → List Outcome → List Hands → EndCounts
ticks_counts timers q hs = record (end_counts q (Some (length hs))) { fired = fired_in timers hs }

-- the command `ticks` tells each tick and the timers that fire at it, and of the stamps how many were accepted and
-- refused
abbrev pub ticks_report : Head → ℕ → Option ℕ → List Outcome → List Hands → List (List ℕ)
ticks_report h ticks timers q hs = ticks_text (head.Ticks h.freq ticks timers h.version) (fired_at (firings (asked_timers timers) hs)) hs
    (ticks_counts timers q hs)

-- the bases of accepted stamps
unfoldable pub bases_of : ℕ → List Stamp → List Base
bases_of freq all = map (base_at freq all) (range_with_len 0 (length all))

-- the lines of a reader's entries, numbered from k on
abbrev pub entry_lines : ℕ → ℕ → List Entry → List (List ℕ)
entry_lines reader k [] = []
entry_lines reader k (e ∷ es) = entry_text reader k e ∷ entry_lines reader (k + 1) es

-- those of the logs of readers, numbered from this one on
abbrev pub log_lines : ℕ → List (List Entry) → List (List ℕ)
log_lines reader [] = []
log_lines reader (es ∷ logs) = entry_lines reader 0 es ++ log_lines (reader + 1) logs

-- the head of a report on a replay
abbrev pub replay_head : Head → Options → Bool → ReportHead
replay_head h o lane = head.Replay h.freq o.ticks o.readers o.reads o.back o.crank o.utc lane h.version

-- what its end counts: the stamps and refused items, the ticks, and the entries of all logs
abbrev pub replay_counts : List Outcome → List Hands → List (List Entry) → EndCounts
replay_counts q ticks logs = record (end_counts q (Some (length ticks))) { entries = Some (entries_in logs) }

-- the command `replay` tells of each accepted stamp its estimate, of these, then each tick, then each
-- reader's entries
unfoldable pub replay_report : Head → Options → Bool → List Outcome → List Full → List Hands → List (List Entry) → List (List ℕ)
replay_report h o lane q fulls ticks logs =
    (((head_text (replay_head h o lane) ∷ lines_of (λ i s. of_nth (λ f. estimate_text i f h.version) fulls i) 0 q) ++ tick_lines 0 ticks) ++ log_lines 0 logs)
    ++ end_text (replay_counts q ticks logs) ∷ []

-- the report that is asked for, on a file. Only that on a replay tells of a pen: of its journal, and of
-- the logs that it took in
unfoldable pub report_of : Report → Head → List ItemLine → PenShows → List (List ℕ)
report_of asked.Stamps h items pen = stamps_report h (outcomes h.freq [] items) (stamps_of (accepted_among h.freq [] items))
report_of asked.Rtt h items pen = rtt_report h (outcomes h.freq [] items) (bases_of h.freq (stamps_of (accepted_among h.freq [] items)))
report_of asked.Estimate h items pen = estimate_report h (outcomes h.freq [] items) (fulls_of (events_of h.freq (accepted_among h.freq [] items)))
report_of (asked.Ticks ticks timers) h items pen = ticks_report h ticks timers (outcomes h.freq [] items) (played_by h.freq ticks items)
report_of (asked.Replay ticks readers reads back crank utc lane) h items pen =
    replay_report h (record { ticks = ticks; readers = readers; reads = reads; back = back; crank = crank; utc = utc }) lane
    (outcomes h.freq [] items) (fulls_of (events_of h.freq (accepted_among h.freq [] items))) pen.journal (logs_of pen)
