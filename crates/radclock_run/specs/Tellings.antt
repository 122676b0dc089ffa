-- A report on items as it is told, item by item.
use Rattle.std.specs.Prelude.{◌≡◌, ℕ, List, [], ◌∷◌, ◌++◌, length, None, Result, Ok, Err}
use Rattle.stamp_text.specs.Accepted.{accepted_with, trip}
use Rattle.stamp_text.specs.Past.{accept_item, stamps_of}
use Rattle.stamp_text.specs.declared.accepts.Refused.{Refused}
use Rattle.stamp_text.specs.declared.lines.Head.{Head}
use Rattle.stamp_text.specs.declared.lines.Item.{Item}
use Rattle.stamp_text.specs.declared.lines.Item.TheVariants as item
use Rattle.stamp_text.specs.declared.lines.Stamp.{Stamp}
use Rattle.rtt_window.specs.Bases.{base_at}
use Rattle.ff_estimator.specs.Events.{full_behind}
use Rattle.report_text.specs.Text.{head_text, end_text, stamp_text, base_text, estimate_text, set_text, leap_text, refused_text}
use Rattle.report_text.specs.declared.lines.ReportHead.{ReportHead}
use Rattle.ff_hands.specs.declared.hands.Hands.{Hands}
use Rattle.clock_lines.specs.declared.readings.Entry.{Entry}
use Rattle.radclock_run.specs.Reports.{Outcome, end_counts, replay_counts, tick_lines, log_lines}

-- an item is accepted behind those that a value stands for, so many stamps among them
pub record IsNext {T : Type 0} (stands : T → Head → List Item → Type 0) (telling : T) (index : ℕ) (x : Item) : Type 0 where
  pub head : Head
  pub accepted : List Item
  pub count : length (stamps_of accepted) ≡ index
  pub stood : stands telling head accepted
  pub answer : accept_item head.freq accepted x ≡ Ok tt

-- the line of an item that is accepted behind accepted ones, where `says` is that of a stamp
abbrev pub told_item : (List Item → Stamp → List ℕ) → List Item → Item → List ℕ
told_item says accepted (item.Stamp s) = says accepted s
told_item says accepted (item.Set count at) = set_text count at
told_item says accepted (item.Leap count leap) = leap_text count leap

-- the line of an outcome behind accepted items
abbrev pub told_of : (List Item → Stamp → List ℕ) → List Item → ℕ → Item → Result (Unit {0}) Refused → List ℕ
told_of says accepted line x (Ok o) = told_item says accepted x
told_of says accepted line x (Err why) = refused_text line why

-- the lines of outcomes, in their order
abbrev pub told : (List Item → Stamp → List ℕ) → List Item → List Outcome → List (List ℕ)
told says accepted [] = []
told says accepted (o ∷ os) = told_of says accepted o.line o.item o.answer ∷ told says (accepted_with accepted o.item o.answer) os

-- a report as far as the lines of the items
abbrev pub told_text : ReportHead → (List Item → Stamp → List ℕ) → List Outcome → List (List ℕ)
told_text head says q = head_text head ∷ told says [] q

-- a report: its head, a line for each outcome, and how many were accepted and refused
unfoldable pub report : ReportHead → (List Item → Stamp → List ℕ) → List Outcome → List (List ℕ)
report head says q = told_text head says q ++ end_text (end_counts q None) ∷ []

-- a report on a replay: behind the lines of the items the ticks and the logs
unfoldable pub replay_told : ReportHead → (List Item → Stamp → List ℕ) → List Outcome → List Hands → List (List Entry) → List (List ℕ)
replay_told head says q ticks logs = ((told_text head says q ++ tick_lines 0 ticks) ++ log_lines 0 logs) ++ end_text (replay_counts q ticks logs) ∷ []

-- the command `stamps` tells an accepted stamp with its index
abbrev pub stamps_says : Head → List Item → Stamp → List ℕ
stamps_says h accepted s = stamp_text (length (stamps_of accepted)) s h.version

-- the command `rtt` tells it with its index, its round trip and its base among all up to it
abbrev pub rtt_says : Head → List Item → Stamp → List ℕ
rtt_says h accepted s = base_text (length (stamps_of accepted)) (trip s) (base_at h.freq (stamps_of accepted ++ s ∷ []) (length (stamps_of accepted)))

-- the command `estimate` tells it with its index and its estimate behind all up to it
abbrev pub estimate_says : Head → List Item → Stamp → List ℕ
estimate_says h accepted s = estimate_text (length (stamps_of accepted)) (full_behind h.freq accepted s) h.version
