-- How far the call of a pass has gone: by its loads alone.
use Rattle.std.specs.Prelude.{◌≡◌, ◌≢◌, ℕ, ◌+◌, ◌*◌, ◌/◌, ◌<◌, ◌≤◌, ◌^◌, true, false, List, [], ◌∷◌, ◌++◌, Some}
use mathlib.Core.Option.{some}
use lib.ListN.{get_elem?}
use Rattle.ff_hands.specs.declared.hands.Hands.{Hands}
use Rattle.hand_words.specs.Words.{pack, unpack}
use Rattle.clock_lines.specs.declared.readings.Kind.{Kind}
use Rattle.clock_lines.specs.declared.readings.Kind.TheVariants as kind
use Rattle.clock_lines.specs.declared.readings.Entry.{Entry}
use Rattle.tick_reads.specs.declared.loads.Ask.{Ask}
use Rattle.tick_reads.specs.declared.loads.Load.{Load}
use Rattle.tick_reads.specs.declared.loads.Load.TheVariants.{Turn, Field, Mark, Counter}
use Rattle.tick_reads.specs.Looks.{full_mark, turns_in, counters_in}
use Rattle.tick_reads.specs.Scans.{fresh, after, run, decided, scan_at}
use Rattle.tick_reads.specs.Converts.{ask_back}
use Rattle.tick_views.specs.declared.views.MarkLoad.{MarkLoad}
use Rattle.tick_views.specs.declared.views.PassView.{PassView}
use Rattle.tick_views.specs.Views.{scan_of, undecided, gained, mark_load}
use Rattle.tick_table.specs.Steps.{IsSoundAt}

-- what a read of a kind asks, and what an interval does
abbrev pub ask_of : Kind → Ask
ask_of k = record { kind = k; given = 0 }

abbrev pub ask_diff : ℕ → Ask
ask_diff delta = record { kind = kind.Diff; given = delta }

-- the marks that were loaded, each with its tick
abbrev pub marks_in : List Load → List MarkLoad
marks_in [] = []
marks_in (Turn x ∷ ls) = marks_in ls
marks_in (Field t f x ∷ ls) = marks_in ls
marks_in (Mark t x ∷ ls) = mark_load t x ∷ marks_in ls
marks_in (Counter x ∷ ls) = marks_in ls

-- turn values that were loaded when this many ticks were seen
abbrev pub AllSince : ℕ → List ℕ → Type 0
AllSince seen xs = (i x : ℕ) → get_elem? xs i ≡ some x → 2 * seen ≤ x + 2

-- each mark is its tick's own, or that of a tick which comes at least ten later
abbrev pub AreLater : List MarkLoad → Type 0
AreLater xs = (i : ℕ) (l : MarkLoad) → get_elem? xs i ≡ some l → l.mark ≢ full_mark l.tick → 2 * l.tick + 21 ≤ l.mark

-- What loads leave of a pass. It keeps its number and has seen no fewer ticks, and behind all that it ever loaded stand
-- the turn words, the counters and the marks of these loads: each turn word is of the newest tick that it had seen or of
-- a later one, and each mark its tick's own or that of a tick at least ten later
pub record Grows (before after : PassView) (ls : List Load) : Type 0 where
  pub number : after.number ≡ before.number
  pub seen : before.seen ≤ after.seen
  pub turns : after.turns ≡ before.turns ++ turns_in ls
  pub since : AllSince before.seen (turns_in ls)
  pub counters : after.counters ≡ before.counters ++ counters_in ls
  pub marks : after.marks ≡ before.marks ++ marks_in ls
  pub aged : AreLater (marks_in ls)

-- a call that stands open makes these further loads, and gains the entry that they decide
pub record GoesOn (before after : PassView) (ls : List Load) : Type 0 where
  pub grows : Grows before after ls
  pub ask : after.ask ≡ before.ask
  pub loads : after.loads ≡ before.loads ++ ls
  pub calling : after.calling ≡ undecided (scan_of after).answer
  pub entries : after.entries ≡ gained before.entries (scan_of after).answer (scan_of after).first

-- a call with this ask makes these loads, and gains the entry that they decide
pub record Calls (before after : PassView) (ask : Ask) (ls : List Load) : Type 0 where
  pub grows : Grows before after ls
  pub ask_is : after.ask ≡ ask
  pub loads : after.loads ≡ ls
  pub calling : after.calling ≡ undecided (decided ask ls)
  pub entries : after.entries ≡ gained before.entries (decided ask ls) (run ask fresh ls).first

-- a call that has loaded the turn word alone, whether that decided it or not
pub record IsOpened (v : PassView) (ask : Ask) (first : ℕ) : Type 0 where
  pub calling : v.calling ≡ undecided (scan_of v).answer
  pub ask_is : v.ask ≡ ask
  pub loads : v.loads ≡ Turn first ∷ []
  pub scan : scan_of v ≡ after ask fresh (Turn first)
  pub few : first < 2 ^ 63

-- one that is not decided by it
pub record IsStarted (v : PassView) (ask : Ask) (first : ℕ) : Type 0 where
  pub calling : v.calling ≡ true
  pub ask_is : v.ask ≡ ask
  pub scan : scan_of v ≡ scan_at first (first / 2) false [] []

-- a conversion that is at a tick, and has loaded nothing of it
pub record IsAtTick (v : PassView) (count first tick : ℕ) : Type 0 where
  pub calling : v.calling ≡ true
  pub ask : v.ask ≡ ask_back count
  pub scan : scan_of v ≡ scan_at first tick false [] []

-- further loads by which the call has an answer
pub record Answers (before after : PassView) (e : Entry) : Type 0 where
  pub loads : List Load
  pub goes : GoesOn before after loads
  pub answer : (scan_of after).answer ≡ Some e

-- further loads by which a conversion is at a tick
pub record GoesDown (before after : PassView) (count first tick : ℕ) : Type 0 where
  pub loads : List Load
  pub goes : GoesOn before after loads
  pub at : IsAtTick after count first tick

-- the fields of a look whose mark stands are those of a tick's hands
abbrev pub LearnsLook : ℕ → List ℕ → Type 0
LearnsLook tick fields = (h : Hands) × (fields ≡ pack h) × (unpack fields ≡ h) × IsSoundAt tick h
