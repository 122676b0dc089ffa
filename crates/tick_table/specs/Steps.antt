-- What each step tells: of a seat that knew m before and m' after, at a word that was r before. A
-- store is told the value, st.first.
use Rattle.std.specs.Prelude.{◌≡◌, ◌≢◌, ℕ, ◌+◌, ◌-◌, ◌*◌, ◌%◌, ◌<◌, ◌≤◌, ◌^◌, max, ◌==◌, ◌&&◌, true, false, List, length, slice_get, slice_index, Option, Some, None}
use mathlib.Core.Option.{some}
use lib.ListN.{get_elem?}
use Rattle.atomic_table.specs.Table.{Step}
use Rattle.ff_hands.specs.Journals.{IsJournal}
use Rattle.ff_hands.specs.declared.hands.Hands.{Hands}
use Rattle.hand_words.specs.Words.{pack, unpack}
use Rattle.tick_reads.specs.declared.loads.Ask.{Ask}
use Rattle.clock_logs.specs.Legal.{way_of}
use Rattle.tick_reads.specs.Ways.{needs_even}
use Rattle.tick_reads.specs.Looks.{full_mark}
use Rattle.tick_reads.specs.Scans.{Scan, has_fields, counter_of}
use Rattle.clock_logs.specs.declared.noted.Kept.{Kept}
use Rattle.tick_views.specs.declared.views.PenView.{PenView}
use Rattle.tick_views.specs.declared.views.PassView.{PassView}
use Rattle.tick_views.specs.Worlds.{AllAtMost, FitsKept}
use Rattle.tick_views.specs.Views.{turn_started, mark_started, field_stored, mark_set, turn_closed, pen_counted, top_raised, on_pen, pen_of, on_crank, crank_of, crank_raised, scan_of, turn_loaded, counter_loaded, field_loaded, mark_loaded, call_begun, on_pass, pass_of}
use Rattle.tick_table.specs.Sees.{Mine}
use Rattle.tick_table.specs.Rule.{IsOnce, turn_now, world_of}

-- the steps of a windup
abbrev pub Starts : Step (Unit {0}) → Mine → ℕ → Mine → Type 0
Starts st m r m' = m' ≡ (on_pen turn_started m.0, m.1)

abbrev pub Stores : Step (Unit {0}) → Mine → ℕ → Mine → Type 0
Stores st m r m' = m' ≡ (on_pen (field_stored st.first) m.0, m.1)

abbrev pub StartsMark : Step (Unit {0}) → Mine → ℕ → Mine → Type 0
StartsMark st m r m' = m' ≡ (on_pen mark_started m.0, m.1)

abbrev pub SetsMark : Step (Unit {0}) → Mine → ℕ → Mine → Type 0
SetsMark st m r m' = m' ≡ (on_pen mark_set m.0, m.1)

-- the journal was legal before: so the hands that are told to follow can be packed
abbrev pub Closes : Step (Unit {0}) → Mine → ℕ → Mine → Type 0
Closes st m r m' = (m' ≡ (on_pen turn_closed m.0, m.1)) × IsJournal (pen_of m.0).journal

-- hands that stand at tick n of a legal journal
abbrev pub IsSoundAt : ℕ → Hands → Type 0
IsSoundAt n h = (journal : List Hands) × IsJournal journal × (slice_get journal n ≡ Some h)

-- what a load of the turn word with the value w tells a pass
pub record LearnsTurn (v : PassView) (w : ℕ) : Type 0 where
  pub seen : 2 * v.seen ≤ w + 2
  pub later : AllAtMost w v.turns
  pub fits : w < 2 ^ 63

-- where the mark stands, the fields are those of one tick's hands
abbrev pub LearnsHands : Scan → ℕ → Type 0
LearnsHands s x = has_fields s ≡ true → x ≡ full_mark s.tick → (h : Hands) × (s.fields ≡ pack h) × (unpack s.fields ≡ h) × IsSoundAt s.tick h

-- and where it does not, it is of a tick that comes at least ten later
abbrev pub LearnsLater : Scan → ℕ → Type 0
LearnsLater s x = x ≢ full_mark s.tick → 2 * s.tick + 21 ≤ x

-- and where the turn word is again what it was. The counter is past that tick
abbrev pub LearnsAll : Ask → Scan → ℕ → Type 0
LearnsAll ask s x = (needs_even (way_of ask.kind) && has_fields s && (length s.counters == 1)) ≡ true → x ≡ s.first → (h : Hands)
    × (s.fields ≡ pack h) × (unpack s.fields ≡ h) × IsSoundAt s.tick h × (h.count ≤ counter_of s)

-- the loads of a call
abbrev pub LoadsMark : Step (Unit {0}) → Mine → ℕ → Mine → Type 0
LoadsMark st m r m' = (m' ≡ (on_pass (mark_loaded r) m.0, m.1)) × LearnsHands (scan_of (pass_of m.0)) r × LearnsLater (scan_of (pass_of m.0)) r

abbrev pub LoadsTurn : Step (Unit {0}) → Mine → ℕ → Mine → Type 0
LoadsTurn st m r m' = (m' ≡ (on_pass (turn_loaded r) m.0, m.1)) × LearnsTurn (pass_of m.0) r × LearnsAll (pass_of m.0).ask (scan_of (pass_of m.0)) r

abbrev pub LoadsCounter : Step (Unit {0}) → Mine → ℕ → Mine → Type 0
LoadsCounter st m r m' = (m' ≡ (on_pass (counter_loaded r) m.0, m.1)) × AllAtMost r (pass_of m.0).counters × (r < 2 ^ 62)

-- what the pen learns of the counter: it is at least its top, and that where no crank is out
pub record LearnsCounter (p : PenView) (c : ℕ) : Type 0 where
  pub top : p.top ≤ c
  pub home : p.out ≡ false → c ≡ p.top
  pub reached : (m : ℕ) (h : Hands) → get_elem? p.journal m ≡ some h → h.count ≤ c
  pub small : c < 2 ^ 62
  pub later : AllAtMost c p.counters

abbrev pub LoadsOwnCounter : Step (Unit {0}) → Mine → ℕ → Mine → Type 0
LoadsOwnCounter st m r m' = (m' ≡ (on_pen (pen_counted r) m.0, m.1)) × LearnsCounter (pen_of m.0) r

abbrev pub Raises : Step (Unit {0}) → Mine → ℕ → Mine → Type 0
Raises st m r m' = (m' ≡ (on_pen (top_raised st.first (max r st.first)) m.0, m.1)) × LearnsCounter (pen_of m.0) r

abbrev pub Cranks : Step (Unit {0}) → Mine → ℕ → Mine → Type 0
Cranks st m r m' = (m' ≡ (on_crank (crank_raised st.first (max r st.first)) m.0, m.1)) × ((crank_of m.0).top ≤ r) × (r < 2 ^ 62)

abbrev pub Opens : Ask → Step (Unit {0}) → Mine → ℕ → Mine → Type 0
Opens ask st m r m' = (m' ≡ (on_pass (λ v. turn_loaded r (call_begun ask v)) m.0, m.1)) × LearnsTurn (pass_of m.0) r

-- the field's number is by its word: three words stand before field 0 of a slot, and a slot has
-- sixteen
abbrev pub LoadsField : Step (Unit {0}) → Mine → ℕ → Mine → Type 0
LoadsField st m r m' = m' ≡ (on_pass (field_loaded ((st.word - 3) % 16) r) m.0, m.1)

-- What the pen learns at a load of the turn word, beside the words that stood then: all that it
-- kept is legal over its journal. No pass was taken in twice, and each has a number that was given
pub record LegalLogs (p : PenView) : Type 0 where
  pub journal : IsJournal p.journal
  pub once : IsOnce p.kept
  pub given : (i : ℕ) (k : Kept) → get_elem? p.kept i ≡ some k → k.number < p.made
  -- the shared words as they stood then, of which word 1 is the counter
  pub stood : List ℕ
  pub small : slice_index stood 1 < 2 ^ 62
  pub home : p.out ≡ false → slice_index stood 1 ≡ p.top
  pub closed : p.winding ≡ false → p.loaded ≡ None
  pub reached : p.winding ≡ false → (m : ℕ) (h : Hands) → get_elem? p.journal m ≡ some h → h.count ≤ slice_index stood 1
  pub each : (i : ℕ) (k : Kept) → get_elem? p.kept i ≡ some k → FitsKept (world_of stood p (length p.journal - 1)) k

abbrev pub LoadsOwnTurn : Step (Unit {0}) → Mine → ℕ → Mine → Type 0
LoadsOwnTurn st m r m' = (m' ≡ m) × (r ≡ turn_now (pen_of m.0)) × LegalLogs (pen_of m.0)
