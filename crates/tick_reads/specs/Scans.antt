-- What the loads of a call decide, one load after the other.
use Rattle.std.specs.Prelude.{ℕ, ◌+◌, ◌-◌, ◌/◌, ◌%◌, ◌==◌, ◌&&◌, nat_lt, Bool, true, false, not, List, [], ◌∷◌, ◌++◌, length, slice_index, Option, Some, None}
use Rattle.clock_lines.specs.declared.readings.Entry.{Entry}
use Rattle.clock_lines.specs.declared.readings.Entry.TheVariants.{Read, Again, TooOld, Ahead}
use Rattle.hand_words.specs.Words.{unpack}
use Rattle.tick_reads.specs.declared.loads.Ask.{Ask}
use Rattle.tick_reads.specs.declared.loads.Load.{Load}
use Rattle.tick_reads.specs.declared.loads.Load.TheVariants.{Turn, Field, Mark, Counter}
use Rattle.clock_logs.specs.Legal.{Way, full, quick, past, way_of}
use Rattle.tick_reads.specs.Ways.{needs_even, reading}
use Rattle.tick_reads.specs.Looks.{full_mark}

-- How far the loads of a call have come along the order of a read.
pub record Scan : Type 0 where
  -- a word was loaded
  pub begun : Bool
  -- each load so far stood in its place, and the call has no answer yet
  pub good : Bool
  -- the first turn word
  pub first : ℕ
  -- the tick that is looked at
  pub tick : ℕ
  -- the past count is found to be past that tick, which is the newest
  pub line : Bool
  -- the fields of the tick so far
  pub fields : List ℕ
  -- the counters so far
  pub counters : List ℕ
  -- what the last load decided
  pub answer : Option Entry

abbrev pub fresh : Scan
fresh = record { begun = false; good = false; first = 0; tick = 0; line = false; fields = []; counters = []; answer = None }

-- a call that goes on
abbrev pub scan_at : ℕ → ℕ → Bool → List ℕ → List ℕ → Scan
scan_at first tick line fields counters = record {
  begun = true;
  good = true;
  first = first;
  tick = tick;
  line = line;
  fields = fields;
  counters = counters;
  answer = None;
}

abbrev pub is_even : ℕ → Bool
is_even w = w % 2 == 0

abbrev pub counter_of : Scan → ℕ
counter_of s = slice_index s.counters 0

-- the reading of the tick that is looked at
abbrev pub read_by : Ask → Scan → Entry
read_by ask s = Read (reading ask s.tick (unpack s.fields) (counter_of s))

abbrev pub has_fields : Scan → Bool
has_fields s = s.good && (length s.fields == 15)

-- the call is over, or went astray
abbrev pub ends : Option Entry → Scan → Scan
ends answer s = record s { begun = true; good = false; answer = answer }

-- a full read ends at its second turn word, which is to be the first one again
abbrev pub at_turn : Bool → Ask → Scan → ℕ → Entry
at_turn true ask s x = read_by ask s
at_turn false ask s x = Again ask.kind s.first x

abbrev pub turn_ends : Bool → Ask → Scan → ℕ → Option Entry
turn_ends false ask s x = None
turn_ends true ask s x = Some (at_turn (x == s.first) ask s x)

-- a light read ends at the mark of its tick, which is to be full
abbrev pub at_mark : Bool → Ask → Scan → ℕ → Entry
at_mark true ask s x = read_by ask s
at_mark false ask s x = Again ask.kind (full_mark s.tick) x

abbrev pub mark_ends : Bool → Ask → Scan → ℕ → Option Entry
mark_ends false ask s x = None
mark_ends true ask s x = Some (at_mark (x == full_mark s.tick) ask s x)

-- the first turn word gives the newest tick; a full read is over where it is odd
abbrev pub opens_at : ℕ → Scan
opens_at x = scan_at x (x / 2) false [] []

abbrev pub opened : Bool → Ask → ℕ → Scan
opened true ask x = ends (Some (Again ask.kind x x)) (opens_at x)
opened false ask x = opens_at x

abbrev pub turn_again : Way → Ask → Scan → ℕ → Scan
turn_again full ask s x = ends (turn_ends (has_fields s && (length s.counters == 1)) ask s x) s
turn_again quick ask s x = ends None s
turn_again past ask s x = ends (turn_ends (s.good && s.line && (length s.counters == 1)) ask s x) s

abbrev pub turned : Bool → Ask → Scan → ℕ → Scan
turned false ask s x = opened (needs_even (way_of ask.kind) && not (is_even x)) ask x
turned true ask s x = turn_again (way_of ask.kind) ask s x

-- A conversion, at the mark of a tick. The past count is not past this tick: it is tick 0, or the tenth and
-- last that is looked at, or the tick before it is looked at next
abbrev pub goes_down : Bool → Bool → Ask → Scan → Scan
goes_down true last ask s = ends (Some (read_by ask s)) s
goes_down false true ask s = ends (Some (TooOld ask.given (unpack s.fields).count)) s
goes_down false false ask s = record s { tick = s.tick - 1; fields = [] }

-- the past count is past this tick, which is the newest: it has to be read like a new one
abbrev pub finds_top : Bool → Ask → Scan → Scan
finds_top true ask s = record s { line = true }
finds_top false ask s = ends (Some (Again ask.kind s.first s.first)) s

-- or an older one, which was current at the past count
abbrev pub finds_line : Bool → Ask → Scan → Scan
finds_line true ask s = finds_top (is_even s.first) ask s
finds_line false ask s = ends (Some (read_by ask s)) s

abbrev pub looks_at : Bool → Ask → Scan → Scan
looks_at true ask s = finds_line (s.tick == s.first / 2) ask s
looks_at false ask s = goes_down (s.tick == 0) (s.tick + 9 == s.first / 2) ask s

abbrev pub finds_mark : Bool → Ask → Scan → ℕ → Scan
finds_mark true ask s x = looks_at (nat_lt (unpack s.fields).count ask.given) ask s
finds_mark false ask s x = ends (Some (Again ask.kind (full_mark s.tick) x)) s

abbrev pub walks : Bool → Ask → Scan → ℕ → Scan
walks true ask s x = finds_mark (x == full_mark s.tick) ask s x
walks false ask s x = ends None s

abbrev pub mark_by : Way → Ask → Scan → ℕ → ℕ → Scan
mark_by full ask s t x = ends None s
mark_by quick ask s t x = ends (mark_ends (has_fields s && (t == s.tick)) ask s x) s
mark_by past ask s t x = walks (has_fields s && not s.line && (t == s.tick)) ask s x

-- a conversion past the newest tick asks the counter whether the past count was reached
abbrev pub counts_back : Bool → Ask → Scan → ℕ → Scan
counts_back true ask s x = ends (Some (Ahead ask.given x)) s
counts_back false ask s x = record s { counters = s.counters ++ x ∷ [] }

abbrev pub counter_back : Bool → Ask → Scan → ℕ → Scan
counter_back true ask s x = counts_back (nat_lt x ask.given) ask s x
counter_back false ask s x = ends None s

abbrev pub takes_counter : Way → Ask → Scan → ℕ → Scan
takes_counter full ask s x = record s { begun = true; good = has_fields s; counters = s.counters ++ x ∷ []; answer = None }
takes_counter quick ask s x = ends None s
takes_counter past ask s x = counter_back (s.good && s.line && (length s.counters == 0)) ask s x

-- fields are loaded in their order, of the tick that is looked at
abbrev pub field_on : Scan → ℕ → ℕ → ℕ → Scan
field_on s t f x = record s { begun = true; good = s.good && not s.line && (t == s.tick) && (f == length s.fields); fields = s.fields ++ x ∷ []; answer = None }

abbrev pub after : Ask → Scan → Load → Scan
after ask s (Turn x) = turned s.begun ask s x
after ask s (Field t f x) = field_on s t f x
after ask s (Counter x) = takes_counter (way_of ask.kind) ask s x
after ask s (Mark t x) = mark_by (way_of ask.kind) ask s t x

abbrev pub run : Ask → Scan → List Load → Scan
run ask s [] = s
run ask s (l ∷ ls) = run ask (after ask s l) ls

-- the entry of a call, where its loads decide one
abbrev pub decided : Ask → List Load → Option Entry
decided ask loads = (run ask fresh loads).answer
