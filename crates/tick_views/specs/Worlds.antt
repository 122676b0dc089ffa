-- What a view must fit: the journal, the turn word, the marks and the counter alone.
use Rattle.std.specs.Prelude.{◌≡◌, ℕ, ◌+◌, ◌*◌, ◌/◌, ◌%◌, ◌<◌, ◌≤◌, ◌⊎◌, Bool, true, false, List, [], ◌∷◌, ◌++◌, map, length, Option, Some, None}
use mathlib.Core.Option.{some}
use lib.ListN.{get_elem?}
use Rattle.ff_hands.specs.declared.hands.Hands.{Hands}
use Rattle.clock_lines.specs.declared.readings.Reading.{Reading}
use Rattle.tick_reads.specs.declared.loads.Ask.{Ask}
use Rattle.clock_lines.specs.declared.readings.Entry.{Entry}
use Rattle.clock_lines.specs.declared.readings.Entry.TheVariants.{Read, Again, TooOld, Ahead}
use Rattle.clock_logs.specs.declared.noted.Noted.{Noted}
use Rattle.clock_logs.specs.declared.noted.Kept.{Kept}
use Rattle.tick_views.specs.declared.views.MarkLoad.{MarkLoad}
use Rattle.clock_logs.specs.Logs.{IsReadSince}
use Rattle.tick_views.specs.declared.views.PassView.{PassView}
use Rattle.tick_views.specs.declared.views.View.{View}
use Rattle.tick_views.specs.declared.views.View.TheVariants.{Pen, Pass, Crank, Note, Spent}
use Rattle.hand_words.specs.Words.{pack}
use Rattle.clock_logs.specs.Legal.{Way, full, quick, past, way_of}
use Rattle.tick_reads.specs.Ways.{needs_even, reading}
use Rattle.tick_reads.specs.Looks.{full_mark}
use Rattle.tick_reads.specs.Scans.{Scan, run, fresh}

-- each member is at most t
abbrev pub AllAtMost : ℕ → List ℕ → Type 0
AllAtMost t xs = (i x : ℕ) → get_elem? xs i ≡ some x → x ≤ t

-- each member is at least t
abbrev pub AllFrom : ℕ → List ℕ → Type 0
AllFrom t xs = (i x : ℕ) → get_elem? xs i ≡ some x → t ≤ x

-- the members never fall
abbrev pub NeverFall : List ℕ → Type 0
NeverFall [] = Unit {0}
NeverFall (x ∷ xs) = AllFrom x xs × NeverFall xs

-- the list ys is the front of xs
abbrev pub StartsWith : List ℕ → List ℕ → Type 0
StartsWith xs ys = (i y : ℕ) → get_elem? ys i ≡ some y → get_elem? xs i ≡ some y

abbrev pub opening_of : Noted → ℕ
opening_of e = e.opening

-- the turn word's tick, with the one whose windup stands open
abbrev pub top_tick : ℕ → ℕ
top_tick turn = (turn + 1) / 2

-- the mark of a slot is that of tick k
abbrev pub IsMark : ℕ → ℕ → Type 0
IsMark v k = (v ≡ 2 * k + 1) ⊎ (v ≡ 2 * k + 2)

-- What the views are compared with. The turn word and the counter are the words; a mark is that of a tick's slot
pub record World : Type 0 where
  pub journal : List Hands
  pub turn : ℕ
  pub marks : ℕ → ℕ
  pub counter : ℕ
  -- no reading is past this, and the next tick is not before it: the counter that the open windup loaded, or the counter
  pub bound : ℕ
  pub made : ℕ

-- a counter that was read beside tick n is not past the next tick
pub record IsTimely (w : World) (n c : ℕ) : Type 0 where
  pub next : (h : Hands) → get_elem? w.journal (n + 1) ≡ some h → c ≤ h.count
  pub last : length w.journal ≡ n + 1 → c ≤ w.bound

-- the count of a reading of tick n, whose hands are h
abbrev pub FitsCount : World → Way → ℕ → ℕ → Hands → ℕ → Type 0
FitsCount w full given n h c = (h.count ≤ c) × IsTimely w n c
FitsCount w quick given n h c = Unit {0}
FitsCount w past given n h c = ((n ≡ 0) ⊎ (h.count < given)) × IsTimely w n given

-- a reading is all by one tick of the journal
pub record FitsRead (w : World) (opening : ℕ) (r : Reading) : Type 0 where
  pub ask : Ask
  pub hands : Hands
  pub counter : ℕ
  pub at : get_elem? w.journal r.tick ≡ some hands
  pub is : r ≡ reading ask r.tick hands counter
  pub count : FitsCount w (way_of ask.kind) ask.given r.tick hands counter
  pub tick : IsReadSince (way_of ask.kind) r.tick opening

-- a windup stood open, or came between
abbrev pub MetWindup : World → ℕ → ℕ → ℕ → Type 0
MetWindup w opening first last = (first ≡ opening) × (last ≤ w.turn) × (((first ≡ last) × (first % 2 ≡ 1)) ⊎ ((first < last) × (first % 2 ≡ 0)))

-- the slot of tick m was taken for a later tick
abbrev pub LostSlot : World → ℕ → ℕ → ℕ → Type 0
LostSlot w m first last = (first ≡ full_mark m) × ((k : ℕ) × IsMark last k × (m + 10 ≤ k) × (k % 10 ≡ m % 10) × (k ≤ top_tick w.turn))

-- why a call has to be made again
abbrev pub FitsAgain : World → Way → ℕ → ℕ → ℕ → Type 0
FitsAgain w full opening first last = MetWindup w opening first last
FitsAgain w quick opening first last = LostSlot w (opening / 2) first last
FitsAgain w past opening first last = MetWindup w opening first last ⊎ ((m : ℕ) × IsReadSince past m opening × LostSlot w m first last)

-- a mark that was loaded of tick m is its own, or of a later tick of its slot
abbrev pub FitsMark : World → MarkLoad → Type 0
FitsMark w l = (l.mark ≡ full_mark l.tick) ⊎ LostSlot w l.tick (full_mark l.tick) l.mark

-- the tenth tick that was looked at is not before the count
pub record FitsOld (w : World) (opening count oldest : ℕ) : Type 0 where
  pub tick : ℕ
  pub hands : Hands
  pub at : get_elem? w.journal tick ≡ some hands
  pub is : hands.count ≡ oldest
  pub not_after : count ≤ oldest
  pub later : tick + 9 ≡ opening / 2
  pub some_tick : 0 < tick
  pub reached : opening / 2 < length w.journal

-- An entry is legal, beside an open windup too, whose tick may stand for one of the journal
abbrev pub FitsEntry : World → ℕ → Entry → Type 0
FitsEntry w opening (Read r) = FitsRead w opening r
FitsEntry w opening (Again kind first last) = FitsAgain w (way_of kind) opening first last
FitsEntry w opening (TooOld count oldest) = FitsOld w opening count oldest
FitsEntry w opening (Ahead count at) = at < count

-- the counters that entries show
abbrev pub count_if : Bool → ℕ → List ℕ
count_if true c = c ∷ []
count_if false c = []

abbrev pub counts_in : Entry → List ℕ
counts_in (Read r) = count_if (needs_even (way_of r.kind)) r.count
counts_in (Again kind first last) = []
counts_in (TooOld count oldest) = []
counts_in (Ahead count at) = at ∷ []

abbrev pub counts_of : List Noted → List ℕ
counts_of [] = []
counts_of (e ∷ es) = counts_in e.entry ++ counts_of es

-- all entries of one pass, in their order
pub record FitsLog (w : World) (log : List Noted) : Type 0 where
  pub each : (i : ℕ) (e : Noted) → get_elem? log i ≡ some e → FitsEntry w e.opening e.entry
  pub rises : NeverFall (map opening_of log)
  pub below : AllAtMost w.turn (map opening_of log)
  pub counts_rise : NeverFall (counts_of log)
  pub counts_below : AllAtMost w.counter (counts_of log)

-- what the pen kept of a pass
pub record FitsKept (w : World) (k : Kept) : Type 0 where
  pub seen : k.seen ≤ length w.journal
  pub counters : AllAtMost w.counter k.counters
  pub log : FitsLog w k.entries

-- a conversion is at a tick of the last ten, and the tick above it is not before the counter given
pub record FitsWalk (w : World) (ask : Ask) (s : Scan) : Type 0 where
  pub range : IsReadSince past s.tick s.first
  pub above : s.tick < s.first / 2 → (h : Hands) → get_elem? w.journal (s.tick + 1) ≡ some h → ask.given ≤ h.count
  pub top : s.line ≡ true → (s.tick ≡ s.first / 2) × (s.first % 2 ≡ 0)
      × ((h : Hands) → get_elem? w.journal s.tick ≡ some h → (s.fields ≡ pack h) × (h.count < ask.given))

-- the call that stands open, by the way of its kind
abbrev pub FitsKind : World → Way → Ask → Scan → Type 0
FitsKind w full ask s = (s.tick ≡ s.first / 2) × (s.first % 2 ≡ 0)
FitsKind w quick ask s = s.tick ≡ s.first / 2
FitsKind w past ask s = FitsWalk w ask s

-- The call that stands open, as far as it is. Its fields are those of its tick while the mark is that tick's
pub record FitsCall (w : World) (known : ℕ) (log : List Noted) (y : Way) (ask : Ask) (s : Scan) : Type 0 where
  pub begun : s.begun ≡ true
  pub undecided : s.answer ≡ None
  pub later : AllAtMost s.first (map opening_of log)
  pub tick : s.first / 2 < known
  pub near : s.tick ≤ s.first / 2
  pub reached : s.first ≤ w.turn
  pub kind : s.good ≡ true → FitsKind w y ask s
  pub fields : s.good ≡ true → w.marks s.tick ≡ full_mark s.tick → (h : Hands) → get_elem? w.journal s.tick ≡ some h → StartsWith (pack h) s.fields
  pub counters : (i c : ℕ) → get_elem? s.counters i ≡ some c → (c ≤ w.counter) × AllAtMost c (counts_of log)
      × ((h : Hands) → get_elem? w.journal (s.first / 2) ≡ some h → h.count ≤ c) × (y ≡ past → ask.given ≤ c)

-- a pass knows nothing that was not so
pub record FitsPass (w : World) (v : PassView) : Type 0 where
  pub seen : v.seen ≤ length w.journal
  pub rises : NeverFall v.turns
  pub below : AllAtMost w.turn v.turns
  pub known : (i t : ℕ) → get_elem? v.turns i ≡ some t → t / 2 < v.seen
  pub number : v.number < w.made
  pub counters_rise : NeverFall v.counters
  pub counters_below : AllAtMost w.counter v.counters
  pub marks : (i : ℕ) (l : MarkLoad) → get_elem? v.marks i ≡ some l → FitsMark w l
  pub log : FitsLog w v.entries
  pub call : v.calling ≡ true → FitsCall w v.seen v.entries (way_of v.ask.kind) v.ask (run v.ask fresh v.loads)

-- Each seat but the pen's
abbrev pub Fits : World → View → Type 0
Fits w (Pen p) = ⊥
Fits w (Pass v) = FitsPass w v
Fits w (Crank top) = Unit {0}
Fits w (Note seen) = seen ≤ length w.journal
Fits w Spent = Unit {0}

abbrev pub or_else : Option ℕ → ℕ → ℕ
or_else (Some x) d = x
or_else None d = d

-- the world goes on: nothing that was published is taken back, and a mark that is now full was so before
pub record Goes (w w' : World) : Type 0 where
  pub on : (i : ℕ) (h : Hands) → get_elem? w.journal i ≡ some h → get_elem? w'.journal i ≡ some h
  pub back : (i : ℕ) (h : Hands) → i < length w.journal → get_elem? w'.journal i ≡ some h → get_elem? w.journal i ≡ some h
  pub longer : length w.journal ≤ length w'.journal
  pub turn : w.turn ≤ w'.turn
  pub marks : (m : ℕ) → m < length w.journal → w'.marks m ≡ full_mark m → w.marks m ≡ full_mark m
  pub counter : w.counter ≤ w'.counter
  pub made : w.made ≤ w'.made
  -- a new tick's count is at least what the last reading may have
  pub next : (h : Hands) → get_elem? w'.journal (length w.journal) ≡ some h → w.bound ≤ h.count
  pub bound : length w'.journal ≡ length w.journal → w.bound ≤ w'.bound

-- hands may come next: the journal is as long as the turn word says, and they are not before what was read
abbrev pub MayPublish : World → Hands → Type 0
MayPublish w h = (w.turn ≤ 2 * length w.journal) × (w.bound ≤ h.count)

-- they are published as the next tick: the turn word is its, and no windup stands open
abbrev pub published : World → Hands → World
published w h = record w { journal = w.journal ++ h ∷ []; turn = 2 * length w.journal; bound = w.counter }
