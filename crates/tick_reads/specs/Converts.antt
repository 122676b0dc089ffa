-- The loads of a conversion, and what they come to.
use Rattle.std.specs.Prelude.{◌≡◌, ◌≢◌, ℕ, suc, ◌+◌, ◌/◌, ◌%◌, ◌<◌, ◌≤◌, List, [], ◌∷◌, ◌++◌, length}
use Rattle.clock_lines.specs.declared.readings.Kind.TheVariants as kind
use Rattle.clock_lines.specs.declared.readings.Entry.{Entry}
use Rattle.clock_lines.specs.declared.readings.Entry.TheVariants.{Read, Again, TooOld, Ahead}
use Rattle.clock_lines.specs.Readings.{reading_at}
use Rattle.hand_words.specs.Words.{unpack}
use Rattle.tick_reads.specs.declared.loads.Ask.{Ask}
use Rattle.tick_reads.specs.declared.loads.Load.{Load}
use Rattle.tick_reads.specs.declared.loads.Load.TheVariants.{Turn, Counter}
use Rattle.tick_reads.specs.Looks.{full_mark, look}

-- The turn word w was loaded, and the ticks from its own down to the one after m were looked at: their
-- marks stood, and their counts were not below the one given.
pub data Down (given w : ℕ) : ℕ → List Load → Type 0 where
  opens : Down given w (w / 2) (Turn w ∷ [])
  goes : (m : ℕ) (loads : List Load) (fields : List ℕ) → Down given w (suc m) loads → length fields ≡ 15 → given ≤ (unpack fields).count → suc m
      + 9 ≢ w / 2 → Down given w m (loads ++ look (suc m) fields (full_mark (suc m)))

abbrev pub ask_back : ℕ → Ask
ask_back given = record { kind = kind.Back; given = given }

-- the reading of tick m by the fields that were loaded of it
abbrev pub read_back : ℕ → ℕ → List ℕ → Entry
read_back given m fields = Read (reading_at (unpack fields) m kind.Back given)

-- the last tick that was looked at is m, with these fields
pub record Looks (given w m : ℕ) (loads : List Load) (fields : List ℕ) (mark : ℕ) : Type 0 where
  pub before : List Load
  pub down : Down given w m before
  pub is : loads ≡ before ++ look m fields mark
  pub long : length fields ≡ 15

-- the newest tick's mark stands, and the count given is past its count
pub record IsPast (given w : ℕ) (loads : List Load) (fields : List ℕ) : Type 0 where
  pub looks : Looks given w (w / 2) loads fields (full_mark (w / 2))
  pub below : (unpack fields).count < given

-- What the loads of a conversion come to, which begins with the turn word w.
pub data Converts (given w : ℕ) : List Load → Entry → Type 0 where
  -- a mark differs
  moved : (loads : List Load) (fields : List ℕ) (m mark : ℕ) → Looks given w m loads fields mark → mark ≢ full_mark m
      → Converts given w loads (Again kind.Back (full_mark m) mark)
  -- the count is past the newest tick's, and a windup stands open
  open_windup : (loads : List Load) (fields : List ℕ) → IsPast given w loads fields → w % 2 ≡ 1 → Converts given w loads (Again kind.Back w w)
  -- the counter has not reached it
  not_yet : (loads : List Load) (fields : List ℕ) (counter : ℕ) → IsPast given w loads fields → w % 2 ≡ 0 → counter < given
      → Converts given w (loads ++ Counter counter ∷ []) (Ahead given counter)
  -- a windup came between
  crossed : (loads : List Load) (fields : List ℕ) (counter turn : ℕ) → IsPast given w loads fields → w % 2 ≡ 0 → given ≤ counter → turn ≢ w
      → Converts given w (loads ++ Counter counter ∷ Turn turn ∷ []) (Again kind.Back w turn)
  -- the line is the newest tick
  newest : (loads : List Load) (fields : List ℕ) (counter : ℕ) → IsPast given w loads fields → w % 2 ≡ 0 → given ≤ counter
      → Converts given w (loads ++ Counter counter ∷ Turn w ∷ []) (read_back given (w / 2) fields)
  -- the line is an older tick, the first one whose count is below
  older : (loads : List Load) (fields : List ℕ) (m : ℕ) → Looks given w m loads fields (full_mark m) → m < w / 2 → (unpack fields).count < given
      → Converts given w loads (read_back given m fields)
  -- the line is tick 0
  oldest : (loads : List Load) (fields : List ℕ) → Looks given w 0 loads fields (full_mark 0) → given ≤ (unpack fields).count
      → Converts given w loads (read_back given 0 fields)
  -- the tenth tick's count is not below
  too_old : (loads : List Load) (fields : List ℕ) (m : ℕ) → Looks given w m loads fields (full_mark m) → 0 < m → m + 9 ≡ w / 2
      → given ≤ (unpack fields).count → Converts given w loads (TooOld given (unpack fields).count)
