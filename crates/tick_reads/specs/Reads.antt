-- What the loads of a read come to, by its way.
use Rattle.std.specs.Prelude.{◌≡◌, ◌≢◌, ℕ, ◌*◌, ◌/◌, ◌%◌, ◌⊎◌, ⊤, List, [], ◌∷◌, ◌++◌, length}
use Rattle.clock_lines.specs.declared.readings.Kind.{Kind}
use Rattle.clock_lines.specs.declared.readings.Kind.TheVariants as kind
use Rattle.clock_lines.specs.declared.readings.Reading.{Reading}
use Rattle.clock_lines.specs.declared.readings.Entry.{Entry}
use Rattle.clock_lines.specs.declared.readings.Entry.TheVariants.{Read, Again}
use Rattle.clock_lines.specs.Readings.{reading_at}
use Rattle.hand_words.specs.Words.{unpack}
use Rattle.tick_reads.specs.declared.loads.Ask.{Ask}
use Rattle.tick_reads.specs.declared.loads.Load.{Load}
use Rattle.tick_reads.specs.declared.loads.Load.TheVariants.{Turn, Counter}
use Rattle.clock_logs.specs.Legal.{Way, full, quick, past, way_of}
use Rattle.tick_reads.specs.Ways.{reading}
use Rattle.tick_reads.specs.Looks.{full_mark, fields_from, look}
use Rattle.tick_reads.specs.Converts.{Converts}

-- the turn word of tick n, the fields of that tick, the counter, and the turn word once more
abbrev pub whole_loads : ℕ → List ℕ → ℕ → ℕ → List Load
whole_loads n fields c x = Turn (2 * n) ∷ fields_from n 0 fields ++ Counter c ∷ Turn x ∷ []

-- What the loads of a full read come to.
pub data ReadsWhole (k : Kind) : List Load → Entry → Type 0 where
  -- a windup stood open
  turn_open : (w : ℕ) → w % 2 ≡ 1 → ReadsWhole k (Turn w ∷ []) (Again k w w)
  -- a windup came between
  turn_moved : (n : ℕ) (fields : List ℕ) (c x : ℕ) → length fields ≡ 15 → x ≢ 2 * n → ReadsWhole k (whole_loads n fields c x) (Again k (2 * n) x)
  -- the turn word stood still
  turn_still : (n : ℕ) (fields : List ℕ) (c : ℕ) → length fields ≡ 15 → ReadsWhole k (whole_loads n fields c (2 * n)) (Read (reading_at (unpack fields) n k c))

-- a full read that succeeds: 2n, the fifteen fields of tick n, one counter, and 2n again
pub record StoodStill (k : Kind) (loads : List Load) (r : Reading) : Type 0 where
  pub n : ℕ
  pub fields : List ℕ
  pub counter : ℕ
  pub long : length fields ≡ 15
  pub loaded : loads ≡ whole_loads n fields counter (2 * n)
  pub is : r ≡ reading_at (unpack fields) n k counter

-- one that does not: its first turn value is odd, or its second one differs
abbrev pub Moved : List Load → ℕ → ℕ → Type 0
Moved loads first last = ((first % 2 ≡ 1) × (last ≡ first) × (loads ≡ Turn first ∷ [])) ⊎ ((first % 2 ≡ 0) × (last ≢ first))

-- What the loads of a fast read and of a difference come to, which need no counter.
pub data ReadsLight (ask : Ask) : List Load → Entry → Type 0 where
  -- the slot was taken for a later tick
  mark_moved : (w : ℕ) (fields : List ℕ) (x : ℕ) → length fields ≡ 15 → x ≢ full_mark (w / 2)
      → ReadsLight ask (Turn w ∷ look (w / 2) fields x) (Again ask.kind (full_mark (w / 2)) x)
  -- the mark stands
  mark_still : (w : ℕ) (fields : List ℕ) → length fields ≡ 15
      → ReadsLight ask (Turn w ∷ look (w / 2) fields (full_mark (w / 2))) (Read (reading ask (w / 2) (unpack fields) 0))

abbrev pub ReadsBy : Way → Ask → List Load → Entry → Type 0
ReadsBy full ask loads e = ReadsWhole ask.kind loads e
ReadsBy quick ask loads e = ReadsLight ask loads e
ReadsBy past ask loads e = (w : ℕ) × Converts ask.given w loads e

-- the loads of a call, which begin with the turn word, come to this entry
abbrev pub Reads : Ask → List Load → Entry → Type 0
Reads ask loads e = ReadsBy (way_of ask.kind) ask loads e

-- the kinds that are read at the counter
abbrev pub IsAtCounter : Kind → Type 0
IsAtCounter kind.Abs = ⊤
IsAtCounter kind.Mono = ⊤
IsAtCounter kind.Uptime = ⊤
IsAtCounter kind.Utc = ⊤
IsAtCounter kind.Fast = ⊥
IsAtCounter kind.Diff = ⊥
IsAtCounter kind.Back = ⊥
