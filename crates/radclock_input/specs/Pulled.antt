-- How an input is pulled: in pieces of at most 4,096 bytes, each worked through before the next pull, to its end or to
-- what stops it.
use Rattle.std.specs.Prelude.{◌≡◌, ℕ, ◌+◌, ◌^◌, ◌<◌, ⊤, List, [], ◌++◌, length, take, if◌then◌else◌, nat_lt, Option, None, Some, Result, Ok, Err}
use Rattle.rad_io.specs.Pulls.{Pulled, Pulls}
use Rattle.rad_io.specs.declared.Failed.{Failed}
use Rattle.report_text.specs.declared.lines.Limit.TheVariants as limit
use Rattle.radclock_input.specs.declared.stops.Stop.{Stop}
use Rattle.radclock_input.specs.declared.stops.Stop.TheVariants as stop

-- what one pull may give: from this source and room, this answer, room and source
abbrev pub PullGives : Type 0 → Type 1
PullGives S = S → List ℕ → Result ℕ Failed → List ℕ → S → Type 0

-- what stops an input, as far as its bytes tell
abbrev pub StopsIn : Type 0
StopsIn = List ℕ → Option Stop

abbrev pub first_stop : Option Stop → Option Stop → Option Stop
first_stop None later = later
first_stop (Some s) later = Some s

-- more bytes than are read
abbrev pub bytes_stop : ℕ → StopsIn
bytes_stop most text = if nat_lt most (length text) then Some (stop.Large limit.Bytes) else None

-- the first stop, in the order of the bytes, of an input that may go on, and of which so many bytes are read at most
unfoldable pub front_stop : ℕ → StopsIn → StopsIn
front_stop most within text = first_stop (within (take most text)) (bytes_stop most text)

-- the first stop, in the order of the bytes, of a whole input
unfoldable pub input_stop : ℕ → StopsIn → StopsIn → StopsIn
input_stop most within whole text = if nat_lt most (length text) then front_stop most within text else whole text

-- Why nothing is pulled behind a pull with this answer, where the text goes as far as its bytes
pub data StopsBehind (front whole : StopsIn) (text : List ℕ) : Result ℕ Failed → Option Stop → Type 0 where
  -- it failed, and took nothing
  broke_off : StopsBehind front whole text (Err (record {})) (Some (stop.Read (length text)))
  -- it found the end: nothing stops the whole input, or this does
  at_end : StopsBehind front whole text (Ok 0) (whole text)
  -- this stops the input within its bytes
  in_piece : (n : ℕ) (s : Stop) → 0 < n → front text ≡ Some s → StopsBehind front whole text (Ok n) (Some s)
  -- memory was wanting for what the text gives
  out_of_memory : (n : ℕ) → StopsBehind front whole text (Ok n) (Some stop.Memory)

-- A text is read by single pulls, each into a room of 4,096 bytes, to its end (`None`) or to what stops it
pub record ReadsTo {S : Type 0} (pull : PullGives S) (front_stops whole_stops : StopsIn) (old : S) (text : List ℕ) (s : Option Stop) (new : S) : Type 0 where
  -- the pulls but the last one, each of which gave bytes, and nothing in these stops the input
  pub front : List ℕ
  pub mid : S
  pub pulls : Pulls pull 4096 old front mid
  pub sound : front_stops front ≡ None
  -- the last one
  pub answer : Result ℕ Failed
  pub piece : List ℕ
  pub last : Pulled pull 4096 mid answer piece new
  pub sized : length last.filled ≡ 4096
  pub whole : text ≡ front ++ piece
  pub stops : StopsBehind front_stops whole_stops text answer s

-- a text is read to its end, and gives this
pub record ReadsAll {S W : Type 0} (pull : PullGives S) (front_stops whole_stops : StopsIn) (gives : List ℕ → W → Type 0) (old : S) (given : W) (new : S)
    : Type 0 where
  pub text : List ℕ
  pub reads : ReadsTo pull front_stops whole_stops old text None new
  pub sound : whole_stops text ≡ None
  pub gave : gives text given

-- a failed pull tells how many bytes were taken
abbrev pub IsTaken : Stop → List ℕ → Type 0
IsTaken stop.Memory text = ⊤
IsTaken (stop.Read taken) text = taken ≡ length text
IsTaken (stop.Fault f) text = ⊤
IsTaken (stop.Large l) text = ⊤
IsTaken (stop.Capture f) text = ⊤

-- a text is read up to this stop
pub record ReadsUpTo {S : Type 0} (pull : PullGives S) (front_stops whole_stops : StopsIn) (old : S) (s : Stop) (new : S) : Type 0 where
  pub text : List ℕ
  pub reads : ReadsTo pull front_stops whole_stops old text (Some s) new
  pub taken : IsTaken s text

-- want of memory, or a stop of the input with this property
abbrev pub IsInputStop : Stop → Type 0 → Type 0
IsInputStop stop.Memory P = Unit {0}
IsInputStop (stop.Read taken) P = ⊥
IsInputStop (stop.Fault f) P = P
IsInputStop (stop.Large l) P = P
IsInputStop (stop.Capture f) P = P

-- a value has read a text, and nothing in it stops
pub record HasRead {R I : Type 0} (within : R → StopsIn) (reads : R → I → List ℕ → Type 0) (rules : R) (intake : I) (text : List ℕ) : Type 0 where
  pub read : reads rules intake text
  pub sound : within rules text ≡ None

-- a value has read a text, behind which so many bytes may come
pub record CanRead {R I : Type 0} (reads : R → I → List ℕ → Type 0) (intake : I) (more : ℕ) : Type 0 where
  pub rules : R
  pub text : List ℕ
  pub short : length text + more < 2 ^ 62
  pub read : reads rules intake text

-- what holds of a value and of each text that it may have read, behind which so many bytes may come
abbrev pub OfAllRead : {R I : Type 0} → (R → I → List ℕ → Type 0) → I → ℕ → (R → List ℕ → Type 0) → Type 0
OfAllRead {R} reads intake more P = (rules : R) (text : List ℕ) → length text + more < 2 ^ 62 → reads rules intake text → P rules text
