-- The words of a report: each kind of them as a table, which is read from its first row on.
use Rattle.std.specs.Prelude.{ℕ, true, false, if◌then◌else◌, List, [], ◌∷◌, codes}
use Rattle.ff_hands.specs.declared.estimates.Marks.{Marks}
use Rattle.ff_hands.specs.declared.hands.How.{How}
use Rattle.ff_hands.specs.declared.hands.How.TheVariants as how
use Rattle.stamp_text.specs.declared.accepts.Refused.{Refused}
use Rattle.stamp_text.specs.declared.accepts.Refused.TheVariants as refused
use Rattle.clock_lines.specs.declared.readings.Kind.{Kind}
use Rattle.clock_lines.specs.declared.readings.Kind.TheVariants as kind
use Rattle.journal_check.specs.Reading.{Reader, either_at, choice_at}

abbrev pub how_name : How → List ℕ
how_name how.Cold = codes "cold"
how_name how.Plain = codes "plain"
how_name how.Take = codes "take"
how_name how.Jump = codes "jump"
how_name how.Reset = codes "reset"

abbrev pub how_table : List (List ℕ × How)
how_table = (codes "plain", how.Plain) ∷ (codes "take", how.Take) ∷ (codes "jump", how.Jump) ∷ (codes "reset", how.Reset) ∷ (codes "cold", how.Cold) ∷ []

abbrev pub how_at : Reader How
how_at = choice_at how_table

abbrev pub kind_name : Kind → List ℕ
kind_name kind.Abs = codes "abs"
kind_name kind.Mono = codes "mono"
kind_name kind.Uptime = codes "uptime"
kind_name kind.Fast = codes "fast"
kind_name kind.Diff = codes "diff"
kind_name kind.Back = codes "back"
kind_name kind.Utc = codes "utc"

abbrev pub kind_table : List (List ℕ × Kind)
kind_table = (codes "abs", kind.Abs) ∷ (codes "mono", kind.Mono) ∷ (codes "uptime", kind.Uptime) ∷ (codes "fast", kind.Fast) ∷ (codes "diff", kind.Diff) ∷ (codes "back", kind.Back) ∷ (codes "utc", kind.Utc) ∷ []

abbrev pub kind_at : Reader Kind
kind_at = choice_at kind_table

abbrev pub refused_name : Refused → List ℕ
refused_name refused.Backward = codes "backward"
refused_name refused.ServerBackward = codes "server-backward"
refused_name refused.Overlap = codes "overlap"
refused_name refused.ServerOld = codes "server-old"
refused_name refused.LongTrip = codes "long-trip"
refused_name refused.Acausal = codes "acausal"
refused_name refused.Unsynchronised = codes "unsynchronised"
refused_name refused.BeforeSet = codes "before-set"
refused_name refused.SetOld = codes "set-old"
refused_name refused.LeapOld = codes "leap-old"
refused_name refused.LeapPending = codes "leap-pending"
refused_name refused.LeapUnannounced = codes "leap-unannounced"
refused_name refused.LeapLimit = codes "leap-limit"

-- of a stamp that is tested by its times alone, and of all others
abbrev pub stamp_refusals : List (List ℕ × Refused)
stamp_refusals = (codes "backward", refused.Backward) ∷ (codes "server-backward", refused.ServerBackward) ∷ (codes "overlap", refused.Overlap) ∷ (codes "server-old", refused.ServerOld) ∷ (codes "long-trip", refused.LongTrip) ∷ (codes "acausal", refused.Acausal) ∷ []

abbrev pub item_refusals : List (List ℕ × Refused)
item_refusals = (codes "unsynchronised", refused.Unsynchronised) ∷ (codes "before-set", refused.BeforeSet) ∷ (codes "set-old", refused.SetOld) ∷ (codes "leap-old", refused.LeapOld) ∷ (codes "leap-pending", refused.LeapPending) ∷ (codes "leap-unannounced", refused.LeapUnannounced) ∷ (codes "leap-limit", refused.LeapLimit) ∷ []

abbrev pub refused_at : Reader Refused
refused_at = either_at (choice_at stamp_refusals) (choice_at item_refusals)

abbrev pub marks_name : Marks → List ℕ
marks_name m =
    if m.unsync then (if m.warmup then codes "UW" else codes "U")
    else (if m.warmup then codes "W" else codes "-")

-- of two words that begin alike the longer one stands first
abbrev pub marks_table : List (List ℕ × Marks)
marks_table = (codes "-", record { unsync = false; warmup = false }) ∷ (codes "UW", record { unsync = true; warmup = true }) ∷ (codes "U", record { unsync = true; warmup = false }) ∷ (codes "W", record { unsync = false; warmup = true }) ∷ []

abbrev pub marks_at : Reader Marks
marks_at = choice_at marks_table
