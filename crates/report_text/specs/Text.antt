-- The lines of a report and of a made stamp file, byte by byte.
use Rattle.std.specs.Prelude.{ℕ, ℤ, ◌-◌, Bool, if◌then◌else◌, ◌==◌, List, [], ◌++◌, length, replicate, Option, None, Some, codes, decimal}
use Rattle.std.specs.Fmt.{signed_decimal}
use Rattle.stamp_text.specs.declared.lines.Why.{Why}
use Rattle.stamp_text.specs.declared.lines.Why.TheVariants as why
use Rattle.stamp_text.specs.declared.lines.Stamp.{Stamp}
use Rattle.stamp_text.specs.declared.accepts.Refused.{Refused}
use Rattle.stamp_text.specs.declared.accepts.Refused.TheVariants as refused
use Rattle.ff_grain.specs.declared.bintime.Bintime.{Bintime}
use Rattle.rtt_window.specs.declared.bases.Base.{Base}
use Rattle.ff_hands.specs.declared.estimates.Estimate.{Estimate}
use Rattle.ff_hands.specs.declared.estimates.Marks.{Marks}
use Rattle.ff_hands.specs.declared.hands.Hands.{Hands}
use Rattle.ff_hands.specs.declared.hands.How.{How}
use Rattle.ff_hands.specs.declared.hands.How.TheVariants as how
use Rattle.ff_estimator.specs.declared.fulls.Full.{Full}
use Rattle.clock_lines.specs.declared.readings.Kind.{Kind}
use Rattle.clock_lines.specs.declared.readings.Kind.TheVariants as kind
use Rattle.clock_lines.specs.declared.readings.Reading.{Reading}
use Rattle.clock_lines.specs.declared.readings.Entry.{Entry}
use Rattle.clock_lines.specs.declared.readings.Entry.TheVariants as entry
use Rattle.callouts.specs.declared.timers.Fired.{Fired}
use Rattle.stamp_maker.specs.declared.made.Made.{Made}
use Rattle.ntp_capture.specs.declared.pieces.CapWhy.{CapWhy}
use Rattle.ntp_capture.specs.declared.pieces.CapWhy.TheVariants as capture_why
use Rattle.report_text.specs.declared.lines.ReportHead.{ReportHead}
use Rattle.report_text.specs.declared.lines.ReportHead.TheVariants as head
use Rattle.report_text.specs.declared.lines.EndCounts.{EndCounts}
use Rattle.report_text.specs.declared.lines.Summary.{Summary}
use Rattle.report_text.specs.declared.lines.Limit.{Limit}
use Rattle.report_text.specs.declared.lines.Limit.TheVariants as limit
use Rattle.report_text.specs.declared.lines.FaultText.{FaultText}
use Rattle.report_text.specs.declared.lines.FaultText.TheVariants as fault

-- a time: its seconds with their sign, and its grains below one second
abbrev pub time_text : Bintime → List ℕ
time_text t = signed_decimal t.sec ++ codes "+" ++ decimal t.frac

-- a word where it is so
abbrev pub mark_text : List ℕ → Bool → List ℕ
mark_text word b = if b then word else []

-- a word and a number, where there is one
abbrev pub count_text : List ℕ → Option ℕ → List ℕ
count_text word None = []
count_text word (Some n) = word ++ decimal n

-- which version the stamp file has, where it is not the first
abbrev pub version_part : ℕ → List ℕ
version_part version = mark_text (codes " version 2") (version == 2)

-- which flags a replay has
unfoldable pub flags_part : Bool → Bool → Bool → Bool → List ℕ
flags_part back crank utc lane = mark_text (codes " back") back ++ mark_text (codes " crank") crank ++ mark_text (codes " utc") utc
    ++ mark_text (codes " lane") lane

-- how many ticks, readers and attempts of each a replay has, and which flags
unfoldable pub options_part : ℕ → ℕ → ℕ → Bool → Bool → Bool → Bool → List ℕ
options_part ticks readers reads back crank utc lane = codes " ticks " ++ decimal ticks ++ codes " readers " ++ decimal readers ++ codes " reads "
    ++ decimal reads ++ flags_part back crank utc lane

-- the first line of a report
unfoldable pub head_text : ReportHead → List ℕ
head_text (head.Stamps freq version) = codes "report stamps freq " ++ decimal freq ++ version_part version ++ codes "\n"
head_text (head.Rtt freq version) = codes "report rtt freq " ++ decimal freq ++ version_part version ++ codes "\n"
head_text (head.Estimate freq version) = codes "report estimate freq " ++ decimal freq ++ version_part version ++ codes "\n"
head_text (head.Ticks freq ticks timers version) = codes "report ticks freq " ++ decimal freq ++ codes " ticks " ++ decimal ticks
    ++ count_text (codes " timers ") timers ++ version_part version ++ codes "\n"
head_text (head.Replay freq ticks readers reads back crank utc lane version) = codes "report replay freq " ++ decimal freq
    ++ options_part ticks readers reads back crank utc lane ++ version_part version ++ codes "\n"
head_text (head.Run number count ideal) = codes "report run number " ++ decimal number ++ codes " count " ++ decimal count
    ++ mark_text (codes " ideal") ideal ++ codes "\n"

-- what a stamp of version 2 says of its server: the stratum, and what it says of a leap second
unfoldable pub server_part : ℕ → Stamp → List ℕ
server_part version s = mark_text (codes " " ++ decimal s.stratum ++ codes " " ++ decimal s.leap) (version == 2)

-- the line of an accepted stamp, with its round trip
unfoldable pub stamp_text : ℕ → Stamp → ℕ → List ℕ
stamp_text i s version = codes "stamp " ++ decimal i ++ codes " " ++ decimal s.ta ++ codes " " ++ time_text s.tb ++ codes " " ++ time_text s.te
    ++ codes " " ++ decimal s.tf ++ codes " " ++ decimal (s.tf - s.ta) ++ server_part version s ++ codes "\n"

-- 1 where it is so, and 0 where it is not
abbrev pub flag_text : Bool → List ℕ
flag_text b = if b then codes "1" else codes "0"

-- the line of an accepted stamp with its round trip, and what is said of the base
unfoldable pub base_text : ℕ → ℕ → Base → List ℕ
base_text i rtt b = codes "base " ++ decimal i ++ codes " " ++ decimal rtt ++ codes " " ++ decimal b.base ++ codes " " ++ decimal b.start
    ++ codes " " ++ flag_text b.shifted ++ codes "\n"

-- the letters of the marks that are set, or a dash
abbrev pub marks_text : Marks → List ℕ
marks_text m =
    if m.unsync then (if m.warmup then codes "UW" else codes "U")
    else (if m.warmup then codes "W" else codes "-")

-- a letter where it is so, and a dash where it is not
abbrev pub letter_text : List ℕ → Bool → List ℕ
letter_text letter b = if b then letter else codes "-"

-- an estimate: the time at a count, the period, their errors, and the marks
unfoldable pub time_part : Estimate → List ℕ
time_part e = decimal e.update_ffcount ++ codes " " ++ time_text e.update_time ++ codes " " ++ decimal e.period ++ codes " " ++ decimal e.errb_abs
    ++ codes " " ++ decimal e.errb_rate ++ codes " " ++ marks_text e.status

-- what stands behind it: the spread, the bounds of the period, and the flags
unfoldable pub spread_part : Full → List ℕ
spread_part f = decimal f.spread ++ codes " " ++ decimal f.rate.low ++ codes " " ++ decimal f.rate.high ++ codes " "
    ++ letter_text (codes "S") f.shifted ++ letter_text (codes "L") f.local ++ letter_text (codes "P") f.predicted

-- leap seconds: when the next one is due, how many there were, and which it is
unfoldable pub leap_part : Estimate → List ℕ
leap_part e = decimal e.leapsec_next ++ codes " " ++ signed_decimal e.leapsec_total ++ codes " " ++ signed_decimal e.leapsec

-- those of an estimate of version 2
unfoldable pub told_leaps_part : ℕ → Estimate → List ℕ
told_leaps_part version e = mark_text (codes " " ++ leap_part e) (version == 2)

-- the line of an accepted stamp with its estimate
unfoldable pub estimate_text : ℕ → Full → ℕ → List ℕ
estimate_text i f version = codes "estimate " ++ decimal i ++ codes " " ++ time_part f.est ++ codes " " ++ spread_part f
    ++ told_leaps_part version f.est ++ codes "\n"

-- the line of an accepted set, with its count and its time
unfoldable pub set_text : ℕ → Bintime → List ℕ
set_text count at = codes "set " ++ decimal count ++ codes " " ++ time_text at ++ codes "\n"

-- the line of an accepted leap second, with its count and its sign
unfoldable pub leap_text : ℕ → ℤ → List ℕ
leap_text count leap = codes "leap " ++ decimal count ++ codes " " ++ signed_decimal leap ++ codes "\n"

abbrev pub how_name : How → List ℕ
how_name how.Cold = codes "cold"
how_name how.Plain = codes "plain"
how_name how.Take = codes "take"
how_name how.Jump = codes "jump"
how_name how.Reset = codes "reset"

-- where the clocks stand: how they came there, the count, the absolute and the uninterrupted clock
-- with its slope, the boot time, and the marks
unfoldable pub clock_part : Hands → List ℕ
clock_part h = how_name h.how ++ codes " " ++ decimal h.count ++ codes " " ++ time_text h.time ++ codes " " ++ time_text h.lerp ++ codes " "
    ++ decimal h.period_lerp ++ codes " " ++ time_text h.boot ++ codes " " ++ marks_text h.kstatus

-- the estimate that they go by
unfoldable pub given_part : Estimate → List ℕ
given_part e = time_text e.update_time ++ codes " " ++ decimal e.update_ffcount ++ codes " " ++ decimal e.period ++ codes " " ++ decimal e.errb_abs
    ++ codes " " ++ decimal e.errb_rate ++ codes " " ++ marks_text e.status

-- the line of a tick of a journal
unfoldable pub tick_text : ℕ → Hands → List ℕ
tick_text n h = codes "tick " ++ decimal n ++ codes " " ++ clock_part h ++ codes " " ++ given_part h.est ++ codes " " ++ leap_part h.est ++ codes "\n"

-- the line of a timer that fires at a tick: its id, and the uptime that it was due at
unfoldable pub fire_text : ℕ → Fired → List ℕ
fire_text tick f = codes "fire " ++ decimal tick ++ codes " " ++ decimal f.id ++ codes " " ++ time_text f.due ++ codes "\n"

abbrev pub refused_name : Refused → List ℕ
refused_name refused.Backward = codes "backward"
refused_name refused.ServerBackward = codes "server-backward"
refused_name refused.Overlap = codes "overlap"
refused_name refused.ServerOld = codes "server-old"
refused_name refused.LongTrip = codes "long-trip"
refused_name refused.Acausal = codes "acausal"
refused_name refused.Unsynchronised = codes "unsynchronised"
refused_name refused.BeforeSet = codes "before-set"
refused_name refused.SetOld = codes "set-old"
refused_name refused.LeapOld = codes "leap-old"
refused_name refused.LeapPending = codes "leap-pending"
refused_name refused.LeapUnannounced = codes "leap-unannounced"
refused_name refused.LeapLimit = codes "leap-limit"

-- the line of a refused item
unfoldable pub refused_text : ℕ → Refused → List ℕ
refused_text line why = codes "refused " ++ decimal line ++ codes " " ++ refused_name why ++ codes "\n"

abbrev pub kind_name : Kind → List ℕ
kind_name kind.Abs = codes "abs"
kind_name kind.Mono = codes "mono"
kind_name kind.Uptime = codes "uptime"
kind_name kind.Fast = codes "fast"
kind_name kind.Diff = codes "diff"
kind_name kind.Back = codes "back"
kind_name kind.Utc = codes "utc"

-- the reader and the number of an attempt
unfoldable pub attempt_part : ℕ → ℕ → List ℕ
attempt_part reader k = decimal reader ++ codes " " ++ decimal k ++ codes " "

-- a reading: its kind, its tick, the count that it is at, the time, and the bound
unfoldable pub reading_part : Reading → List ℕ
reading_part r = kind_name r.kind ++ codes " " ++ decimal r.tick ++ codes " " ++ decimal r.count ++ codes " " ++ time_text r.time ++ codes " "
    ++ decimal r.bound

-- the line of an attempt of a reader, both counted from 0: what the attempt came to
unfoldable pub entry_text : ℕ → ℕ → Entry → List ℕ
entry_text reader k (entry.Read r) = codes "read " ++ attempt_part reader k ++ reading_part r ++ codes "\n"
entry_text reader k (entry.Again kind first last) = codes "again " ++ attempt_part reader k ++ kind_name kind ++ codes " " ++ decimal first
    ++ codes " " ++ decimal last ++ codes "\n"
entry_text reader k (entry.TooOld count oldest) = codes "old " ++ attempt_part reader k ++ decimal count ++ codes " " ++ decimal oldest ++ codes "\n"
entry_text reader k (entry.Ahead count at) = codes "ahead " ++ attempt_part reader k ++ decimal count ++ codes " " ++ decimal at ++ codes "\n"

-- the line of a summary
unfoldable pub summary_text : Summary → List ℕ
summary_text s = codes "summary accepted " ++ decimal s.accepted ++ codes " refused " ++ decimal s.refused ++ codes " shifts " ++ decimal s.shifts
    ++ codes " predicted " ++ decimal s.predicted ++ codes " local " ++ decimal s.local ++ codes "\n"

-- the line of a tick, with its distance from the truth and the bound that is told of it
unfoldable pub ideal_text : ℕ → ℕ → ℕ → List ℕ
ideal_text tick distance bound = codes "ideal " ++ decimal tick ++ codes " " ++ decimal distance ++ codes " " ++ decimal bound ++ codes "\n"

-- the last line of a report
unfoldable pub end_text : EndCounts → List ℕ
end_text e = codes "end accepted " ++ decimal e.accepted ++ codes " refused " ++ decimal e.refused ++ count_text (codes " ticks ") e.ticks
    ++ count_text (codes " entries ") e.entries ++ count_text (codes " fired ") e.fired ++ codes "\n"

abbrev pub why_name : Why → List ℕ
why_name why.Head = codes "head"
why_name why.Freq = codes "freq"
why_name why.Columns = codes "columns"
why_name why.Digits = codes "digits"
why_name why.Range = codes "range"
why_name why.LongLine = codes "long-line"

abbrev pub limit_name : Limit → List ℕ
limit_name limit.Bytes = codes "bytes"
limit_name limit.Stamps = codes "stamps"
limit_name limit.Accepted = codes "accepted"

abbrev pub capture_why_name : CapWhy → List ℕ
capture_why_name capture_why.Head = codes "head"
capture_why_name capture_why.Freq = codes "freq"
capture_why_name capture_why.Counter = codes "counter"
capture_why_name capture_why.Direction = codes "direction"
capture_why_name capture_why.Short = codes "short"
capture_why_name capture_why.Cut = codes "cut"

-- the one line of a run that ends with a fault
unfoldable pub fault_text : FaultText → List ℕ
fault_text fault.Usage = codes "fault usage\n"
fault_text (fault.Input f) = codes "fault input " ++ decimal f.line ++ codes " " ++ why_name f.why ++ codes "\n"
fault_text (fault.Large l) = codes "fault large " ++ limit_name l ++ codes "\n"
fault_text (fault.Read taken) = codes "fault read " ++ decimal taken ++ codes "\n"
fault_text fault.Memory = codes "fault memory\n"
fault_text (fault.Capture f) = codes "fault capture " ++ decimal f.at ++ codes " " ++ capture_why_name f.why ++ codes "\n"

-- nanoseconds below 10^9, in nine digits with leading zeros
abbrev pub nanos_text : ℕ → List ℕ
nanos_text nanos = replicate (9 - length (decimal nanos)) 48 ++ decimal nanos

-- a time of a stamp file: its seconds, and the nanoseconds above them behind a point
abbrev pub written_text : ℕ × ℕ → List ℕ
written_text t = decimal t.0 ++ codes "." ++ nanos_text t.1

-- what a stamp file says of a made stamp
unfoldable pub made_row : Made → List ℕ
made_row m = decimal m.ta ++ codes " " ++ written_text m.tb ++ codes " " ++ written_text m.te ++ codes " " ++ decimal m.tf

-- its line of a stamp file
unfoldable pub made_text : Made → List ℕ
made_text m = made_row m ++ codes "\n"
