-- What the loads of a call come to answers what the call asked.
use Rattle.std.proofs.Common.{ℕ, List, refl}
use Rattle.ff_hands.specs.declared.hands.Hands.{Hands}
use Rattle.clock_lines.specs.declared.readings.Kind.{Kind}
use Rattle.clock_lines.specs.declared.readings.Kind.TheVariants as kind
use Rattle.clock_lines.specs.declared.readings.Entry.{Entry}
use Rattle.clock_logs.specs.Attempts.{IsAnswerTo, IsGiven}
use Rattle.clock_logs.specs.Legal.{way_of}
use Rattle.tick_reads.specs.declared.loads.Ask.{Ask}
use Rattle.tick_reads.specs.declared.loads.Load.{Load}
use Rattle.tick_reads.specs.Converts.{Converts, moved, open_windup, not_yet, crossed, newest, older, oldest, too_old}
use Rattle.tick_reads.specs.Reads.{Reads, ReadsBy, ReadsLight, ReadsWhole, turn_open, turn_moved, turn_still, mark_moved, mark_still}
use Rattle.tick_reads.specs.Ways.{count_by}

whole-asked : (k : Kind) (given : ℕ) (loads : List Load) (e : Entry) → ((count : ℕ) → IsGiven k given count) → ReadsWhole k loads e → IsAnswerTo k given e
whole-asked k given loads e at (turn_open w odd) = refl
whole-asked k given loads e at (turn_moved n fields c x long other) = refl
whole-asked k given loads e at (turn_still n fields c long) = (refl, at c)

light-asked : (ask : Ask) (loads : List Load) (e : Entry) → ((h : Hands) → IsGiven ask.kind ask.given (count_by ask.kind ask.given h 0)) → ReadsLight
    ask loads e → IsAnswerTo ask.kind ask.given e
light-asked ask loads e at (mark_moved w fields x long other) = refl
light-asked ask loads e at (mark_still w fields long) = (refl, at _)

past-asked : (given w : ℕ) (loads : List Load) (e : Entry) → Converts given w loads e → IsAnswerTo kind.Back given e
past-asked given w loads e (moved ls fields m mark looks other) = refl
past-asked given w loads e (open_windup ls fields past odd) = refl
past-asked given w loads e (not_yet ls fields counter past even below) = (refl, refl)
past-asked given w loads e (crossed ls fields counter turn past even reached other) = refl
past-asked given w loads e (newest ls fields counter past even reached) = (refl, refl)
past-asked given w loads e (older ls fields m looks before below) = (refl, refl)
past-asked given w loads e (oldest ls fields looks not-below) = (refl, refl)
past-asked given w loads e (too_old ls fields m looks some at not-below) = (refl, refl)

by-kind : (k : Kind) (given : ℕ) (loads : List Load) (e : Entry) → ReadsBy (way_of k) (record { kind = k; given = given }) loads e → IsAnswerTo k given e
by-kind kind.Abs given loads e reads = whole-asked kind.Abs given loads e (λ count. tt) reads
by-kind kind.Mono given loads e reads = whole-asked kind.Mono given loads e (λ count. tt) reads
by-kind kind.Uptime given loads e reads = whole-asked kind.Uptime given loads e (λ count. tt) reads
by-kind kind.Utc given loads e reads = whole-asked kind.Utc given loads e (λ count. tt) reads
by-kind kind.Fast given loads e reads = light-asked (record { kind = kind.Fast; given = given }) loads e (λ h. tt) reads
by-kind kind.Diff given loads e reads = light-asked (record { kind = kind.Diff; given = given }) loads e (λ h. refl) reads
by-kind kind.Back given loads e reads = past-asked given reads.0 loads e reads.1

pub answers-ask : (ask : Ask) (loads : List Load) (e : Entry) → Reads ask loads e → IsAnswerTo ask.kind ask.given e
answers-ask ask loads e reads = by-kind ask.kind ask.given loads e reads
