-- What follows of a run in bytes and in counts of faults.
use Rattle.std.proofs.Common.{◌≡◌, ◌⊎◌, ℕ, Bool, List, [], ◌∷◌, ◌++◌, Option, None, Some, Result, Ok, Err, length, take, refl, sym, ap, ◌∙◌, subst, arith, append-nil, inl, inr}
use Rattle.std.specs.List.{concat}
use Rattle.std.specs.Io.KnownBytes.{Appends, Consumes, IsAtEnd, ReadConsumes}
use Rattle.std.proofs.KnownBytes.{Consumes-trans, Consumes-kept}
use Rattle.rad_io.specs.Blocks.{Short}
use Rattle.rad_io.specs.Bytes.{PushAppends}
use Rattle.rad_io.specs.Calls.{EachRead, EachWrite}
use Rattle.rad_io.specs.Causes.{Rose, HasCause}
use Rattle.rad_io.specs.Pulls.{Pulled, Pulls, no_pull, Took}
use Rattle.rad_io.specs.Pulls as pulls
use Rattle.rad_io.specs.Pushes.{Pushes, no_push, Wrote}
use Rattle.rad_io.specs.Pushes as pushes
use Rattle.rad_io.specs.declared.Failed.{Failed}
use Rattle.rad_io.proofs.Chains.{took_nothing, took_more, wrote_nothing, wrote_more}
use Rattle.clock_words.specs.declared.commands.Command.{Command}
use Rattle.clock_words.specs.declared.commands.Command.TheVariants as command
use Rattle.clock_words.specs.declared.commands.Report.{Report}
use Rattle.clock_words.specs.declared.commands.Report.TheVariants as report
use Rattle.ff_hands.specs.Windups.{cold}
use Rattle.tick_desk.specs.Shows.{PenShows}
use Rattle.tick_desk.specs.declared.desk.Desk.{Desk}
use Rattle.replay_run.specs.declared.plan.Options.{Options}
use Rattle.ideal_world.specs.declared.deviations.Deviation.{Deviation}
use Rattle.radclock_input.specs.Captured.{capture_so_far, stop_of_packets}
use Rattle.radclock_input.specs.Inputs.{stop_so_far, stop_of_file, freq_of_file, items_of_file}
use Rattle.radclock_input.specs.Pulled.{PullGives, StopsIn, ReadsTo, StopsBehind, broke_off, at_end, in_piece, out_of_memory}
use Rattle.radclock_run.specs.Asks.{takes_few}
use Rattle.radclock_run.specs.MadeRuns.{run_by}
use Rattle.radclock_run.specs.Endings.{Leaves, replay_by}
use Rattle.radclock_run.specs.Runs.{PushGives, ByLines, ByBlocks, Writing, Headline, Holds, HoldsDone, HoldsShort, IsDue, Ran, done_lines, ends_with, lines_due, status_due}
use Rattle.radclock_run.specs.InBytes.{WasRead, WasConverted, WasDone, reported, converted, filed, summarised, HeadlineInBytes, RunInBytes, TruthInBytes, MakesNone, WasFree}
use Rattle.radclock_run.specs.Statuses.{status_by}
use Rattle.radclock_run.specs.Replays.{MadeTruth}
use Rattle.radclock_input.specs.declared.stops.Stop.{Stop}
use Rattle.radclock_run.specs.declared.ran.Asked.{Asked}
use Rattle.radclock_run.specs.declared.status.Status.{Status}
use Rattle.radclock_run.specs.declared.status.Status.TheVariants as status
use Rattle.radclock_input.proofs.PacketLaws.{is-sound-capture, stop_of_packets-stays}
use Rattle.radclock_input.proofs.Sound.{is-sound}
use Rattle.radclock_input.proofs.Stopping.{stop_of_file-stays}
use Rattle.radclock_run.proofs.NotDone.{not-done}

-- a count that is free did not rise
not-rose : (before now : ℕ) → WasFree before now → Rose before now → ⊥
not-rose before now free rose = omega (arith, free.same, free.below)

-- what was taken from a told input
taken-all : (old new : Option (List ℕ)) (text all : List ℕ) → old ≡ Some all → Consumes old new text → (rest : List ℕ) × (all ≡ text ++ rest)
taken-all None new text all told h = absurd (cc)
taken-all (Some xs) None text all told h = absurd h
taken-all (Some xs) (Some ys) text all told h = (ys, (let e : all ≡ xs = cc in e) ∙ h)

-- what was taken from a told input to its end
taken-whole : (old new : Option (List ℕ)) (text all : List ℕ) → old ≡ Some all → Consumes old new text → IsAtEnd new → all ≡ text
taken-whole None new text all told h ended = absurd (cc)
taken-whole (Some xs) None text all told h ended = absurd h
taken-whole (Some xs) (Some ys) text all told h ended = (let e : all ≡ xs = cc in e) ∙ h ∙ ap (λ (r : List ℕ). text ++ r) ended ∙ append-nil text

-- a status that is Done is that of a whole input
whole-done : (s : Option Stop) → status_by s ≡ status.Done → s ≡ None
whole-done None e = refl
whole-done (Some s) e = absurd (not-done s e)

-- a whole input was read to its end
read-whole : (front whole : StopsIn) (text : List ℕ) (answer : Result ℕ Failed) (s : Option Stop) → StopsBehind front whole text answer s → s ≡ None
    → (answer ≡ Ok 0) × (whole text ≡ None)
read-whole front whole text answer s broke_off e = absurd (cc)
read-whole front whole text answer s at_end e = (refl, e)
read-whole front whole text answer s (in_piece n t some found) e = absurd (cc)
read-whole front whole text answer s (out_of_memory n) e = absurd (cc)

-- where all lines went out, the status is the one that was due
went-out : (due result : Status) (answer : Result (Unit {0}) Failed) → result ≡ ends_with due answer → result ≡ status.Done → (answer ≡ Ok tt)
    × (due ≡ status.Done)
went-out due result (Ok o) e is = (refl, sym e ∙ is)
went-out due result (Err x) e is = absurd (cc)

-- what a report leaves, by the headline and the desk
pub leaves-by : (r : Report) (text : List ℕ) (told : Option Deviation) (old new : Desk) → Headline (Some (command.Report r)) text told new.pen
    → HoldsDone (Some (command.Report r)) old new → Leaves r (freq_of_file text) (items_of_file text) old new
leaves-by report.Stamps text told old new line holds = holds
leaves-by report.Rtt text told old new line holds = holds
leaves-by report.Estimate text told old new line holds = holds
leaves-by (report.Ticks ticks timers) text told old new line holds = holds
leaves-by (report.Replay ticks readers reads back crank utc lane) text told old new line holds = line

module _ {S : Type 0} (left : S → Option (List ℕ)) (faults : S → ℕ) (pull : PullGives S)
    (consumes : EachRead pull (λ old new r room. ReadConsumes (left old) (left new) r room))
    (cause : EachRead pull (λ old new r room. HasCause (faults old) (faults new) r)) where
  pub took-by : (size : ℕ) (old : S) (text : List ℕ) (new : S) → Pulls pull size old text new → Took left faults pull size old text new
  took-by size old text new no_pull = took_nothing left faults pull size old
  took-by size old text new (pulls.one_more front piece n mid end before some last) =
      subst (λ (bs : List ℕ). Took left faults pull size old (front ++ bs) new) (sym last.front)
      (took_more left faults pull size old mid new front last.room last.filled n (consumes mid new last.room last.filled (Ok n) last.gives)
      (cause mid new last.room last.filled (Ok n) last.gives) (took-by size old front mid before) some last.sized last.gives)

  piece-bytes : (old mid new : S) (front piece : List ℕ) (answer : Result ℕ Failed) → Consumes (left old) (left mid) front
      → Pulled pull 4096 mid answer piece new → Consumes (left old) (left new) (front ++ piece)
  piece-bytes old mid new front piece (Ok n) before last =
      subst (λ (bs : List ℕ). Consumes (left old) (left new) (front ++ bs)) (sym last.front)
      (Consumes-trans (left old) (left mid) (left new) front (take n last.filled) before (consumes mid new last.room last.filled (Ok n) last.gives).0)
  piece-bytes old mid new front piece (Err e) before last =
      subst (Consumes (left old) (left new)) (sym (append-nil front) ∙ ap (λ (bs : List ℕ). front ++ bs) (sym last.front))
      (Consumes-kept (left old) (left mid) (left new) front before (consumes mid new last.room last.filled (Err e) last.gives))

  -- the bytes of a text were taken from what was left
  pub read-bytes : (front whole : StopsIn) (old : S) (text : List ℕ) (s : Option Stop) (new : S) → ReadsTo pull front whole old text s new
      → Consumes (left old) (left new) text
  read-bytes front whole old text s new reads =
      subst (Consumes (left old) (left new)) (sym reads.whole) (piece-bytes old reads.mid new reads.front reads.piece reads.answer
      (took-by 4096 old reads.front reads.mid reads.pulls).bytes reads.last)

  -- at the end nothing is left
  pub end-bytes : (mid new : S) (piece : List ℕ) (answer : Result ℕ Failed) (last : Pulled pull 4096 mid answer piece new) → length last.filled
      ≡ 4096 → answer ≡ Ok 0 → IsAtEnd (left new)
  end-bytes mid new piece (Ok n) last full is =
      let none : n ≡ 0 = cc in
      (consumes mid new last.room last.filled (Ok n) last.gives).1 none (omega (arith, full))
  end-bytes mid new piece (Err e) last full is = absurd (cc)

  -- the count rose at a pull that failed alone
  pull-rose : (old mid new : S) (room filled : List ℕ) (e : Failed) → faults mid ≡ faults old → pull mid room (Err e) filled new
      → Rose (faults old) (faults new)
  pull-rose old mid new room filled e same gives =
      let here = cause mid new room filled (Err e) gives in
      omega (arith, here.failed, same)

  -- the input alone stops a reading of a told input that counts no fault, or want of memory
  stop-by : (front whole : StopsIn) → ((text more : List ℕ) (s : Stop) → front text ≡ Some s → whole (text ++ more) ≡ Some s)
      → (old mid new : S) (text piece all : List ℕ) (answer : Result ℕ Failed) (s : Option Stop) → left old ≡ Some all
      → WasFree (faults old) (faults new) → Consumes (left old) (left new) text → faults mid ≡ faults old
      → (last : Pulled pull 4096 mid answer piece new) → length last.filled ≡ 4096
      → StopsBehind front whole text answer s → (status_by s ≡ status_by (whole all)) ⊎ (status_by s ≡ status.NoMemory)
  stop-by front whole stays old mid new text piece all answer s told free bytes same last full broke_off =
      absurd (not-rose (faults old) (faults new) free (pull-rose old mid new last.room last.filled (record {}) same last.gives))
  stop-by front whole stays old mid new text piece all answer s told free bytes same last full at_end =
      inl (ap (λ t. status_by (whole t)) (sym (taken-whole (left old) (left new) text all told bytes (end-bytes mid new piece (Ok 0) last full refl))))
  stop-by front whole stays old mid new text piece all answer s told free bytes same last full (in_piece n t some found) =
      let rest = taken-all (left old) (left new) text all told bytes in
      inl (ap status_by (sym (ap whole rest.1 ∙ stays text rest.0 t found)))
  stop-by front whole stays old mid new text piece all answer s told free bytes same last full (out_of_memory n) = inr refl

  pub read-stops : (front whole : StopsIn) → ((text more : List ℕ) (s : Stop) → front text ≡ Some s → whole (text ++ more) ≡ Some s)
      → (old : S) (text : List ℕ) (s : Option Stop) (new : S) (all : List ℕ) → ReadsTo pull front whole old text s new
      → left old ≡ Some all → WasFree (faults old) (faults new) → (status_by s ≡ status_by (whole all)) ⊎ (status_by s ≡ status.NoMemory)
  read-stops front whole stays old text s new all reads told free =
      stop-by front whole stays old reads.mid new text reads.piece all reads.answer s told free (read-bytes front whole old text s new reads)
      (took-by 4096 old reads.front reads.mid reads.pulls).same reads.last reads.sized reads.stops

module _ {K : Type 0} (written : K → Option (List ℕ)) (faults : K → ℕ) (push : PushGives K)
    (appends : EachWrite push (λ old new piece r. PushAppends (written old) (written new) r piece))
    (cause : EachWrite push (λ old new piece r. HasCause (faults old) (faults new) r)) where
  pub wrote-by : (old : K) (pieces : List (List ℕ)) (new : K) → Pushes push old pieces new → Wrote written faults push old pieces new
  wrote-by old pieces new no_push = wrote_nothing written faults push old
  wrote-by old pieces new (pushes.one_more front piece mid end before gives) =
      wrote_more written faults push old mid new front piece (appends mid new piece (Ok tt) gives) (cause mid new piece (Ok tt) gives)
      (wrote-by old front mid before) gives

  -- what goes out by lines, or in blocks, is appended, and a push that fails is counted
  pub lines-append : (old : K) (lines : List (List ℕ)) (new : K) → ByLines push old lines (Ok tt) new → Appends (written old) (written new) (concat lines)
  lines-append old lines new out = (wrote-by old lines new out).bytes

  pub lines-rose : (old : K) (lines : List (List ℕ)) (new : K) → ByLines push old lines (Err (record {})) new → Rose (faults old) (faults new)
  lines-rose old lines new out =
      let before = wrote-by old out.front out.mid out.pushes in
      let here = cause out.mid new out.failed (Err (record {})) out.last in
      omega (arith, here.failed, before.same)

module _ {K : Type 0} (written : K → Option (List ℕ)) (faults : K → ℕ) (push : PushGives K)
    (appends : EachWrite push (λ old new piece r. PushAppends (written old) (written new) r piece))
    (cause : EachWrite push (λ old new piece r. HasCause (faults old) (faults new) r)) where
  pub blocks-append : (old : K) (lines : List (List ℕ)) (new : K) → ByBlocks push old lines (Ok tt) new → Appends (written old) (written new) (concat lines)
  blocks-append old lines new out =
      subst (Appends (written old) (written new)) out.bytes (lines-append written faults (Short push)
      (λ old new piece r gives. appends old new piece r gives.1) (λ old new piece r gives. cause old new piece r gives.1) old out.blocks new out.pushed)

  pub blocks-rose : (old : K) (lines : List (List ℕ)) (new : K) → ByBlocks push old lines (Err (record {})) new → Rose (faults old) (faults new)
  blocks-rose old lines new out = lines-rose written faults (Short push) (λ old new piece r gives. appends old new piece r gives.1)
      (λ old new piece r gives. cause old new piece r gives.1) old out.blocks new out.pushed

module _ {S K : Type 0} (left : S → Option (List ℕ)) (pull_faults : S → ℕ) (pull : PullGives S)
    (consumes : EachRead pull (λ old new r room. ReadConsumes (left old) (left new) r room))
    (reads_cause : EachRead pull (λ old new r room. HasCause (pull_faults old) (pull_faults new) r))
    (written : K → Option (List ℕ)) (push_faults : K → ℕ) (writes : Writing K)
    (appends : (old : K) (lines : List (List ℕ)) (new : K) → writes old lines (Ok tt) new → Appends (written old) (written new) (concat lines))
    (rose : (old : K) (lines : List (List ℕ)) (new : K) → writes old lines (Err (record {})) new → Rose (push_faults old) (push_faults new)) where
  -- the lines of a done run are appended
  done-appends : (asked : Option Command) (text : List ℕ) (told : Option Deviation) (pen : PenShows) (sink sink' : K) (due : Status)
      (answer : Result (Unit {0}) Failed) → writes sink (lines_due asked text told pen due) answer sink' → answer ≡ Ok tt → due ≡ status.Done
      → Appends (written sink) (written sink') (concat (done_lines asked text told pen))
  done-appends asked text told pen sink sink' due answer wrote all is =
      appends sink (done_lines asked text told pen) sink' (subst (λ a. writes sink (done_lines asked text told pen) a sink') all
      (subst (λ due. writes sink (lines_due asked text told pen due) answer sink') is wrote))

  -- a done report
  report-done : (r : Report) (source source' : S) (sink sink' : K) (desk desk' : Desk) (result : Status) → Ran pull writes (Some (command.Report r))
      source source' sink sink' desk desk' result → result ≡ status.Done → WasRead (left source) (left source') (written sink) (written sink') desk desk' r
  report-done r source source' sink sink' desk desk' result ran is =
      let out = went-out ran.due result ran.answer ran.ended is in
      let none : ran.stopped ≡ None = elim ran.status_is [ inl due ↦ whole-done ran.stopped (sym due ∙ out.1) | inr short ↦ short.1 ] in
      elim ran.read [
        | inl reads ↦
            let whole = read-whole _ _ ran.text reads.answer ran.stopped reads.stops none in
            let sound = is-sound (takes_few r) ran.text whole.1 in
            record {
              text = ran.text;
              bytes = read-bytes left pull_faults pull consumes reads_cause _ _ source ran.text ran.stopped source' reads;
              ended = end-bytes left pull_faults pull consumes reads_cause reads.mid source' reads.piece reads.answer reads.last reads.sized whole.0;
              sound = sound.sound;
              few_bytes = sound.few_bytes;
              few_items = sound.few_items;
              few_accepted = sound.few_accepted;
              leaves = leaves-by r ran.text ran.told desk desk' (ran.headline out.1)
                  (subst (λ due. Holds (Some (command.Report r)) due desk desk') out.1 ran.holds);
              wrote = done-appends (Some (command.Report r)) ran.text ran.told desk'.pen sink sink' ran.due ran.answer ran.wrote out.0 out.1;
            }
        | inr unread ↦ let e = sym none ∙ unread.1 in absurd (cc)
      ]

  -- a capture that was converted
  converted-done : (source source' : S) (sink sink' : K) (desk desk' : Desk) (result : Status) → Ran pull writes (Some command.Capture)
      source source' sink sink' desk desk' result → result ≡ status.Done → WasConverted (left source) (left source') (written sink) (written sink') desk desk'
  converted-done source source' sink sink' desk desk' result ran is =
      let out = went-out ran.due result ran.answer ran.ended is in
      let none : ran.stopped ≡ None = elim ran.status_is [ inl due ↦ whole-done ran.stopped (sym due ∙ out.1) | inr short ↦ short.1 ] in
      elim ran.read [
        | inl reads ↦
            let whole = read-whole _ _ ran.text reads.answer ran.stopped reads.stops none in
            let sound = is-sound-capture ran.text whole.1 in
            record {
              text = ran.text;
              bytes = read-bytes left pull_faults pull consumes reads_cause _ _ source ran.text ran.stopped source' reads;
              ended = end-bytes left pull_faults pull consumes reads_cause reads.mid source' reads.piece reads.answer reads.last reads.sized whole.0;
              sound = sound.sound;
              few_bytes = sound.few_bytes;
              few_exchanges = sound.few_exchanges;
              same = subst (λ due. Holds (Some command.Capture) due desk desk') out.1 ran.holds;
              wrote = done-appends (Some command.Capture) ran.text ran.told desk'.pen sink sink' ran.due ran.answer ran.wrote out.0 out.1;
            }
        | inr unread ↦ let e = sym none ∙ unread.1 in absurd (cc)
      ]

  -- what a done run read and wrote
  pub done-by : (asked : Option Command) (source source' : S) (sink sink' : K) (desk desk' : Desk) (result : Status) → Ran pull writes asked source
      source' sink sink' desk desk' result → result ≡ status.Done → WasDone (left source) (left source') (written sink) (written sink') desk desk' asked
  done-by None source source' sink sink' desk desk' result ran is =
      let out = went-out ran.due result ran.answer ran.ended is in
      elim ran.status_is [ inl due ↦ let e = sym due ∙ out.1 in absurd (cc) | inr short ↦ let e = sym short.0 ∙ out.1 in absurd (cc) ]
  done-by (Some (command.Report r)) source source' sink sink' desk desk' result ran is =
      reported r refl (report-done r source source' sink sink' desk desk' result ran is)
  done-by (Some command.Capture) source source' sink sink' desk desk' result ran is =
      converted refl (converted-done source source' sink sink' desk desk' result ran is)
  done-by (Some (command.Make number count)) source source' sink sink' desk desk' result ran is =
      let out = went-out ran.due result ran.answer ran.ended is in
      let line = Some (command.Make number count) in
      filed number count refl (ap left ran.read.0.same) (subst (λ due. Holds line due desk desk') out.1 ran.holds)
      (done-appends line ran.text ran.told desk'.pen sink sink' ran.due ran.answer ran.wrote out.0 out.1)
  done-by (Some (command.Run number count ideal)) source source' sink sink' desk desk' result ran is =
      let out = went-out ran.due result ran.answer ran.ended is in
      let line = Some (command.Run number count ideal) in
      summarised (record { number = number; count = count; ideal = ideal }) refl (ap left ran.read.0.same) ran.told (ran.headline out.1)
      (done-appends line ran.text ran.told desk'.pen sink sink' ran.due ran.answer ran.wrote out.0 out.1)

  -- what a done replay printed and left
  pub headline-by : (o : Options) (lane : Bool) (source source' : S) (sink sink' : K) (desk desk' : Desk) (result : Status) → Ran pull writes
      (Some (command.Report (replay_by o lane))) source source' sink sink' desk desk' result → result ≡ status.Done
      → HeadlineInBytes (left source) (left source') (written sink) (written sink') o lane desk'.pen
  headline-by o lane source source' sink sink' desk desk' result ran is =
      let done = report-done (replay_by o lane) source source' sink sink' desk desk' result ran is in
      record { text = done.text; bytes = done.bytes; ended = done.ended; sound = done.sound; printed = done.wrote; replayed = done.leaves }

  -- and what a done run over made stamps did
  pub summary-by : (a : Asked) (source source' : S) (sink sink' : K) (desk desk' : Desk) (result : Status) → Ran pull writes (Some (run_by a)) source
      source' sink sink' desk desk' result → result ≡ status.Done → RunInBytes (left source) (left source') (written sink) (written sink') a desk'.pen
  summary-by a source source' sink sink' desk desk' result ran is =
      let out = went-out ran.due result ran.answer ran.ended is in
      record {
        unread = ap left ran.read.0.same;
        told = ran.told;
        printed = done-appends (Some (run_by a)) ran.text ran.told desk'.pen sink sink' ran.due ran.answer ran.wrote out.0 out.1;
        made = ran.headline out.1;
      }

  -- what a done report told is true
  pub truth-by : (r : Report) (source source' : S) (sink sink' : K) (desk desk' : Desk) (result : Status) → Ran pull writes (Some (command.Report r))
      source source' sink sink' desk desk' result → result ≡ status.Done → TruthInBytes (left source) (left source') (written sink) (written sink') r desk'.pen
  truth-by r source source' sink sink' desk desk' result ran is =
      let out = went-out ran.due result ran.answer ran.ended is in
      let none : ran.stopped ≡ None = elim ran.status_is [ inl due ↦ whole-done ran.stopped (sym due ∙ out.1) | inr short ↦ short.1 ] in
      elim ran.read [
        | inl reads ↦
            let whole = read-whole _ _ ran.text reads.answer ran.stopped reads.stops none in
            record {
              text = ran.text;
              bytes = read-bytes left pull_faults pull consumes reads_cause _ _ source ran.text ran.stopped source' reads;
              ended = end-bytes left pull_faults pull consumes reads_cause reads.mid source' reads.piece reads.answer reads.last reads.sized whole.0;
              printed = done-appends (Some (command.Report r)) ran.text ran.told desk'.pen sink sink' ran.due ran.answer ran.wrote out.0 out.1;
              holds = ran.truth out.1;
            }
        | inr unread ↦ let e = sym none ∙ unread.1 in absurd (cc)
      ]

  -- and so is what a done run over made stamps left
  pub made-truth-by : (a : Asked) (source source' : S) (sink sink' : K) (desk desk' : Desk) (result : Status) → Ran pull writes (Some (run_by a))
      source source' sink sink' desk desk' result → result ≡ status.Done → MadeTruth a desk'.pen
  made-truth-by a source source' sink sink' desk desk' result ran is = ran.truth (went-out ran.due result ran.answer ran.ended is).1

  -- with these statuses no tick was made
  none-short : (asked : Option Command) (desk desk' : Desk) → desk.pen.journal ≡ cold ∷ [] → HoldsShort asked desk desk' → desk'.pen.journal ≡ cold ∷ []
  none-short None desk desk' fresh holds = ap (λ (d : Desk). d.pen.journal) holds ∙ fresh
  none-short (Some (command.Report r)) desk desk' fresh holds = holds
  none-short (Some command.Capture) desk desk' fresh holds = ap (λ (d : Desk). d.pen.journal) holds ∙ fresh
  none-short (Some (command.Make number count)) desk desk' fresh holds = ap (λ (d : Desk). d.pen.journal) holds ∙ fresh
  none-short (Some (command.Run number count ideal)) desk desk' fresh holds = holds

  none-at : (asked : Option Command) (desk desk' : Desk) (due : Status) → desk.pen.journal ≡ cold ∷ [] → MakesNone due → Holds asked due desk desk'
      → desk'.pen.journal ≡ cold ∷ []
  none-at asked desk desk' status.Done fresh not holds = absurd not
  none-at asked desk desk' (status.BadInput f) fresh not holds = ap (λ (d : Desk). d.pen.journal) holds ∙ fresh
  none-at asked desk desk' status.Usage fresh not holds = ap (λ (d : Desk). d.pen.journal) holds ∙ fresh
  none-at asked desk desk' status.ReadFault fresh not holds = ap (λ (d : Desk). d.pen.journal) holds ∙ fresh
  none-at asked desk desk' status.WriteFault fresh not holds = absurd not
  none-at asked desk desk' status.NoMemory fresh not holds = none-short asked desk desk' fresh holds
  none-at asked desk desk' (status.TooLarge l) fresh not holds = ap (λ (d : Desk). d.pen.journal) holds ∙ fresh
  none-at asked desk desk' (status.BadCapture f) fresh not holds = ap (λ (d : Desk). d.pen.journal) holds ∙ fresh

  none-of : (due result : Status) (answer : Result (Unit {0}) Failed) → result ≡ ends_with due answer → MakesNone result → MakesNone due
  none-of due result (Ok o) e none = subst MakesNone e none
  none-of due result (Err x) e none = absurd (subst MakesNone e none)

  pub none-by : (asked : Option Command) (source source' : S) (sink sink' : K) (desk desk' : Desk) (result : Status) → desk.pen.journal ≡ cold ∷ []
      → Ran pull writes asked source source' sink sink' desk desk' result → MakesNone result → desk'.pen.journal ≡ cold ∷ []
  none-by asked source source' sink sink' desk desk' result fresh ran none =
      none-at asked desk desk' ran.due fresh (none-of ran.due result ran.answer ran.ended none) ran.holds

  -- a run that counts no failing push ends as is due
  as-due : (sink sink' : K) (lines : List (List ℕ)) (due result : Status) (answer : Result (Unit {0}) Failed) → WasFree (push_faults sink)
      (push_faults sink') → writes sink lines answer sink' → result ≡ ends_with due answer → result ≡ due
  as-due sink sink' lines due result (Ok o) free out e = e
  as-due sink sink' lines due result (Err x) free out e = absurd (not-rose (push_faults sink) (push_faults sink') free (rose sink lines sink' out))

  due-or : (asked : Option Command) (s : Option Stop) (due result X : Status) → IsDue asked s due → status_due asked s ≡ X → result ≡ due
      → (result ≡ X) ⊎ (result ≡ status.NoMemory)
  due-or asked s due result X is wants e = elim is [ inl due ↦ inl (e ∙ due ∙ wants) | inr short ↦ inr (e ∙ short.0) ]

  -- words that are no line are told, but for want of memory
  pub usage-by : (source source' : S) (sink sink' : K) (desk desk' : Desk) (result : Status) → Ran pull writes None source source' sink sink' desk
      desk' result → (result ≡ status.Usage) ⊎ ((result ≡ status.WriteFault) ⊎ (result ≡ status.NoMemory))
  usage-by source source' sink sink' desk desk' result ran =
      let split : (answer : Result (Unit {0}) Failed) → result ≡ ends_with ran.due answer → (result ≡ status.Usage)
      ⊎ ((result ≡ status.WriteFault) ⊎ (result ≡ status.NoMemory)) =
      elim [
        | Ok o ↦ λ e. elim ran.status_is [ inl due ↦ inl (e ∙ due) | inr short ↦ inr (inr (e ∙ short.0)) ]
        | Err x ↦ λ e. inr (inl e)
      ] in
      split ran.answer ran.ended

  -- and one that makes a file, or over made stamps, is done
  pub made-by : (number count : ℕ) (source source' : S) (sink sink' : K) (desk desk' : Desk) (result : Status) → Ran pull writes
      (Some (command.Make number count)) source source' sink sink' desk desk' result → WasFree (push_faults sink) (push_faults sink')
      → (result ≡ status.Done) ⊎ (result ≡ status.NoMemory)
  made-by number count source source' sink sink' desk desk' result ran free =
      due-or (Some (command.Make number count)) ran.stopped ran.due result status.Done ran.status_is refl
      (as-due sink sink' _ ran.due result ran.answer free ran.wrote ran.ended)

  pub ran-by : (a : Asked) (source source' : S) (sink sink' : K) (desk desk' : Desk) (result : Status) → Ran pull writes (Some (run_by a)) source
      source' sink sink' desk desk' result → WasFree (push_faults sink) (push_faults sink') → (result ≡ status.Done) ⊎ (result ≡ status.NoMemory)
  ran-by a source source' sink sink' desk desk' result ran free =
      due-or (Some (run_by a)) ran.stopped ran.due result status.Done ran.status_is refl
      (as-due sink sink' _ ran.due result ran.answer free ran.wrote ran.ended)

  -- a report on a told input that no count of faults tells of ends as its input says, or for want of memory
  pub complete-by : (r : Report) (all : List ℕ) (source source' : S) (sink sink' : K) (desk desk' : Desk) (result : Status) → Ran pull writes
      (Some (command.Report r)) source source' sink sink' desk desk' result → left source ≡ Some all
      → WasFree (pull_faults source) (pull_faults source') → WasFree (push_faults sink) (push_faults sink')
      → (result ≡ status_by (stop_of_file (takes_few r) all)) ⊎ (result ≡ status.NoMemory)
  complete-by r all source source' sink sink' desk desk' result ran told free_source free_sink =
      let e = as-due sink sink' _ ran.due result ran.answer free_sink ran.wrote ran.ended in
      elim ran.status_is [
        | inl due ↦ elim ran.read [
          | inl reads ↦ elim (read-stops left pull_faults pull consumes reads_cause (stop_so_far (takes_few r)) (stop_of_file (takes_few r))
              (stop_of_file-stays (takes_few r)) source ran.text ran.stopped source' all reads told
              free_source) [ inl is ↦ inl (e ∙ due ∙ is) | inr memory ↦ inr (e ∙ due ∙ memory) ]
          | inr unread ↦ inr (e ∙ due ∙ ap status_by unread.1)
        ]
        | inr short ↦ inr (e ∙ short.0)
      ]

  -- a told capture that no count of faults tells of ends as its bytes say, or for want of memory
  pub converts-by : (all : List ℕ) (source source' : S) (sink sink' : K) (desk desk' : Desk) (result : Status) → Ran pull writes
      (Some command.Capture) source source' sink sink' desk desk' result → left source ≡ Some all
      → WasFree (pull_faults source) (pull_faults source') → WasFree (push_faults sink) (push_faults sink')
      → (result ≡ status_by (stop_of_packets all)) ⊎ (result ≡ status.NoMemory)
  converts-by all source source' sink sink' desk desk' result ran told free_source free_sink =
      let e = as-due sink sink' _ ran.due result ran.answer free_sink ran.wrote ran.ended in
      elim ran.status_is [
        | inl due ↦ elim ran.read [
          | inl reads ↦ elim (read-stops left pull_faults pull consumes reads_cause capture_so_far stop_of_packets stop_of_packets-stays source ran.text
              ran.stopped source' all reads told free_source) [ inl is ↦ inl (e ∙ due ∙ is) | inr memory ↦ inr (e ∙ due ∙ memory) ]
          | inr unread ↦ inr (e ∙ due ∙ ap status_by unread.1)
        ]
        | inr short ↦ inr (e ∙ short.0)
      ]
