-- What a replay leaves and prints.
use Rattle.std.proofs.Common.{◌≡◌, ℕ, zero, suc, ◌+◌, ◌*◌, ◌<◌, ◌≤◌, List, [], ◌∷◌, ◌++◌, length, map, get_or, slice_get, Some, refl, sym, ap, ap₂, ◌∙◌, subst, arith}
use Rattle.std.specs.Option.{option_map}
use Rattle.std.proofs.lemmas.List.{length-map}
use Rattle.std.proofs.lemmas.Option.{slice_get-map, slice_get_within, slice_get-get_or, get_or_from_slice_get}
use Rattle.stamp_text.specs.declared.lines.Item.{Item}
use Rattle.ff_estimator.specs.Events.{events_of}
use Rattle.clock_lines.specs.declared.readings.Entry.{Entry}
use Rattle.clock_lines.specs.declared.readings.Entry.TheVariants as entry
use Rattle.clock_logs.specs.Logs.{entry_of, IsLog}
use Rattle.clock_logs.specs.declared.noted.Kept.{Kept}
use Rattle.clock_logs.proofs.Climbs.{logs-rise}
use Rattle.clock_logs.proofs.Latest.{none-ahead}
use Rattle.tick_desk.specs.Shows.{PenShows, IsFresh, new_passes}
use Rattle.replay_run.specs.Journals.{greatest, moves_in, taken_in, IsJournalOf}
use Rattle.replay_run.specs.Logs.{AreOpened, AreReady, tried_by}
use Rattle.replay_run.specs.Plays.{IsKeptLog, IsLogOf, Played}
use Rattle.replay_run.specs.declared.log.ReadLog.{ReadLog}
use Rattle.replay_run.specs.declared.plan.Options.{Options}
use Rattle.replay_run.specs.declared.plan.Plan.{Plan}
use Rattle.replay_run.proofs.Journals.{journal-only, orders-of}
use Rattle.replay_run.proofs.Opening.{first-passes, new-many, new-ready}
use Rattle.replay_run.proofs.Targets.{plan-takes, plan-moves}
use Rattle.radclock_run.specs.Reports.{log_lines}
use Rattle.radclock_run.specs.Replays.{logs_of, steps_by, IsReplayed}
use Rattle.radclock_run.specs.Plays.{entries_in, entries_of, IsPlanFor, IsReadyFor, ArePrinted, ArePlayed}

-- the lines of logs, as they are printed
abbrev pub lines_of_logs : ℕ → List ReadLog → List (List ℕ)
lines_of_logs n logs = log_lines n (entries_of logs)

-- there is a member at each place
some-at : {X : Type 0} (xs : List X) (i : ℕ) → i < length xs → (x : X) × (slice_get xs i ≡ Some x)
some-at [] i within = absurd (omega arith)
some-at (x ∷ xs) zero within = (x, refl)
some-at (x ∷ xs) (suc i) within = some-at xs i (omega arith)

map-at : {X Y : Type 0} (f : X → Y) (xs : List X) (i : ℕ) (x : X) → slice_get xs i ≡ Some x → slice_get (map f xs) i ≡ Some (f x)
map-at f xs i x at = slice_get-map f xs i ∙ ap (option_map f) at

-- a member of a map
mapped : {X Y : Type 0} (f : X → Y) (xs : List X) (i : ℕ) (y : Y) → slice_get (map f xs) i ≡ Some y → (x : X) × (slice_get xs i ≡ Some x) × (f x ≡ y)
mapped f [] i y at = absurd (let w = slice_get_within [] i y at in omega arith)
mapped f (x ∷ xs) zero y at = (x, refl, get_or_from_slice_get (map f (x ∷ xs)) 0 y (f x) at)
mapped f (x ∷ xs) (suc i) y at = mapped f xs i y at

-- two lists are one where their members are
same-map : {X Y Z : Type 0} (f : X → Z) (g : Y → Z) (xs : List X) (ys : List Y) → length xs ≡ length ys
    → ((i : ℕ) (x : X) (y : Y) → slice_get xs i ≡ Some x → slice_get ys i ≡ Some y → f x ≡ g y) → map f xs ≡ map g ys
same-map f g [] [] many each = refl
same-map f g [] (y ∷ ys) many each = absurd (omega arith)
same-map f g (x ∷ xs) [] many each = absurd (omega arith)
same-map f g (x ∷ xs) (y ∷ ys) many each = ap₂ (λ z (zs : List _). z ∷ zs) (each 0 x y refl refl)
    (same-map f g xs ys (omega arith) (λ i a b at there. each (suc i) a b at there))

-- logs of so many entries each
all-entries : (logs : List (List Entry)) (reads : ℕ) → ((i : ℕ) (es : List Entry) → slice_get logs i ≡ Some es → length es ≡ reads) → length
    logs * reads ≡ entries_in logs
all-entries [] reads each = omega arith
all-entries (es ∷ logs) reads each =
    let first = each 0 es refl in
    let rest = all-entries logs reads (λ i fs at. each (suc i) fs at) in
    let e : length (es ∷ logs) ≡ 1 + length logs = omega arith in
    rw e (omega arith)

-- the play of the plan of items is that of these items
pub plan-played : (freq : ℕ) (options : Options) (all : List Item) (plan : Plan) (before after : List ReadLog) (old new : PenShows)
    → IsPlanFor freq options all plan → Played plan.freq plan.options plan.steps.items before after old new
    → Played freq options (steps_by freq options.ticks all) before after old new
plan-played freq options all plan before after old new is played =
    subst (λ ss. Played freq options ss before after old new) is.steps
    (subst (λ o. Played freq o plan.steps.items before after old new) is.options_is
    (subst (λ n. Played n plan.options plan.steps.items before after old new) is.freq_is played))

module _ (freq : ℕ) (options : Options) (all : List Item) (steps : ℕ) (before after : List ReadLog) (old new : PenShows)
    (ready : IsReadyFor options steps before old) (play : Played freq options (steps_by freq options.ticks all) before after old new) where
  all-kept : new.kept ≡ play.kept
  all-kept = play.pen ∙ ap (λ (ks : List Kept). ks ++ play.kept) ready.kept

  kept-log : (i : ℕ) (k : Kept) → slice_get new.kept i ≡ Some k → (l : ReadLog) × (slice_get after i ≡ Some l)
      × IsKeptLog freq options (greatest (steps_by freq options.ticks all)) new.journal i l k
  kept-log i k at =
      let here : slice_get play.kept i ≡ Some k = ap (λ (ks : List Kept). slice_get ks i) (sym all-kept) ∙ at in
      let within = slice_get_within play.kept i k here in
      let found = some-at after i (omega (arith, play.many, play.same)) in
      (found.0, found.1, play.each i found.0 k found.1 here)

  log-of : (i : ℕ) (k : Kept) → slice_get new.kept i ≡ Some k → IsLogOf freq options (greatest (steps_by freq options.ticks all)) new.journal k.entries
  log-of i k at = (kept-log i k at).2.log

  legal-logs : (i : ℕ) (es : List Entry) → slice_get (logs_of new) i ≡ Some es → IsLog new.journal es
  legal-logs i es at =
      let m = mapped (λ (k : Kept). map entry_of k.entries) new.kept i es at in
      subst (IsLog new.journal) m.2 (log-of i m.0 m.1).legal

  pub replay-left : IsReplayed options freq all new
  replay-left =
      let steps = steps_by freq options.ticks all in
      record {
        journal = play.journal;
        exact = λ none. journal-only steps new.journal (subst (λ b. IsJournalOf b steps new.journal) none play.journal);
        estimates = ap taken_in (orders-of options.crank steps new.journal play.journal) ∙ plan-takes freq (events_of freq all) options.ticks;
        moves = ap moves_in (orders-of options.crank steps new.journal play.journal) ∙ plan-moves freq (events_of freq all) options.ticks;
        readers = ap length all-kept ∙ play.many ∙ ready.many;
        numbers = λ i k at. (kept-log i k at).2.number;
        legal = λ i k at. (log-of i k at).legal;
        again = λ i k at n first last kind here. (log-of i k at).legal.each n (entry.Again kind first last) here;
        attempts = λ i k at. (log-of i k at).attempts;
        current = λ i k at. (log-of i k at).since;
        within = λ i k at. (log-of i k at).within;
        reached = λ i k at. none-ahead new.journal freq options.reads (tried_by options) (map entry_of k.entries) (log-of i k at).legal
            (log-of i k at).attempts;
        rise = logs-rise new.journal (logs_of new) play.journal.journal legal-logs;
      }

  pub replay-printed : options.readers ≤ 16 → options.reads ≤ 16384 → ArePrinted options new after
  replay-printed few_readers few_reads =
      let same : entries_of after ≡ logs_of new = same-map (λ (l : ReadLog). l.entries.items) (λ (k : Kept). map entry_of k.entries) after new.kept
      (omega (arith, ap length all-kept, play.many, play.same))
      (λ i l k at there. (play.each i l k at (ap (λ (ks : List Kept). slice_get ks i) (sym all-kept) ∙ there)).entries) in
      let each : (i : ℕ) (es : List Entry) → slice_get (entries_of after) i ≡ Some es → length es ≡ options.reads = λ i es at. (
      let there = ap (λ (ls : List (List Entry)). slice_get ls i) (sym same) ∙ at in
      let m = mapped (λ (k : Kept). map entry_of k.entries) new.kept i es there in
      let log = log-of i m.0 m.1 in
      sym (ap length m.2) ∙ log.attempts.many) in
      let many = all-entries (entries_of after) options.reads each in
      let readers : length (entries_of after) ≡ options.readers = length-map after (λ (l : ReadLog). l.entries.items) ∙ play.same ∙ ready.many in
      record {
        same = same;
        few = omega (arith, play.same, ready.many);
        short = λ i d within. (
            let at = slice_get-get_or after i d within in
            let e = each i (get_or after i d).entries.items (map-at (λ (l : ReadLog). l.entries.items) after i (get_or after i d) at) in
            omega (arith, e));
        entries = ap (λ n. n * options.reads) (sym readers) ∙ many;
      }

  pub are-played : options.readers ≤ 16 → options.reads ≤ 16384 → ArePlayed options freq all new after
  are-played few_readers few_reads = record { replayed = replay-left; printed = replay-printed few_readers few_reads }

-- new passes behind a fresh desk are all that were ever made
first-made : (old mid : PenShows) (passes next : List _) (spare seen n : ℕ) → IsFresh old passes → mid ≡ record old { spare = spare } → next ≡ passes
    ++ new_passes mid.table mid.made seen n → next ≡ new_passes mid.table 0 seen n
first-made old mid passes next spare seen n fresh reserved made =
    first-passes passes next mid.table mid.made seen n fresh.none (ap (λ (p : PenShows). p.made) reserved ∙ fresh.made) made

pub as-many : (old mid : PenShows) (passes next : List _) (spare seen n : ℕ) → IsFresh old passes → mid ≡ record old { spare = spare }
    → next ≡ passes ++ new_passes mid.table mid.made seen n → length next ≡ n
as-many old mid passes next spare seen n fresh reserved made = ap length (first-made old mid passes next spare seen n fresh reserved made)
    ∙ new-many mid.table 0 seen n

-- all is ready: room was made behind a fresh desk, and then passes, which were given to the logs
pub ready-for : (plan options : Options) (steps : ℕ) (logs : List ReadLog) (old mid new : PenShows) (passes next : List _)
    (spare made : ℕ) → IsFresh old passes → old.kept ≡ [] → steps ≤ mid.spare
    → mid ≡ record old { spare = spare } → new ≡ record mid { made = made } → next ≡ passes
    ++ new_passes mid.table mid.made (length mid.journal) plan.readers → AreOpened plan.reads next logs → plan ≡ options
    → IsReadyFor options steps logs new
ready-for plan options steps logs old mid new passes next spare made fresh unused room reserved grown behind opened same =
    let readers = plan.readers in
    let seen = length mid.journal in
    let first = first-made old mid passes next spare seen readers fresh reserved behind in
    let ready = new-ready mid.table seen readers plan.reads logs (subst (λ ps. AreOpened plan.reads ps logs) first opened) in
    record {
      logs_are = subst (λ id. AreReady id options.reads logs) (sym (ap (λ (p : PenShows). p.table) grown))
          (subst (λ (o : Options). AreReady mid.table o.reads logs) same ready);
      many = opened.many ∙ as-many old mid passes next spare seen readers fresh reserved behind ∙ ap (λ (o : Options). o.readers) same;
      spare = subst (λ n. steps ≤ n) (sym (ap (λ (p : PenShows). p.spare) grown)) room;
      journal = ap (λ (p : PenShows). p.journal) grown ∙ ap (λ (p : PenShows). p.journal) reserved ∙ fresh.journal;
      top = ap (λ (p : PenShows). p.top) grown ∙ ap (λ (p : PenShows). p.top) reserved ∙ fresh.top;
      still = ap (λ (p : PenShows). p.out) grown ∙ ap (λ (p : PenShows). p.out) reserved ∙ fresh.home;
      kept = ap (λ (p : PenShows). p.kept) grown ∙ ap (λ (p : PenShows). p.kept) reserved ∙ unused;
    }
