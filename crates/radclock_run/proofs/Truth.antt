-- A done run told what is true in each world that the accepted stamps lie in.
use Rattle.std.proofs.Common.{◌≡◌, ℕ, ◌≤◌, false, List, [], map, Option, None, Some, sym, ◌∙◌, subst, arith}
use Rattle.std.specs.List.{All}
use Rattle.std.proofs.lemmas.List.{length-map, get_or-map}
use Rattle.std.proofs.lemmas.List.Elements.{All-map, All-weaker}
use Rattle.ff_grain.specs.Grains.{number_of}
use Rattle.ff_grain.specs.declared.bintime.Bintime.{Bintime}
use Rattle.stamp_text.specs.Accepted.{IsItemInRange}
use Rattle.stamp_text.specs.Past.{AreAcceptedItems, stamps_of}
use Rattle.stamp_text.specs.declared.lines.Item.{Item}
use Rattle.stamp_text.specs.Grammar.{given_of_file, fault_of_file}
use Rattle.stamp_text.proofs.PastLaws.{items-none, items-all}
use Rattle.stamp_text.proofs.GivenLaws.{head-first}
use Rattle.stamp_text.proofs.RangeLaws.{file-in-range}
use Rattle.ff_hands.specs.declared.hands.Hands.{Hands}
use Rattle.clock_lines.specs.Values.{value_of, bound_of}
use Rattle.clock_lines.specs.declared.readings.Entry.{Entry}
use Rattle.clock_lines.specs.declared.readings.Entry.TheVariants as entry
use Rattle.clock_lines.specs.declared.readings.Kind.{Kind}
use Rattle.clock_lines.specs.declared.readings.Kind.TheVariants as kind
use Rattle.clock_logs.specs.Legal.{IsPlaced}
use Rattle.clock_logs.specs.Logs.{IsLog}
use Rattle.clock_words.specs.declared.commands.Command.TheVariants as command
use Rattle.clock_words.specs.declared.commands.Report.{Report}
use Rattle.clock_words.specs.declared.commands.Report.TheVariants as asked
use Rattle.tick_desk.specs.Shows.{PenShows}
use Rattle.tick_desk.specs.declared.desk.Desk.{Desk}
use Rattle.replay_run.specs.declared.plan.Options.{Options}
use Rattle.ideal_world.specs.declared.deviations.Deviation.{Deviation}
use Rattle.stamp_maker.specs.Worlds.{frequency, made_world}
use Rattle.stamp_maker.proofs.Lying.{made-fits}
use Rattle.stamp_maker.proofs.MadeLists.{made-lie}
use Rattle.world_times.specs.Worlds.{IsFit, LiesIn}
use Rattle.world_times.specs.declared.world.World.{World}
use Rattle.ff_estimator.specs.Events.{events_of, fulls_of, without_leaps}
use Rattle.ff_estimator.specs.declared.fulls.Full.{Full}
use Rattle.ff_estimator.proofs.Events.{fold-told}
use Rattle.stamp_text.proofs.PlainItems.{stamps-back, stamps-are-items}
use Rattle.world_laws.specs.Truths.{IsTrueEstimate, IsCovered, IsTrueTick, AreTrueTicks}
use Rattle.world_laws.proofs.BoundsHold.{estimates-true}
use Rattle.world_laws.proofs.PlansGoBy.{readings-true, plays-true}
use Rattle.radclock_input.specs.Inputs.{IsRanged, accepted_among, head_of_file, freq_of_file, items_of_file}
use Rattle.radclock_run.specs.Replays.{IsReplayed, run_options, run_items, run_stamps, IsRunOf, AreTrueReadings, IsTrueReplay, MadeTruth, TellsTrue}
use Rattle.radclock_run.specs.Endings.{Leaves}
use Rattle.radclock_run.specs.Runs.{Truth}
use Rattle.radclock_run.specs.declared.ran.Asked.{Asked}
use Rattle.radclock_input.specs.declared.files.ItemLine.{ItemLine}
use Rattle.radclock_input.proofs.Gathering.{head-ranged, items-timed}

-- an input in the grammar is in its ranges
file-ranged : (text : List ℕ) → fault_of_file text ≡ None → IsRanged (freq_of_file text) (items_of_file text)
unfolding head_of_file items_of_file
file-ranged text sound =
    let head = head-first text sound in
    let freq = head-ranged (given_of_file text) head.1 head.0 head.2 (file-in-range text) in
    record { low = freq.low; high = freq.high; timed = items-timed (given_of_file text) (file-in-range text) }

-- a reading by a true tick, where it may be read
reading-true : (w : World) (ticks : List Hands) (n count : ℕ) (h : Hands) (k : Kind)
    → IsTrueTick w h → IsPlaced k ticks n count h → IsCovered w h.est k count (number_of (value_of h k count)) (bound_of h k count)
reading-true w ticks n count h kind.Abs is place = is kind.Abs count place.reached
reading-true w ticks n count h kind.Fast is place = is kind.Fast count (sym place)
reading-true w ticks n count h kind.Diff is place = is kind.Diff count tt
reading-true w ticks n count h kind.Mono is place = tt
reading-true w ticks n count h kind.Uptime is place = tt
reading-true w ticks n count h kind.Back is place = tt
reading-true w ticks n count h kind.Utc is place = is kind.Utc count place.reached

log-true : (w : World) (ticks : List Hands) (es : List Entry) → AreTrueTicks w ticks → IsLog ticks es → AreTrueReadings w ticks es
log-true w ticks es are log n r h here at sync =
    let is = log.each n (entry.Read r) here in
    let same : is.hands ≡ h = (let e = sym is.tick ∙ at in cc) in
    let synced : is.hands.kstatus.unsync ≡ false = subst (λ (h : Hands). h.kstatus.unsync ≡ false) (sym same) sync in
    let covered : IsCovered w is.hands.est r.kind r.count (number_of (value_of is.hands r.kind r.count)) (bound_of is.hands r.kind r.count) =
    reading-true w ticks r.tick r.count is.hands r.kind (are r.tick is.hands is.tick synced) is.place in
    subst (λ (g : Hands). IsCovered w g.est r.kind r.count (number_of r.time) r.bound) same
    (subst (λ b. IsCovered w is.hands.est r.kind r.count (number_of r.time) b) (sym is.bound)
    (subst (λ (t : Bintime). IsCovered w is.hands.est r.kind r.count (number_of t) (bound_of is.hands r.kind r.count)) (sym is.time) covered))

All-unmap : {X Y : Type 0} (P : Y → Type 0) (f : X → Y) (xs : List X) → All P (map f xs) → All (λ x. P (f x)) xs
All-unmap P f xs all i d within = subst P (get_or-map f xs i d (f d) within) (all i (f d) (omega (arith, within, length-map xs f)))

-- what leap seconds are told changes no bound
with-leaps-true : (w : World) (f : Full) → IsTrueEstimate w (without_leaps f) → IsTrueEstimate w f
with-leaps-true w f is = record { rate = is.rate; spread = is.spread; later = is.later }

-- the estimates at accepted stamps
all-true : (w : World) (freq : ℕ) (all : List Item) → 1000000 ≤ freq → freq ≤ 16000000000 → IsFit freq w → AreAcceptedItems freq all
    → All (LiesIn w) (stamps_of all) → All (IsTrueEstimate w) (fulls_of (events_of freq all))
all-true w freq all low high fit accepted lie =
    let stamps = estimates-true freq w (stamps_of all) low high fit accepted.stamps lie in
    All-weaker (λ f. IsTrueEstimate w (without_leaps f)) (IsTrueEstimate w) (with-leaps-true w) (fulls_of (events_of freq all))
    (All-unmap (IsTrueEstimate w) without_leaps (fulls_of (events_of freq all)) (subst (All (IsTrueEstimate w)) (sym (fold-told freq all)) stamps))

-- a replay of accepted items whose stamps lie in a world
replay-true : (w : World) (options : Options) (freq : ℕ) (all : List Item) (pen : PenShows) → 1000000 ≤ freq → freq ≤ 16000000000 → IsFit freq w
    → AreAcceptedItems freq all → All (LiesIn w) (stamps_of all) → IsReplayed options freq all pen → IsTrueReplay w freq all pen
replay-true w options freq all pen low high fit accepted lie is =
    let are = readings-true freq options.ticks options.crank w all pen.journal low high fit accepted lie is.journal in
    record {
      estimates = all-true w freq all low high fit accepted lie;
      ticks = are;
      readings = λ i k at. log-true w pen.journal _ are (is.legal i k at);
    }

-- that of made stamps, in each world that they lie in
pub made-truth-of : (a : Asked) (told : Option Deviation) (pen : PenShows) → IsRunOf a told pen → MadeTruth a pen
made-truth-of a told pen made =
    let holds : (w : World) → IsFit frequency w → All (LiesIn w) (run_stamps a) → IsTrueReplay w frequency (run_items a) pen =
    λ w fit lie. replay-true w run_options frequency (run_items a) pen (omega arith) (omega arith) fit
    (stamps-are-items frequency (run_stamps a) made.accepted) (subst (All (LiesIn w)) (sym (stamps-back (run_stamps a))) lie) made.replayed in
    record { holds = holds; made = holds made_world made-fits (made-lie a.number a.count) }

module _ (w : World) (freq : ℕ) (items : List ItemLine) (ranged : IsRanged freq items) (fit : IsFit freq w)
    (lie : All (LiesIn w) (stamps_of (accepted_among freq [] items))) where
  accepted : AreAcceptedItems freq (accepted_among freq [] items)
  accepted = items-all freq [] (map (λ x. x.item) items) (items-none freq) (All-map IsItemInRange (λ x. x.item) items ranged.timed)

  tells-true : (r : Report) (old new : Desk) → Leaves r freq items old new → TellsTrue w r freq (accepted_among freq [] items) new.pen
  tells-true asked.Stamps old new leaves = tt
  tells-true asked.Rtt old new leaves = tt
  tells-true asked.Estimate old new leaves = all-true w freq (accepted_among freq [] items) ranged.low ranged.high fit accepted lie
  tells-true (asked.Ticks ticks timers) old new leaves = plays-true freq ticks w (accepted_among freq [] items) ranged.low ranged.high fit accepted lie
  tells-true (asked.Replay ticks readers reads back crank utc lane) old new leaves =
      replay-true w _ freq (accepted_among freq [] items) new.pen ranged.low ranged.high fit accepted lie leaves

-- what a report on a text in the grammar tells
pub truth-of : (r : Report) (text : List ℕ) (desk desk' : Desk) → fault_of_file text ≡ None
    → Leaves r (freq_of_file text) (items_of_file text) desk desk' → Truth (Some (command.Report r)) text desk'.pen
truth-of r text desk desk' sound leaves w fit lie = tells-true w (freq_of_file text) (items_of_file text) (file-ranged text sound) fit lie r desk desk' leaves
