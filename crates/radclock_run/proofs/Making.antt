-- While the estimates at made stamps are gathered.
use Rattle.std.proofs.Common.{◌≡◌, ℕ, suc, ◌+◌, ◌-◌, ◌*◌, ◌<◌, ◌≤◌, List, [], ◌∷◌, ◌++◌, Option, None, Some, Ok, Err, false, cond, fold, get_or, take, length, map, slice_get, refl, sym, ap, ap₂, ◌∙◌, subst, arith}
use Rattle.std.specs.Option.{option_map_or}
use Rattle.std.proofs.lemmas.List.{length-map, map-append}
use Rattle.stamp_text.specs.Accepted.{accept_of, accepted_with, first_that_holds, last_of}
use Rattle.stamp_text.specs.Past.{Seen, nothing_seen, seen_with, seen_of, is_not_behind, is_unsynchronised, accept_item, counts_of}
use Rattle.stamp_text.specs.declared.accepts.Refused.TheVariants as refused
use Rattle.stamp_text.proofs.PastLaws.{seen-stamp, stamp-passed}
use Rattle.stamp_text.specs.declared.lines.Item.TheVariants as item
use Rattle.stamp_text.specs.declared.lines.Stamp.{Stamp}
use Rattle.stamp_maker.specs.MadeStamps.{made, stamp_of_made}
use Rattle.stamp_maker.specs.Worlds.{frequency}
use Rattle.stamp_maker.proofs.MadeLists.{first_stamps, next-accepted, stamps-more, made_stamps-len}
use Rattle.ff_estimator.specs.Daemons.{Kept, StandsFor}
use Rattle.std.specs.Option.{option_to_list}
use Rattle.std.proofs.lemmas.List.{take_more}
use Rattle.std.proofs.lemmas.List.Elements.{filter_map-append}
use Rattle.ff_estimator.specs.declared.fulls.Event.TheVariants as event
use Rattle.ff_estimator.specs.Events.{count_of_event, events_of, full_of_event, fulls_of}
use Rattle.ff_estimator.specs.declared.fulls.Event.{Event}
use Rattle.ff_estimator.specs.declared.fulls.Full.{Full}
use Rattle.ff_estimator.proofs.Events.{counts-are}
use Rattle.radclock_run.specs.Gathered.{Gathered}
use Rattle.ff_hands.specs.declared.hands.Hands.{Hands}
use Rattle.tick_desk.specs.Shows.{PenShows}
use Rattle.replay_run.specs.Plans.{plan_of}
use Rattle.replay_run.proofs.Steps.{steps_len}
use Rattle.ideal_world.specs.declared.deviations.Deviation.{Deviation}
use Rattle.clock_core.specs.Machines.{newest}
use Rattle.report_text.specs.Text.{estimate_text, tick_text, end_text}
use Rattle.radclock_run.specs.Replays.{IsReplayed, run_options, run_items, run_stamps}
use Rattle.radclock_run.specs.Reports.{of_nth}
use Rattle.radclock_run.specs.MadeRuns.{closing_lines, run_counts, run_fulls, run_lines}
use Rattle.radclock_run.specs.declared.ran.Asked.{Asked}
use Rattle.stamp_text.proofs.PlainItems.{stamps-back}
use Rattle.radclock_run.proofs.Counted.{many-estimates}
use Rattle.radclock_run.proofs.Fulls.{gathered-none}

-- no stamps
pub made-none : (number count n : ℕ) (k : Kept) (events : List Event) → n ≡ 0 → StandsFor k frequency [] → events ≡ []
    → Gathered k events frequency (map item.Stamp (first_stamps number count n))
made-none number count n k events first stands none = subst (λ n. Gathered k events frequency (map item.Stamp (first_stamps number count n)))
    (sym first) (gathered-none k events frequency stands none)

-- one more stamp, which is accepted as an item too
pub made-next : (number count n : ℕ) (s : Stamp) (k : Kept) (events : List Event) → s ≡ stamp_of_made (made number count n)
    → accept_item frequency (map item.Stamp (first_stamps number count n)) (item.Stamp s) ≡ Ok tt
    → Gathered k events frequency (accepted_with (map item.Stamp (first_stamps number count n)) (item.Stamp s)
    (accept_item frequency (map item.Stamp (first_stamps number count n)) (item.Stamp s)))
    → Gathered k events frequency (map item.Stamp (first_stamps number count (n + 1)))
made-next number count n s k events is answer next =
    let all = first_stamps number count n in
    let grown : map item.Stamp all ++ item.Stamp s ∷ [] ≡ map item.Stamp (all ++ s ∷ []) = sym (map-append item.Stamp all (s ∷ [])) in
    subst (Gathered k events frequency) (ap (accepted_with (map item.Stamp all) (item.Stamp s)) answer ∙ grown
    ∙ ap (λ (s : Stamp). map item.Stamp (all ++ s ∷ [])) is ∙ ap (λ (ss : List Stamp). map item.Stamp ss) (sym (stamps-more number count n))) next

no-set : (seen : Seen) (ss : List Stamp) → seen.set ≡ None → (fold seen_with seen (map item.Stamp ss)).set ≡ None
no-set seen [] e = e
no-set seen (s ∷ ss) e = no-set (seen_with seen (item.Stamp s)) ss e

-- a synchronised stamp is accepted by its times alone, where there is no set
alone-taken : (freq : ℕ) (all : List Stamp) (s : Stamp) → accept_of (last_of all) s freq ≡ Ok tt → is_unsynchronised s ≡ false
    → accept_item freq (map item.Stamp all) (item.Stamp s) ≡ Ok tt
alone-taken freq all s times synchronised =
    let seen : Seen = seen_of (map item.Stamp all) in
    let newest : seen.stamp ≡ last_of all = seen-stamp (map item.Stamp all) ∙ ap last_of (stamps-back all) in
    let none : seen.set ≡ None = no-set nothing_seen all refl in
    stamp-passed freq seen s (ap (λ o. accept_of o s freq) newest ∙ times)
    ∙ ap (λ t. cond t (Err refused.Unsynchronised) (first_that_holds ((is_not_behind s.ta seen.set, refused.BeforeSet) ∷ []))) synchronised
    ∙ ap (λ (o : Option ℕ). first_that_holds ((is_not_behind s.ta o, refused.BeforeSet) ∷ [])) none

-- a made stamp passes the tests of its times, and its server is synchronised
pub next-taken : (number count n : ℕ) (s : Stamp) → s ≡ stamp_of_made (made number count n)
    → accept_item frequency (map item.Stamp (first_stamps number count n)) (item.Stamp s) ≡ Ok tt
next-taken number count n s is =
    let all = first_stamps number count n in
    let times : accept_of (last_of all) s frequency ≡ Ok tt = ap (λ s. accept_of (last_of all) s frequency) is ∙ next-accepted number count n in
    alone-taken frequency all s times (ap is_unsynchronised is)

-- the estimates among events and one more
one-full : (e : Event) → fulls_of (e ∷ []) ≡ option_to_list (full_of_event e)
one-full (event.Estimate f) = refl
one-full (event.Set count at) = refl

pub fulls-more : (events : List Event) (fulls : List Full) (i : ℕ) (d : Event) → i < length events → fulls ≡ fulls_of (take i events) → fulls
    ++ option_to_list (full_of_event (get_or events i d)) ≡ fulls_of (take (i + 1) events)
fulls-more events fulls i d within is =
    let e = get_or events i d in
    ap (λ (fs : List Full). fs ++ option_to_list (full_of_event e)) is
    ∙ ap (λ (fs : List Full). fulls_of (take i events) ++ fs) (sym (one-full e))
    ∙ sym (filter_map-append full_of_event (take i events) (e ∷ []))
    ∙ ap fulls_of (sym (take_more events i d within))

-- as many estimates as stamps
pub many-fulls : (a : Asked) → length (run_fulls a) ≡ a.count
many-fulls a = many-estimates frequency (run_items a) ∙ ap length (stamps-back (run_stamps a)) ∙ made_stamps-len a.number a.count

-- the end of a report, by the last estimate and the last tick
abbrev pub three_lines : List Full → Full → List Hands → Hands → ℕ → List (List ℕ)
three_lines fulls f ticks h entries = estimate_text (length fulls - 1) f 1 ∷ tick_text (length ticks - 1) h ∷ end_text (run_counts fulls ticks entries) ∷ []

pub closes-so : (fulls : List Full) (f : Full) (ticks : List Hands) (h : Hands) (entries : ℕ) → slice_get fulls (length fulls - 1) ≡ Some f
    → h ≡ newest ticks → three_lines fulls f ticks h entries ≡ closing_lines fulls ticks entries
closes-so fulls f ticks h entries last is =
    let i = length fulls - 1 in
    let first : estimate_text i f 1 ≡ of_nth (λ f. estimate_text i f 1) fulls i = sym (ap (λ x. option_map_or (λ f. estimate_text i f 1) x []) last) in
    ap₂ (λ (l : List ℕ) (h : Hands). l ∷ tick_text (length ticks - 1) h ∷ end_text (run_counts fulls ticks entries) ∷ []) first is

-- the report on the same estimates, ticks and entries
pub same-run : (a : Asked) (fulls fulls' : List Full) (told : Option Deviation) (ticks ticks' : List Hands) (n n' : ℕ) → fulls ≡ fulls'
    → ticks ≡ ticks' → n ≡ n' → run_lines a fulls told ticks n ≡ run_lines a fulls' told ticks' n'
same-run a fulls fulls' told ticks ticks' n n' f t e = ap₂ (λ (fs : List Full) (ts : List Hands). run_lines a fs told ts n) f t
    ∙ ap (run_lines a fulls' told ticks') e

counts-back : (ss : List Stamp) → length (counts_of (map item.Stamp ss)) ≡ length ss
counts-back [] = refl
counts-back (s ∷ ss) = ap (λ (n : ℕ). suc n) (counts-back ss)

-- the first estimate has a tick, behind the cold one and the one that sets the clock
pub has-ticks : (a : Asked) (pen : PenShows) → 1 ≤ a.count → IsReplayed run_options frequency (run_items a) pen → 2 < length pen.journal
has-ticks a pen some is =
    let events : List Event = events_of frequency (run_items a) in
    let many : length events ≡ a.count = omega (
      arith,
      length-map events count_of_event,
      ap length (counts-are frequency (run_items a)),
      counts-back (run_stamps a),
      made_stamps-len a.number a.count,
    ) in
    let steps : length (plan_of frequency events 4) ≡ 1 + length events + 4 * (length events - 1) = steps_len frequency events 4 in
    omega (arith, is.journal.many, steps, many)
