-- A report by items, whose lines are told one by one, is that by the lists of all that is told.
use Rattle.std.proofs.Common.{Bool, ◌≡◌, ℕ, ◌<◌, List, [], ◌∷◌, ◌++◌, None, Some, Result, Ok, Err, length, slice_get, map, refl, sym, ap, ap₂, ◌∙◌, arith, append_assoc, append-nil, length-append}
use Rattle.std.specs.List.{range_with_len}
use Rattle.std.specs.Option.{option_map_or, option_to_list}
use Rattle.std.proofs.Math.Seq.{get_or-append_seam}
use Rattle.std.proofs.lemmas.List.{length_push}
use Rattle.std.proofs.lemmas.Option.{slice_get-get_or}
use Rattle.std.proofs.lemmas.List.FromFn.{length-map-range_with_len, get_or-map-range_with_len}
use Rattle.std.proofs.lemmas.List.Elements.{filter_map-append}
use Rattle.stamp_text.specs.Accepted.{accepted_with, trip}
use Rattle.stamp_text.specs.Past.{accept_item, stamp_of_item, stamps_of}
use Rattle.stamp_text.specs.declared.accepts.Refused.{Refused}
use Rattle.stamp_text.specs.declared.lines.Head.{Head}
use Rattle.stamp_text.specs.declared.lines.Item.{Item}
use Rattle.stamp_text.specs.declared.lines.Item.TheVariants as item
use Rattle.stamp_text.specs.declared.lines.Stamp.{Stamp}
use Rattle.rtt_window.specs.Bases.{base_at}
use Rattle.rtt_window.proofs.Prefixes.{base_at-append}
use Rattle.ff_estimator.specs.Events.{event_behind, events_of, full_behind, full_of_event, fulls_of}
use Rattle.ff_estimator.specs.declared.fulls.Event.{Event}
use Rattle.ff_estimator.specs.declared.fulls.Event.TheVariants as event
use Rattle.ff_estimator.specs.declared.fulls.Full.{Full}
use Rattle.ff_estimator.proofs.Events.{events-push}
use Rattle.ff_hands.specs.declared.hands.Hands.{Hands}
use Rattle.clock_lines.specs.declared.readings.Entry.{Entry}
use Rattle.replay_run.specs.declared.plan.Options.{Options}
use Rattle.report_text.specs.Text.{head_text, end_text, stamp_text, base_text, estimate_text}
use Rattle.report_text.specs.declared.lines.ReportHead.{ReportHead}
use Rattle.report_text.specs.declared.lines.ReportHead.TheVariants as head
use Rattle.radclock_input.specs.declared.files.ItemLine.{ItemLine}
use Rattle.radclock_input.specs.Inputs.{accepted_among}
use Rattle.radclock_run.proofs.Counted.{with-stamps, many-estimates}
use Rattle.radclock_run.specs.Reports.{outcomes, end_counts, item_text, line_by, lines_of, of_nth, stamp_report, stamps_report, rtt_report, estimate_report, bases_of, tick_lines, log_lines, replay_head, replay_counts, replay_report}
use Rattle.radclock_run.specs.Tellings.{told_item, told_of, told, report, replay_told, stamps_says, rtt_says, estimate_says}

-- one more item, accepted or not, and further ones
starts-with : (a : List Item) (x : Item) (r : Result (Unit {0}) Refused) (more ys : List Item) → ys ≡ accepted_with a x r ++ more
    → (rest : List Item) × (ys ≡ a ++ rest)
starts-with a x (Ok o) more ys e = (x ∷ more, e ∙ append_assoc a (x ∷ []) more)
starts-with a x (Err why) more ys e = (more, e)

-- the accepted items begin with those before
among-starts : (freq : ℕ) (a : List Item) (xs : List ItemLine) → (rest : List Item) × (accepted_among freq a xs ≡ a ++ rest)
among-starts freq a [] = ([], sym (append-nil a))
among-starts freq a (x ∷ xs) =
    let r = accept_item freq a x.item in
    let later = among-starts freq (accepted_with a x.item r) xs in
    starts-with a x.item r later.0 (accepted_among freq (accepted_with a x.item r) xs) later.1

-- what is said of a stamp behind the items before it is the line at its index
abbrev AreSaid : (List Item → Stamp → List ℕ) → (ℕ → Stamp → List ℕ) → List Item → Type 0
AreSaid says line all = (front : List Item) (s : Stamp) (rest : List Item) → all ≡ front ++ (item.Stamp s ∷ rest)
    → says front s ≡ line (length (stamps_of front)) s

said-item : (says : List Item → Stamp → List ℕ) (line : ℕ → Stamp → List ℕ) (a : List Item) (x : Item) (rest ys : List Item) → ys ≡ (a ++ x ∷ [])
    ++ rest → AreSaid says line ys → told_item says a x ≡ item_text line (length (stamps_of a)) x
said-item says line a (item.Stamp s) rest ys e said = said a s rest (e ∙ append_assoc a (item.Stamp s ∷ []) rest)
said-item says line a (item.Set count at) rest ys e said = refl
said-item says line a (item.Leap count leap) rest ys e said = refl

said-here : (says : List Item → Stamp → List ℕ) (line : ℕ → Stamp → List ℕ) (a : List Item) (n : ℕ) (x : Item) (r : Result (Unit {0}) Refused)
    (rest ys : List Item) → ys ≡ accepted_with a x r ++ rest → AreSaid says line ys → told_of says a n x r ≡ line_by line (length (stamps_of a)) n x r
said-here says line a n x (Ok o) rest ys e said = said-item says line a x rest ys e said
said-here says line a n x (Err why) rest ys e said = refl

told-lines : (says : List Item → Stamp → List ℕ) (line : ℕ → Stamp → List ℕ) (freq : ℕ) (a : List Item) (xs : List ItemLine) → AreSaid says line
    (accepted_among freq a xs) → told says a (outcomes freq a xs) ≡ lines_of line (length (stamps_of a)) (outcomes freq a xs)
told-lines says line freq a [] said = refl
told-lines says line freq a (x ∷ xs) said =
    let r = accept_item freq a x.item in
    let b = accepted_with a x.item r in
    let later = among-starts freq b xs in
    ap₂ (λ (l : List ℕ) (ls : List (List ℕ)). l ∷ ls) (said-here says line a x.line x.item r later.0 (accepted_among freq b xs) later.1 said)
    (told-lines says line freq b xs said ∙ ap (λ (k : ℕ). lines_of line k (outcomes freq b xs)) (with-stamps a x.item r))

report-lines : (head : ReportHead) (says : List Item → Stamp → List ℕ) (line : ℕ → Stamp → List ℕ) (freq : ℕ) (xs : List ItemLine) → AreSaid says
    line (accepted_among freq [] xs) → report head says (outcomes freq [] xs) ≡ stamp_report head line (outcomes freq [] xs)
unfolding report stamp_report
report-lines head says line freq xs said = ap (λ (ls : List (List ℕ)). (head_text head ∷ ls) ++ end_text (end_counts (outcomes freq [] xs) None)
    ∷ []) (told-lines says line freq [] xs said)

-- the value at an index
of-nth : {X : Type 0} (text : X → List ℕ) (xs : List X) (n : ℕ) (x : X) → slice_get xs n ≡ Some x → of_nth text xs n ≡ text x
of-nth text xs n x e = ap (λ o. option_map_or text o []) e

-- the value in the middle
seam : {X : Type 0} (front : List X) (x : X) (rest : List X) → slice_get (front ++ (x ∷ rest)) (length front) ≡ Some x
seam front x rest = slice_get-get_or (front ++ (x ∷ rest)) (length front) x (omega (arith, length-append front (x ∷ rest)))
    ∙ ap (λ y. Some y) (get_or-append_seam front x rest x)

-- the value of an index in a list of such values
value-at : {X : Type 0} (f : ℕ → X) (n k : ℕ) → k < n → slice_get (map f (range_with_len 0 n)) k ≡ Some (f k)
value-at f n k within =
    let many = length-map-range_with_len f 0 n in
    slice_get-get_or (map f (range_with_len 0 n)) k (f k) (omega (arith, many, within))
    ∙ ap (λ x. Some x) (get_or-map-range_with_len f 0 n k k (f k) within (omega arith))

-- what more items say stands behind what is said before them
events-start : (freq : ℕ) (xs rest : List Item) → (more : List Event) × (events_of freq (xs ++ rest) ≡ events_of freq xs ++ more)
events-start freq xs [] = ([], ap (events_of freq) (append-nil xs) ∙ sym (append-nil (events_of freq xs)))
events-start freq xs (y ∷ ys) =
    let later = events-start freq (xs ++ y ∷ []) ys in
    let here = option_to_list (event_behind freq xs y) in (
      here ++ later.0,
      ap (events_of freq) (sym (append_assoc xs (y ∷ []) ys)) ∙ later.1
          ∙ ap (λ (es : List Event). es ++ later.0) (events-push freq xs y) ∙ append_assoc (events_of freq xs) here later.0,
    )

-- where a stamp stands among accepted items
module _ (freq : ℕ) (items front : List Item) (s : Stamp) (rest : List Item) (is : items ≡ front ++ (item.Stamp s ∷ rest)) where
  cut : stamps_of items ≡ stamps_of front ++ (s ∷ stamps_of rest)
  cut = ap stamps_of is ∙ filter_map-append stamp_of_item front (item.Stamp s ∷ rest)

  within : length (stamps_of front) < length (stamps_of items)
  within = omega (arith, ap length cut, length-append (stamps_of front) (s ∷ stamps_of rest))

  regrouped : stamps_of items ≡ (stamps_of front ++ s ∷ []) ++ stamps_of rest
  regrouped = cut ∙ sym (append_assoc (stamps_of front) (s ∷ []) (stamps_of rest))

  so-far : length (stamps_of front) < length (stamps_of front ++ s ∷ [])
  so-far = omega (arith, length_push (stamps_of front) s)

  stamp-at : slice_get (stamps_of items) (length (stamps_of front)) ≡ Some s
  stamp-at = ap (λ (xs : List Stamp). slice_get xs (length (stamps_of front))) cut ∙ seam (stamps_of front) s (stamps_of rest)

  base-at : slice_get (bases_of freq (stamps_of items)) (length (stamps_of front)) ≡ Some (base_at freq (stamps_of front ++ s ∷ []) (length (stamps_of front)))
  unfolding bases_of
  base-at = value-at (base_at freq (stamps_of items)) (length (stamps_of items)) (length (stamps_of front)) within
      ∙ ap (λ b. Some b) (ap (λ (xs : List Stamp). base_at freq xs (length (stamps_of front))) regrouped
      ∙ base_at-append freq (stamps_of front ++ s ∷ []) (stamps_of rest) (length (stamps_of front)) so-far)

  full-at : slice_get (fulls_of (events_of freq items)) (length (stamps_of front)) ≡ Some (full_behind freq front s)
  full-at =
      let f = full_behind freq front s in
      let before : List Full = fulls_of (events_of freq front) in
      let later = events-start freq (front ++ item.Stamp s ∷ []) rest in
      let events : events_of freq items ≡ events_of freq front ++ (event.Estimate f ∷ later.0) =
      ap (events_of freq) (is ∙ sym (append_assoc front (item.Stamp s ∷ []) rest)) ∙ later.1
      ∙ ap (λ (es : List Event). es ++ later.0) (events-push freq front (item.Stamp s))
      ∙ append_assoc (events_of freq front) (event.Estimate f ∷ []) later.0 in
      let all : fulls_of (events_of freq items) ≡ before ++ (f ∷ fulls_of later.0) = ap fulls_of events
      ∙ filter_map-append full_of_event (events_of freq front) (event.Estimate f ∷ later.0) in
      ap₂ (λ (fs : List Full) (n : ℕ). slice_get fs n) all (sym (many-estimates freq front)) ∙ seam before f (fulls_of later.0)

-- the three reports on items
pub stamps-by-list : (h : Head) (xs : List ItemLine) → report (head.Stamps h.freq h.version) (stamps_says h) (outcomes h.freq [] xs) ≡ stamps_report
    h (outcomes h.freq [] xs) (stamps_of (accepted_among h.freq [] xs))
stamps-by-list h xs =
    let all = accepted_among h.freq [] xs in
    report-lines (head.Stamps h.freq h.version) (stamps_says h) (λ n s. of_nth (λ s. stamp_text n s h.version) (stamps_of all) n) h.freq xs
    (λ front s rest is. sym (of-nth (λ s. stamp_text (length (stamps_of front)) s h.version) (stamps_of all) (length (stamps_of front)) s
    (stamp-at h.freq all front s rest is)))

pub rtt-by-list : (h : Head) (xs : List ItemLine) → report (head.Rtt h.freq h.version) (rtt_says h) (outcomes h.freq [] xs) ≡ rtt_report h
    (outcomes h.freq [] xs) (bases_of h.freq (stamps_of (accepted_among h.freq [] xs)))
rtt-by-list h xs =
    let all = accepted_among h.freq [] xs in
    report-lines (head.Rtt h.freq h.version) (rtt_says h) (λ n s. of_nth (base_text n (trip s)) (bases_of h.freq (stamps_of all)) n) h.freq xs
    (λ front s rest is. sym (of-nth (base_text (length (stamps_of front)) (trip s)) (bases_of h.freq (stamps_of all)) (length (stamps_of front))
    _ (base-at h.freq all front s rest is)))

pub estimate-by-list : (h : Head) (xs : List ItemLine) → report (head.Estimate h.freq h.version) (estimate_says h) (outcomes h.freq [] xs)
    ≡ estimate_report h (outcomes h.freq [] xs) (fulls_of (events_of h.freq (accepted_among h.freq [] xs)))
estimate-by-list h xs =
    let all = accepted_among h.freq [] xs in
    report-lines (head.Estimate h.freq h.version) (estimate_says h)
    (λ n s. of_nth (λ f. estimate_text n f h.version) (fulls_of (events_of h.freq all)) n) h.freq xs
    (λ front s rest is. sym (of-nth (λ f. estimate_text (length (stamps_of front)) f h.version) (fulls_of (events_of h.freq all))
    (length (stamps_of front)) _ (full-at h.freq all front s rest is)))

pub replay-by-list : (h : Head) (o : Options) (lane : Bool) (xs : List ItemLine) (ticks : List Hands) (logs : List (List Entry)) → replay_told (replay_head h o lane)
    (estimate_says h) (outcomes h.freq [] xs) ticks logs ≡ replay_report h o lane (outcomes h.freq [] xs)
    (fulls_of (events_of h.freq (accepted_among h.freq [] xs))) ticks logs
unfolding replay_told replay_report
replay-by-list h o lane xs ticks logs =
    let all = accepted_among h.freq [] xs in
    let q = outcomes h.freq [] xs in
    let told = told-lines (estimate_says h) (λ n s. of_nth (λ f. estimate_text n f h.version) (fulls_of (events_of h.freq all)) n) h.freq [] xs
    (λ front s rest is. sym (of-nth (λ f. estimate_text (length (stamps_of front)) f h.version) (fulls_of (events_of h.freq all))
    (length (stamps_of front)) _ (full-at h.freq all front s rest is))) in
    ap (λ (ls : List (List ℕ)). (((head_text (replay_head h o lane) ∷ ls) ++ tick_lines 0 ticks) ++ log_lines 0 logs)
    ++ end_text (replay_counts q ticks logs) ∷ []) told
