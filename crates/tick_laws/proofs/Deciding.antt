-- What the looks of a conversion decide.
use Rattle.std.proofs.Common.{◌≡◌, ◌≢◌, ℕ, ◌+◌, ◌-◌, ◌*◌, ◌/◌, ◌%◌, ◌<◌, ◌≤◌, ◌==◌, Bool, true, false, List, [], ◌∷◌, ◌++◌, length, slice_get, refl, ap, sym, ◌∙◌, subst, Some, None, eq-eqb, ne_eqb, arith}
use Rattle.ff_hands.specs.declared.hands.Hands.{Hands}
use Rattle.ff_hands.specs.Journals.{IsSound}
use Rattle.ff_hands.specs.Windups.{cold}
use Rattle.ff_hands.proofs.Ticks.{tick-sound}
use Rattle.clock_lines.specs.declared.readings.Kind.TheVariants as kind
use Rattle.clock_lines.specs.declared.readings.Reading.{Reading}
use Rattle.clock_lines.specs.declared.readings.Entry.{Entry}
use Rattle.clock_lines.specs.declared.readings.Entry.TheVariants.{Read, Again, TooOld, Ahead}
use Rattle.clock_lines.specs.Readings.{reading_at}
use Rattle.hand_words.specs.Words.{unpack}
use Rattle.tick_reads.specs.declared.loads.Ask.{Ask}
use Rattle.tick_reads.specs.declared.loads.Load.{Load}
use Rattle.tick_reads.specs.declared.loads.Load.TheVariants.{Turn, Mark, Counter}
use Rattle.tick_reads.specs.Looks.{full_mark, look}
use Rattle.tick_reads.specs.Scans.{Scan, run, after, decided, ends, at_turn, scan_at}
use Rattle.tick_reads.specs.Converts.{ask_back, Converts}
use Rattle.tick_reads.proofs.Runs.{run_look, moves, finds_older, finds_open, finds_newest, finds_zero, finds_old, steps_down, finds_ahead, reaches}
use Rattle.tick_reads.proofs.Conversions.{explains}
use Rattle.tick_views.specs.declared.views.PassView.{PassView}
use Rattle.tick_views.specs.Views.{scan_of, undecided, turn_loaded, counter_loaded, call_begun}
use Rattle.tick_table.specs.Steps.{LearnsTurn, IsSoundAt}
use Rattle.tick_laws.specs.Goes.{GoesOn, Calls, IsAtTick, Answers, GoesDown, LearnsLook}
use Rattle.tick_laws.proofs.Going.{scan_on, on_and_on, counter_on, turn_on, opened_on, call_on, stays}

answers_by : (a b : PassView) (ls : List Load) (e : Entry) (s : Scan) → GoesOn a b ls → scan_of b ≡ ends (Some e) s → Answers a b e
answers_by a b ls e s g is = record { loads = ls; goes = g; answer = ap (λ (z : Scan). z.answer) is }

same_reading : (tick count : ℕ) (h g : Hands) (r : Reading) → h ≡ g → r ≡ reading_at h tick kind.Back count → reading_at g tick kind.Back count ≡ r
same_reading tick count h g r same is = sym (is ∙ ap (λ (x : Hands). reading_at x tick kind.Back count) same)

module _ (a b : PassView) (count first tick : ℕ) (fields : List ℕ) (x : ℕ) (at : IsAtTick a count first tick) (g : GoesOn a b (look tick fields x))
    (long : length fields ≡ 15) where
  scan_is : scan_of b ≡ after (ask_back count) (scan_at first tick false fields []) (Mark tick x)
  scan_is = scan_on a b (look tick fields x) g ∙ ((λ i. run (at.ask i) (at.scan i) (look tick fields x)) ∙ run_look count first tick fields x)

  pub look_moved : x ≢ full_mark tick → Answers a b (Again kind.Back (full_mark tick) x)
  look_moved other = answers_by a b _ _ (scan_at first tick false fields []) g (scan_is ∙ moves count first tick fields long x other)

  module _ (full : x ≡ full_mark tick) where
    full_scan : scan_of b ≡ after (ask_back count) (scan_at first tick false fields []) (Mark tick (full_mark tick))
    full_scan = scan_is ∙ ap (λ y. after (ask_back count) (scan_at first tick false fields []) (Mark tick y)) full

    module _ (h : Hands) (is : h ≡ unpack fields) where
      below : h.count < count → (unpack fields).count < count
      below less = subst (λ (z : Hands). z.count < count) is less

      not_below : count ≤ h.count → count ≤ (unpack fields).count
      not_below low = subst (λ (z : Hands). count ≤ z.count) is low

      pub look_older_read : (r : Reading) → r ≡ reading_at h tick kind.Back count → h.count < count → tick ≢ first / 2 → Answers a b (Read r)
      look_older_read r r-is less other = subst (λ (z : Reading). Answers a b (Read z)) (same_reading tick count h (unpack fields) r is r-is)
          (answers_by a b _ _ (scan_at first tick false fields []) g (full_scan ∙ finds_older count first tick fields long (below less) other))

      pub look_zero_read : (r : Reading) → r ≡ reading_at h tick kind.Back count → count ≤ h.count → tick ≡ 0 → Answers a b (Read r)
      look_zero_read r r-is low z = subst (λ (q : Reading). Answers a b (Read q)) (same_reading tick count h (unpack fields) r is r-is)
          (answers_by a b _ _ (scan_at first tick false fields []) g (full_scan ∙ finds_zero count first tick fields long (not_below low) z))

      pub look_older_fields : h.count < count → tick ≢ first / 2 → (scan_of b).fields ≡ fields
      look_older_fields less other = ap (λ (s : Scan). s.fields) (full_scan ∙ finds_older count first tick fields long (below less) other)

      pub look_zero_fields : count ≤ h.count → tick ≡ 0 → (scan_of b).fields ≡ fields
      look_zero_fields low z = ap (λ (s : Scan). s.fields) (full_scan ∙ finds_zero count first tick fields long (not_below low) z)

      pub look_old : count ≤ h.count → tick ≢ 0 → tick + 9 ≡ first / 2 → Answers a b (TooOld count h.count)
      look_old low nz last = subst (λ (q : Hands). Answers a b (TooOld count q.count)) (sym is)
          (answers_by a b _ _ (scan_at first tick false fields []) g (full_scan ∙ finds_old count first tick fields long (not_below low) nz last))

      pub look_open : h.count < count → tick ≡ first / 2 → first % 2 ≢ 0 → Answers a b (Again kind.Back first first)
      look_open less same odd = answers_by a b _ _ (scan_at first tick false fields []) g
          (full_scan ∙ finds_open count first tick fields long (below less) same odd)

      pub look_newest : h.count < count → tick ≡ first / 2 → first % 2 ≡ 0 → scan_of b ≡ scan_at first tick true fields []
      look_newest less same even = full_scan ∙ finds_newest count first tick fields long (below less) same even

      pub look_down : count ≤ h.count → tick ≢ 0 → tick + 9 ≢ first / 2 → GoesDown a b count first (tick - 1)
      look_down low nz more = let is-down = full_scan ∙ steps_down count first tick fields long (not_below low) nz more in
          record {
            loads = look tick fields x;
            goes = g;
            at = record {
              calling = g.calling ∙ ap (λ (s : Scan). undecided s.answer) is-down;
              ask = g.ask ∙ at.ask;
              scan = is-down;
            };
          }

  module _ (learns : LearnsLook tick fields) (h : Hands) (is : h ≡ unpack fields) where
    its_hands : learns.0 ≡ h
    its_hands = sym learns.2 ∙ sym is

    pub look_sound : IsSound h
    look_sound = subst IsSound its_hands (tick-sound learns.3.0 learns.3.1 tick learns.0 learns.3.2)

    pub look_stands : IsSoundAt tick h
    look_stands = subst (IsSoundAt tick) its_hands learns.3

    pub zero_past : tick ≡ 0 → h.count ≤ count
    zero_past z = let first-is : Some cold ≡ Some learns.0 = sym (learns.3.1.first) ∙ (ap (slice_get learns.3.0) (sym z) ∙ learns.3.2) in
        let cold-is : cold ≡ learns.0 = cc in subst (λ (y : Hands). y.count ≤ count) (cold-is ∙ its_hands) (let low : 0 ≤ count = omega arith in low)

-- past the newest tick
module _ (a b : PassView) (count first : ℕ) (fields : List ℕ) (ask : a.ask ≡ ask_back count)
    (at : scan_of a ≡ scan_at first (first / 2) true fields []) (counter : ℕ) (counted : b ≡ counter_loaded counter a) where
  abbrev m : ℕ
  m = first / 2

  on_counter : GoesOn a b (Counter counter ∷ [])
  on_counter = subst (λ (z : PassView). GoesOn a z (Counter counter ∷ [])) (sym counted) (counter_on a counter)

  at_counter : scan_of b ≡ after (ask_back count) (scan_at first m true fields []) (Counter counter)
  at_counter = scan_on a b (Counter counter ∷ []) on_counter ∙ (λ i. after (ask i) (at i) (Counter counter))

  pub past_ahead : counter < count → Answers a b (Ahead count counter)
  past_ahead less = answers_by a b _ _ (scan_at first m true fields []) on_counter (at_counter ∙ finds_ahead count first m fields counter less)

  module _ (up : count ≤ counter) where
    reached : scan_of b ≡ scan_at first m true fields (counter ∷ [])
    reached = at_counter ∙ reaches count first m fields counter up

    pub past_calling : b.calling ≡ true
    past_calling = on_counter.calling ∙ ap (λ (s : Scan). undecided s.answer) reached

    module _ (c : PassView) (x : ℕ) (turned : c ≡ turn_loaded x b) (later : 2 * b.seen ≤ x + 2) where
      on_turn : GoesOn b c (Turn x ∷ [])
      on_turn = subst (λ (z : PassView). GoesOn b z (Turn x ∷ [])) (sym turned) (turn_on b x later)

      on_both : GoesOn a c (Counter counter ∷ Turn x ∷ [])
      on_both = on_and_on a b c (Counter counter ∷ []) (Turn x ∷ []) on_counter (ap (λ (s : Scan). s.answer) reached) on_turn

      at_end : scan_of c ≡ ends (Some (at_turn (x == first) (ask_back count) (scan_at first m true fields (counter ∷ [])) x))
          (scan_at first m true fields (counter ∷ []))
      at_end = scan_on b c (Turn x ∷ []) on_turn ∙ (λ i. after ((on_counter.ask ∙ ask) i) (reached i) (Turn x))

      pub past_fields : (scan_of c).fields ≡ fields
      past_fields = ap (λ (s : Scan). s.fields) at_end

      ending : (e : Bool) → (x == first) ≡ e → Answers a c (at_turn e (ask_back count) (scan_at first m true fields (counter ∷ [])) x)
      ending e same = answers_by a c _ _ (scan_at first m true fields (counter ∷ [])) on_both
          (at_end ∙ ap (λ z. ends (Some (at_turn z (ask_back count) (scan_at first m true fields (counter ∷ [])) x))
          (scan_at first m true fields (counter ∷ []))) same)

      pub past_crossed : x ≢ first → Answers a c (Again kind.Back first x)
      past_crossed other = ending false (ne_eqb x first other)

      pub past_read : x ≡ first → (h : Hands) → h ≡ unpack fields → (r : Reading) → r ≡ reading_at h m kind.Back count → Answers a c (Read r)
      past_read same h is r r-is = subst (λ (z : Reading). Answers a c (Read z)) (same_reading m count h (unpack fields) r is r-is)
          (ending true (eq-eqb x first same))

-- one part after another
pub down_answers : (a b c : PassView) (count first tick : ℕ) (e : Entry) → GoesDown a b count first tick → Answers b c e → Answers a c e
down_answers a b c count first tick e d s = record {
  loads = d.loads ++ s.loads;
  goes = on_and_on a b c d.loads s.loads d.goes (ap (λ (z : Scan). z.answer) d.at.scan) s.goes;
  answer = s.answer;
}

pub down_down : (a b c : PassView) (count first tick tick' : ℕ) → GoesDown a b count first tick → GoesDown b c count first tick'
    → GoesDown a c count first tick'
down_down a b c count first tick tick' d s = record {
  loads = d.loads ++ s.loads;
  goes = on_and_on a b c d.loads s.loads d.goes (ap (λ (z : Scan). z.answer) d.at.scan) s.goes;
  at = s.at;
}

-- a conversion begins
pub begins_at : (v b : PassView) (count w : ℕ) → b ≡ turn_loaded w (call_begun (ask_back count) v) → IsAtTick b count w (w / 2)
begins_at v b count w is = subst (λ (z : PassView). IsAtTick z count w (w / 2)) (sym is) record { calling = refl; ask = refl; scan = refl }

-- and has an answer
pub whole_call : (v b c : PassView) (count w : ℕ) (e : Entry) → b ≡ turn_loaded w (call_begun (ask_back count) v) → LearnsTurn v w → Answers b c e
    → Calls v c (ask_back count) c.loads
whole_call v b c count w e is learns s = let began : Calls v b (ask_back count) (Turn w ∷ []) = subst
    (λ (z : PassView). Calls v z (ask_back count) (Turn w ∷ [])) (sym is) (opened_on v (ask_back count) w learns.seen) in
    let done = call_on v b c (ask_back count) (Turn w ∷ []) s.loads began refl s.goes in subst (Calls v c (ask_back count)) (sym done.loads) done

pub whole_decided : (v b c : PassView) (count w : ℕ) (e : Entry) → b ≡ turn_loaded w (call_begun (ask_back count) v) → Answers b c e
    → decided (ask_back count) c.loads ≡ Some e
whole_decided v b c count w e is s = ap (λ (k : Ask). decided k c.loads) (sym (s.goes.ask ∙ ap (λ (z : PassView). z.ask) is)) ∙ s.answer

-- an answer after further loads
pub more_answers : (a b c : PassView) (ls : List Load) (e : Entry) → GoesOn a b ls → (scan_of b).answer ≡ None → Answers b c e → Answers a c e
more_answers a b c ls e g none-yet s = record { loads = ls ++ s.loads; goes = on_and_on a b c ls s.loads g none-yet s.goes; answer = s.answer }

-- where a loop down begins
pub down_here : (a b : PassView) (count first tick : ℕ) → GoesDown a b count first tick → GoesDown b b count first tick
down_here a b count first tick d = record { loads = []; goes = stays b d.at.calling (ap (λ (s : Scan). s.answer) d.at.scan); at = d.at }

-- and so tells its loads
pub whole_converts : (v b c : PassView) (count w : ℕ) (e : Entry) → b ≡ turn_loaded w (call_begun (ask_back count) v) → LearnsTurn v w
    → Answers b c e → (first : ℕ) × Converts count first c.loads e
whole_converts v b c count w e is learns s = let began : Calls v b (ask_back count) (Turn w ∷ []) = subst
    (λ (z : PassView). Calls v z (ask_back count) (Turn w ∷ [])) (sym is) (opened_on v (ask_back count) w learns.seen) in
    let done = call_on v b c (ask_back count) (Turn w ∷ []) s.loads began refl s.goes in
    let first-is : c.loads ≡ Turn w ∷ s.loads = done.loads in (
      w,
      subst (λ ls. Converts count w ls e) (sym first-is) (explains count w s.loads e
          (ap (decided (ask_back count)) (sym first-is) ∙ whole_decided v b c count w e is s)),
    )
