-- What reads decide.
use Rattle.std.proofs.Common.{◌≡◌, ◌≢◌, ℕ, ◌+◌, ◌*◌, ◌/◌, ◌%◌, ◌≤◌, ◌==◌, ◌&&◌, Bool, true, false, List, [], ◌∷◌, ◌++◌, length, ap, sym, ◌∙◌, subst, Some, None, eq-eqb, ne_eqb}
use Rattle.ff_hands.specs.declared.hands.Hands.{Hands}
use Rattle.ff_hands.specs.Journals.{IsSound}
use Rattle.ff_hands.proofs.Ticks.{tick-sound}
use Rattle.clock_lines.specs.Values.{MayRead}
use Rattle.clock_lines.specs.Readings.{reading_at}
use Rattle.clock_lines.specs.declared.readings.Kind.{Kind}
use Rattle.clock_lines.specs.declared.readings.Kind.TheVariants as kind
use Rattle.clock_lines.specs.declared.readings.Reading.{Reading}
use Rattle.clock_lines.specs.declared.readings.Entry.{Entry}
use Rattle.clock_lines.specs.declared.readings.Entry.TheVariants.{Read, Again}
use Rattle.clock_logs.specs.Legal.{full, quick, way_of}
use Rattle.hand_words.specs.Words.{pack, unpack}
use Rattle.tick_reads.specs.declared.loads.Ask.{Ask}
use Rattle.tick_reads.specs.declared.loads.Load.TheVariants.{Turn, Mark, Counter}
use Rattle.tick_reads.specs.Ways.{needs_even, reading}
use Rattle.tick_reads.specs.Looks.{full_mark, fields_from, look}
use Rattle.tick_reads.specs.Scans.{Scan, run, after, ends, at_turn, at_mark, scan_at, fresh, decided}
use Rattle.tick_reads.specs.Reads.{Reads}
use Rattle.tick_reads.proofs.Runs.{run-append, run_fields, whole_counts, whole_ends, light_ends, opens_odd}
use Rattle.tick_reads.proofs.Tells.{count_whole, explains_loads}
use Rattle.tick_views.specs.declared.views.PassView.{PassView}
use Rattle.tick_views.specs.Views.{scan_of, undecided, turn_loaded, counter_loaded, call_begun}
use Rattle.tick_table.specs.Steps.{IsSoundAt, LearnsAll}
use Rattle.tick_laws.specs.Goes.{GoesOn, Answers, LearnsLook, Calls, IsStarted, IsOpened}
use Rattle.tick_laws.proofs.Going.{scan_on, on_and_on, counter_on, turn_on, call_on}

pub may_whole : (k : Kind) (at count : ℕ) → way_of k ≡ full → at ≤ count → MayRead k at count
may_whole kind.Abs at count e h = h
may_whole kind.Mono at count e h = h
may_whole kind.Uptime at count e h = h
may_whole kind.Fast at count e h = cc
may_whole kind.Diff at count e h = cc
may_whole kind.Back at count e h = cc
may_whole kind.Utc at count e h = h

-- the tick that a started call is at
pub started_at : (v : PassView) (ask : Ask) (first : ℕ) → IsStarted v ask first → scan_of v ≡ scan_at (scan_of v).first (first / 2) false [] []
started_at v ask first at = at.scan ∙ ap (λ (z : Scan). scan_at z.first (first / 2) false [] []) (sym at.scan)

sound_by : (fields : List ℕ) (tick : ℕ) (h g : Hands) → unpack fields ≡ h → IsSoundAt tick h → g ≡ unpack fields → IsSound g
sound_by fields tick h g is at g-is = subst IsSound (sym (g-is ∙ is)) (tick-sound at.0 at.1 tick h at.2)

-- a started call that has loaded fields
pub b_scan_of : (a b : PassView) (ask : Ask) (first : ℕ) (fields : List ℕ) → IsStarted a ask first → GoesOn a b (fields_from (first / 2) 0 fields)
    → scan_of b ≡ scan_at first (first / 2) false fields []
b_scan_of a b ask first fields at g = scan_on a b (fields_from (first / 2) 0 fields) g
    ∙ ((λ i. run (at.ask_is i) (at.scan i) (fields_from (first / 2) 0 fields)) ∙ run_fields ask first (first / 2) [] fields)

-- a full read
module _ (a b c : PassView) (ask : Ask) (first : ℕ) (fields : List ℕ) (count : ℕ) (way : way_of ask.kind ≡ full) (at : IsStarted a ask first)
    (g : GoesOn a b (fields_from (first / 2) 0 fields)) (long : length fields ≡ 15) (counted : c ≡ counter_loaded count b) where
  abbrev tick : ℕ
  tick = first / 2

  abbrev s1 : Scan
  s1 = scan_at first tick false fields (count ∷ [])

  b_scan : scan_of b ≡ scan_at first tick false fields []
  b_scan = b_scan_of a b ask first fields at g

  b_ask : b.ask ≡ ask
  b_ask = g.ask ∙ at.ask_is

  on_c : GoesOn b c (Counter count ∷ [])
  on_c = subst (λ (z : PassView). GoesOn b z (Counter count ∷ [])) (sym counted) (counter_on b count)

  c_scan : scan_of c ≡ s1
  c_scan = scan_on b c (Counter count ∷ []) on_c ∙ ((λ i. after (b_ask i) (b_scan i) (Counter count)) ∙ whole_counts ask first tick fields long way count)

  pub whole_calling_on : c.calling ≡ true
  whole_calling_on = on_c.calling ∙ ap (λ (s : Scan). undecided s.answer) c_scan

  c_ask : c.ask ≡ ask
  c_ask = on_c.ask ∙ b_ask

  on_both : GoesOn a c (fields_from tick 0 fields ++ Counter count ∷ [])
  on_both = on_and_on a b c (fields_from tick 0 fields) (Counter count ∷ []) g (ap (λ (s : Scan). s.answer) b_scan) on_c

  module _ (d : PassView) (x : ℕ) (turned : d ≡ turn_loaded x c) (later : 2 * c.seen ≤ x + 2) where
    on_d : GoesOn c d (Turn x ∷ [])
    on_d = subst (λ (z : PassView). GoesOn c z (Turn x ∷ [])) (sym turned) (turn_on c x later)

    d_scan : scan_of d ≡ ends (Some (at_turn (x == first) ask s1 x)) s1
    d_scan = scan_on c d (Turn x ∷ []) on_d ∙ ((λ i. after (c_ask i) (c_scan i) (Turn x)) ∙ whole_ends ask first tick fields long way count x)

    ending : (e : Bool) → (x == first) ≡ e → Answers a d (at_turn e ask s1 x)
    ending e same = record {
      loads = (fields_from tick 0 fields ++ Counter count ∷ []) ++ Turn x ∷ [];
      goes = on_and_on a c d (fields_from tick 0 fields ++ Counter count ∷ []) (Turn x ∷ []) on_both (ap (λ (s : Scan). s.answer) c_scan) on_d;
      answer = ap (λ (s : Scan). s.answer) d_scan ∙ ap (λ z. Some (at_turn z ask s1 x)) same;
    }

    pub whole_fields : (scan_of d).fields ≡ fields
    whole_fields = ap (λ (s : Scan). s.fields) d_scan

    pub whole_again : x ≢ first → Answers a d (Again ask.kind first x)
    whole_again other = ending false (ne_eqb x first other)

    module _ (same : x ≡ first) (h : Hands) (is : h ≡ unpack fields) where
      pub whole_read : (r : Reading) → r ≡ reading_at h tick ask.kind count → Answers a d (Read r)
      whole_read r r-is = subst (λ (z : Reading). Answers a d (Read z))
          (sym (r-is ∙ (ap (λ (y : Hands). reading_at y tick ask.kind count) is
          ∙ ap (λ n. reading_at (unpack fields) tick ask.kind n) (sym (count_whole ask.kind ask.given count (unpack fields) way)))))
          (ending true (eq-eqb x first same))

      module _ (learns : LearnsAll c.ask (scan_of c) x) where
        known : (k : Hands) × (fields ≡ pack k) × (unpack fields ≡ k) × IsSoundAt tick k × (k.count ≤ count)
        known = let l : LearnsAll ask s1 x = subst (λ (z : Ask × Scan). LearnsAll z.0 z.1 x) (λ i. (c_ask i, c_scan i)) learns in
            l (λ i. needs_even (way i) && (true && eq-eqb (length fields) 15 long i) && true) same

        pub whole_sound : IsSound h
        whole_sound = let k = known in sound_by fields tick k.0 h k.2 k.3 is

        pub whole_stands : IsSoundAt tick h
        whole_stands = let k = known in subst (IsSoundAt tick) (sym (is ∙ k.2)) k.3

        pub whole_past_it : h.count ≤ count
        whole_past_it = let k = known in subst (λ (y : Hands). y.count ≤ count) (sym (is ∙ k.2)) k.4

-- a fast read, and an interval
module _ (a b : PassView) (ask : Ask) (first : ℕ) (fields : List ℕ) (x : ℕ) (way : way_of ask.kind ≡ quick) (at : IsStarted a ask first)
    (g : GoesOn a b (look (first / 2) fields x)) (long : length fields ≡ 15) where
  abbrev t : ℕ
  t = first / 2

  abbrev s2 : Scan
  s2 = scan_at first t false fields []

  light_scan : scan_of b ≡ ends (Some (at_mark (x == full_mark t) ask s2 x)) s2
  light_scan = scan_on a b (look t fields x) g ∙ ((λ i. run (at.ask_is i) (at.scan i) (look t fields x))
      ∙ (run-append ask (scan_at first t false [] []) (fields_from t 0 fields) (Mark t x ∷ [])
      ∙ (ap (λ s. after ask s (Mark t x)) (run_fields ask first t [] fields) ∙ light_ends ask first t fields long way x)))

  pub light_fields : (scan_of b).fields ≡ fields
  light_fields = ap (λ (s : Scan). s.fields) light_scan

  light_ending : (e : Bool) → (x == full_mark t) ≡ e → Answers a b (at_mark e ask s2 x)
  light_ending e same = record { loads = look t fields x; goes = g; answer = ap (λ (s : Scan). s.answer) light_scan ∙ ap (λ z. Some (at_mark z ask s2 x)) same }

  pub light_again : x ≢ full_mark t → Answers a b (Again ask.kind (full_mark t) x)
  light_again other = light_ending false (ne_eqb x (full_mark t) other)

  pub light_read : x ≡ full_mark t → (h : Hands) → h ≡ unpack fields → (r : Reading) → r ≡ reading ask t h 0 → Answers a b (Read r)
  light_read same h is r r-is = subst (λ (z : Reading). Answers a b (Read z)) (sym (r-is ∙ ap (λ (y : Hands). reading ask t y 0) is))
      (light_ending true (eq-eqb x (full_mark t) same))

  pub light_sound : LearnsLook t fields → (h : Hands) → h ≡ unpack fields → IsSound h
  light_sound learns h is = sound_by fields t learns.0 h learns.2 learns.3 is

  pub light_stands : LearnsLook t fields → (h : Hands) → h ≡ unpack fields → IsSoundAt t h
  light_stands learns h is = subst (IsSoundAt t) (sym (is ∙ learns.2)) learns.3

-- a beginning and what follows it are one call
pub rest_calls : (old mid new : PassView) (ask : Ask) (first : ℕ) (e : Entry) → Calls old mid ask (Turn first ∷ []) → (scan_of mid).answer ≡ None
    → Answers mid new e → Calls old new ask new.loads
rest_calls old mid new ask first e calls none s =
    let none-yet : decided ask (Turn first ∷ []) ≡ None = (λ i. (run (sym calls.ask_is i) fresh (sym calls.loads i)).answer) ∙ none in
    let all = call_on old mid new ask (Turn first ∷ []) s.loads calls none-yet s.goes in
    subst (Calls old new ask) (sym all.loads) all

-- a call that began with the turn word tells its loads
opened_reads : (a b : PassView) (ask : Ask) (first : ℕ) (e : Entry) → a.ask ≡ ask → a.loads ≡ Turn first ∷ [] → Answers a b e → Reads ask b.loads e
opened_reads a b ask first e is began s = let loads : b.loads ≡ Turn first ∷ s.loads = s.goes.loads ∙ ap (λ l. l ++ s.loads) began in
    subst (λ l. Reads ask l e) (sym loads) (explains_loads ask (Turn first ∷ s.loads) e
    ((λ i. (run (sym (s.goes.ask ∙ is) i) fresh (sym loads i)).answer) ∙ s.answer))

pub rest_reads : (v new : PassView) (ask : Ask) (first : ℕ) (e : Entry) → IsOpened v ask first → Answers v new e → Reads ask new.loads e
rest_reads v new ask first e opened s = opened_reads v new ask first e opened.ask_is opened.loads s

-- a full read that found a windup open
pub once_reads : (v : PassView) (ask : Ask) (first : ℕ) → IsOpened v ask first → way_of ask.kind ≡ full → first % 2 ≢ 0
    → Reads ask v.loads (Again ask.kind first first)
once_reads v ask first opened way odd = subst (λ l. Reads ask l (Again ask.kind first first)) (sym opened.loads)
    (explains_loads ask (Turn first ∷ []) (Again ask.kind first first) (ap (λ (s : Scan). s.answer) (opens_odd ask first way odd)))

pub call_reads : (v b c : PassView) (ask : Ask) (w : ℕ) (e : Entry) → b ≡ turn_loaded w (call_begun ask v) → Answers b c e → Reads ask c.loads e
call_reads v b c ask w e is s = opened_reads b c ask w e (ap (λ (z : PassView). z.ask) is) (ap (λ (z : PassView). z.loads) is) s
