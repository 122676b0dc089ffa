-- A load of a pass keeps what its view fits. Nothing here names a table.
use Rattle.std.proofs.Common.{◌≡◌, ℕ, zero, suc, ◌+◌, ◌-◌, ◌/◌, ◌%◌, ◌<◌, ◌≤◌, ◌≢◌, ◌⊎◌, ◌&&◌, ◌==◌, nat_lt, Bool, true, false, true≢false, List, [], ◌∷◌, ◌++◌, map, length, get_or, sym, refl, ap, ◌∙◌, subst, inl, inr, ⊎_elim, arith, le_refl, le_trans, Option, Some, None, not, eq-eqb, append_assoc}
use Rattle.std.proofs.lemmas.List.{map-append}
use Rattle.std.proofs.lemmas.Bool.{eqb-true}
use borrow.Author.Tests.{ltb-true, ltb-false}
use Rattle.std.proofs.lemmas.Bool.Decides.{eqb_tells}
use mathlib.Core.Option.{some, some-injective, some-ne-none}
use lib.ListN.{get_elem?}
use Rattle.atomic_table.proofs.Lists.{at_snoc}
use Rattle.tick_views.proofs.Grow.{at_end, in_list}
use Rattle.ff_hands.specs.declared.hands.Hands.{Hands}
use Rattle.tick_reads.specs.declared.loads.Ask.{Ask}
use Rattle.tick_reads.specs.declared.loads.Load.{Load}
use Rattle.tick_reads.specs.declared.loads.Load.TheVariants.{Turn, Field, Mark, Counter}
use Rattle.clock_lines.specs.declared.readings.Entry.{Entry}
use Rattle.clock_lines.specs.declared.readings.Entry.TheVariants.{Again, TooOld, Ahead}
use Rattle.clock_logs.specs.declared.noted.Noted.{Noted}
use Rattle.clock_lines.specs.declared.readings.Kind.{Kind}
use Rattle.clock_lines.specs.declared.readings.Kind.TheVariants as kind
use Rattle.tick_views.specs.declared.views.PassView.{PassView}
use Rattle.tick_views.specs.declared.views.MarkLoad.{MarkLoad}
use Rattle.ff_hands.specs.Windups.{cold}
use Rattle.hand_words.specs.Words.{pack, unpack}
use Rattle.hand_words.proofs.Back.{length-pack}
use Rattle.tick_reads.proofs.Runs.{run-snoc}
use Rattle.clock_logs.specs.Legal.{Way, full, quick, past, way_of}
use Rattle.tick_reads.specs.Ways.{needs_even, count_by}
use Rattle.tick_reads.specs.Looks.{full_mark}
use Rattle.tick_reads.specs.Scans.{Scan, fresh, is_even, counter_of, read_by, has_fields, ends, at_turn, at_mark, turn_ends, mark_ends, opens_at, opened, turn_again, turned, goes_down, finds_top, finds_line, looks_at, finds_mark, walks, mark_by, counts_back, counter_back, takes_counter, after, run}
use Rattle.clock_logs.specs.Logs.{IsReadSince}
use Rattle.tick_views.specs.Worlds.{World, IsMark, IsTimely, FitsCount, MetWindup, LostSlot, FitsAgain, FitsWalk, FitsKind, FitsMark, top_tick, AllAtMost, NeverFall, opening_of, StartsWith, FitsEntry, FitsLog, FitsCall, FitsPass, count_if, counts_in, counts_of}
use Rattle.tick_views.specs.Views.{settled, turn_loaded, counter_loaded, field_loaded, mark_loaded, call_begun, scan_of, undecided, gained, noted, mark_load}

rises-snoc : (xs : List ℕ) (w : ℕ) → NeverFall xs → AllAtMost w xs → NeverFall (xs ++ w ∷ [])
rises-snoc [] w r b = ((λ i x e. absurd (some-ne-none x (sym e))), tt)
rises-snoc (x ∷ xs) w r b = (
  (λ i y e. ⊎_elim (λ (at : get_elem? xs i ≡ some y). r.0 i y at) (λ (same : w ≡ y). subst (λ k. x ≤ k) same (b 0 x refl)) (at_snoc xs w y i e)),
  rises-snoc xs w r.1 (λ i y e. b (suc i) y e),
)

below-snoc : (t : ℕ) (xs : List ℕ) (w : ℕ) → AllAtMost t xs → w ≤ t → AllAtMost t (xs ++ w ∷ [])
below-snoc t xs w b up i y e = ⊎_elim (λ (at : get_elem? xs i ≡ some y). b i y at) (λ (same : w ≡ y). subst (λ k. k ≤ t) same up) (at_snoc xs w y i e)

both_true : (a b : Bool) → (a && b) ≡ true → (a ≡ true) × (b ≡ true)
both_true true b e = (refl, e)
both_true false b e = absurd (true≢false (sym e))

pub there : {A : Type 0} (l : List A) (i : ℕ) → i < length l → (a : A) × (get_elem? l i ≡ some a)
there [] i h = absurd (omega arith)
there (x ∷ xs) zero h = (x, refl)
there (x ∷ xs) (suc i) h = there xs i (omega arith)

same_list : (xs ys : List ℕ) → length xs ≡ length ys → ((i y : ℕ) → get_elem? xs i ≡ some y → get_elem? ys i ≡ some y) → xs ≡ ys
same_list [] [] e f = refl
same_list [] (y ∷ ys) e f = absurd (omega arith)
same_list (x ∷ xs) [] e f = absurd (omega arith)
same_list (x ∷ xs) (y ∷ ys) e f = let a : y ≡ x = some-injective y x (f 0 x refl) in
    let b : xs ≡ ys = same_list xs ys (omega arith) (λ i z at. f (suc i) z at) in λ i. sym a i ∷ b i

-- a list that begins the words of h, and is as long, is these words
whole_words : (h : Hands) (xs : List ℕ) → StartsWith (pack h) xs → length xs ≡ 15 → xs ≡ pack h
whole_words h xs starts long = same_list xs (pack h) (long ∙ sym (length-pack h)) starts

append_none : (xs : List ℕ) → xs ++ [] ≡ xs
append_none [] = refl
append_none (x ∷ xs) = ap (λ l. x ∷ l) (append_none xs)

counts-snoc : (log : List Noted) (e : Noted) → counts_of (log ++ e ∷ []) ≡ counts_of log ++ counts_in e.entry
counts-snoc [] e = append_none (counts_in e.entry)
counts-snoc (x ∷ xs) e = ap (λ l. counts_in x.entry ++ l) (counts-snoc xs e) ∙ sym (append_assoc (counts_in x.entry) (counts_of xs) (counts_in e.entry))

one_number : (l : List ℕ) → length l ≡ 1 → get_elem? l 0 ≡ some (get_or l 0 0)
one_number [] e = absurd (omega arith)
one_number (x ∷ xs) e = refl

-- the parts of a world agree, as they do at each load of a pass
pub record Agrees (w : World) : Type 0 where
  pub last : w.turn / 2 + 1 ≡ length w.journal
  pub closed_bound : w.turn % 2 ≡ 0 → w.bound ≡ w.counter
  pub closed_mark : w.turn % 2 ≡ 0 → w.marks (w.turn / 2) ≡ full_mark (w.turn / 2)
  pub reached : (m : ℕ) (h : Hands) → get_elem? w.journal m ≡ some h → h.count ≤ w.counter

module _ (w : World) (back : (m : ℕ) (h : Hands) → get_elem? w.journal m ≡ some h → unpack (pack h) ≡ h) where
  reads : (t : ℕ) (h : Hands) (xs : List ℕ) → xs ≡ pack h → get_elem? w.journal t ≡ some h → unpack xs ≡ h
  reads t h xs is at = ap unpack is ∙ back t h at

  -- what the counts of a new entry owe
  NewCounts : List ℕ → List ℕ → Type 0
  NewCounts xs [] = Unit {0}
  NewCounts xs (c ∷ []) = AllAtMost c xs × (c ≤ w.counter)
  NewCounts xs (c ∷ d ∷ ds) = ⊥

  add_rises : (xs ys : List ℕ) → NeverFall xs → NewCounts xs ys → NeverFall (xs ++ ys)
  unfolding NewCounts
  add_rises xs [] r n = subst NeverFall (sym (append_none xs)) r
  add_rises xs (c ∷ []) r n = rises-snoc xs c r n.0
  add_rises xs (c ∷ d ∷ ds) r n = absurd n

  add_below : (xs ys : List ℕ) → AllAtMost w.counter xs → NewCounts xs ys → AllAtMost w.counter (xs ++ ys)
  unfolding NewCounts
  add_below xs [] r n = subst (AllAtMost w.counter) (sym (append_none xs)) r
  add_below xs (c ∷ []) r n = below-snoc w.counter xs c r n.1
  add_below xs (c ∷ d ∷ ds) r n = absurd n

  new_read : (k : Kind) (given c : ℕ) (h : Hands) (xs : List ℕ) → (needs_even (way_of k) ≡ true → AllAtMost c xs × (c ≤ w.counter))
      → NewCounts xs (count_if (needs_even (way_of k)) (count_by k given h c))
  unfolding NewCounts
  new_read kind.Abs given c h xs f = f refl
  new_read kind.Mono given c h xs f = f refl
  new_read kind.Uptime given c h xs f = f refl
  new_read kind.Fast given c h xs f = tt
  new_read kind.Diff given c h xs f = tt
  new_read kind.Back given c h xs f = tt
  new_read kind.Utc given c h xs f = f refl

  one_new : (xs : List ℕ) (c : ℕ) → AllAtMost c xs → c ≤ w.counter → NewCounts xs (c ∷ [])
  unfolding NewCounts
  one_new xs c a b = (a, b)

  no_read : (xs : List ℕ) → NewCounts xs []
  unfolding NewCounts
  no_read xs = tt

  -- what a new entry owes
  record IsNext (log : List Noted) (o : ℕ) (e : Entry) : Type 0 where
    fits : FitsEntry w o e
    later : AllAtMost o (map opening_of log)
    reached : o ≤ w.turn
    counts : NewCounts (counts_of log) (counts_in e)

  log-snoc : (log : List Noted) (e : Entry) (o : ℕ) → FitsLog w log → IsNext log o e → FitsLog w (log ++ noted e o ∷ [])
  log-snoc log e o f n = let openings = map-append opening_of log (noted e o ∷ []) in let counts = counts-snoc log (noted e o) in record {
    each = λ i x at. ⊎_elim (λ (was : get_elem? log i ≡ some x). f.each i x was)
        (λ (same : noted e o ≡ x). subst (λ (y : Noted). FitsEntry w y.opening y.entry) same n.fits) (at_snoc log (noted e o) x i at);
    rises = subst NeverFall (sym openings) (rises-snoc (map opening_of log) o f.rises n.later);
    below = subst (AllAtMost w.turn) (sym openings) (below-snoc w.turn (map opening_of log) o f.below n.reached);
    counts_rise = subst NeverFall (sym counts) (add_rises (counts_of log) (counts_in e) f.counts_rise n.counts);
    counts_below = subst (AllAtMost w.counter) (sym counts) (add_below (counts_of log) (counts_in e) f.counts_below n.counts);
  }

  log_after : (log : List Noted) (a : Option Entry) (o : ℕ) → FitsLog w log → ((e : Entry) → a ≡ Some e → IsNext log o e) → FitsLog w (gained log a o)
  log_after log None o f gains = f
  log_after log (Some e) o f gains = log-snoc log e o f (gains e refl)

  call_after : (seen : ℕ) (log : List Noted) (y : Way) (ask : Ask) (s : Scan) (a : Option Entry) → a ≡ s.answer → undecided a ≡ true
      → (s.answer ≡ None → FitsCall w seen log y ask s) → FitsCall w seen (gained log a s.first) y ask s
  call_after seen log y ask s None is un f = f (sym is)
  call_after seen log y ask s (Some e) is un f = absurd (true≢false (sym un))

  -- a call goes on, or is decided
  record Outcome (seen : ℕ) (log : List Noted) (y : Way) (ask : Ask) (s : Scan) : Type 0 where
    stays_open : s.answer ≡ None → FitsCall w seen log y ask s
    gains : (e : Entry) → s.answer ≡ Some e → IsNext log s.first e

  none_some : (e : Entry) → None ≡ Some e → ⊥
  none_some e p = cc

  some_none : (e : Entry) → Some e ≡ None → ⊥
  some_none e p = cc

  some_same : (e d : Entry) → Some e ≡ Some d → e ≡ d
  some_same e d p = cc

  goes_open : (seen : ℕ) (log : List Noted) (y : Way) (ask : Ask) (s : Scan) → FitsCall w seen log y ask s → Outcome seen log y ask s
  goes_open seen log y ask s f = record { stays_open = λ _. f; gains = λ e same. absurd (none_some e (sym f.undecided ∙ same)) }

  goes_end : (seen : ℕ) (log : List Noted) (y : Way) (ask : Ask) (s : Scan) (e : Entry) → IsNext log s.first e → Outcome seen log y ask (ends (Some e) s)
  goes_end seen log y ask s e n = record {
    stays_open = λ none-yet. absurd (some_none e none-yet);
    gains = λ d same. subst (IsNext log s.first) (some_same e d same) n;
  }

  goes_astray : (seen : ℕ) (log : List Noted) (y : Way) (ask : Ask) (s : Scan) → FitsCall w seen log y ask s → Outcome seen log y ask (ends None s)
  goes_astray seen log y ask s f = goes_open seen log y ask (ends None s) record {
    begun = refl;
    undecided = refl;
    later = f.later;
    tick = f.tick;
    near = f.near;
    reached = f.reached;
    kind = λ e. absurd (true≢false (sym e));
    fields = λ e. absurd (true≢false (sym e));
    counters = f.counters;
  }

  seen_more : (seen seen' : ℕ) (log : List Noted) (y : Way) (ask : Ask) (s : Scan) → seen ≤ seen' → FitsCall w seen log y ask s → FitsCall w seen' log y ask s
  seen_more seen seen' log y ask s up f = let tick = f.tick in
      record {
        begun = f.begun;
        undecided = f.undecided;
        later = f.later;
        tick = omega arith;
        near = f.near;
        reached = f.reached;
        kind = f.kind;
        fields = f.fields;
        counters = f.counters;
      }

  -- after a load by which the call is as far as s
  record Loaded (v : PassView) (seen : ℕ) (turns counters : List ℕ) (marks : List MarkLoad) (l : Load) (s : Scan) : Type 0 where
    number : v.number < w.made
    log : FitsLog w v.entries
    in_journal : seen ≤ length w.journal
    rises : NeverFall turns
    below : AllAtMost w.turn turns
    known : (i t : ℕ) → get_elem? turns i ≡ some t → t / 2 < seen
    counters_rise : NeverFall counters
    counters_below : AllAtMost w.counter counters
    marked : (i : ℕ) (k : MarkLoad) → get_elem? marks i ≡ some k → FitsMark w k
    is : run v.ask fresh (v.loads ++ l ∷ []) ≡ s
    outcome : Outcome seen v.entries (way_of v.ask.kind) v.ask s

  fits_settled : (v : PassView) (seen : ℕ) (turns counters : List ℕ) (marks : List MarkLoad) (l : Load) (s : Scan) → Loaded v seen turns counters
      marks l s → FitsPass w (settled v seen turns counters marks l s)
  fits_settled v seen turns counters marks l s f = record {
    seen = f.in_journal;
    rises = f.rises;
    below = f.below;
    known = f.known;
    number = f.number;
    counters_rise = f.counters_rise;
    counters_below = f.counters_below;
    marks = f.marked;
    log = log_after v.entries s.answer s.first f.log f.outcome.gains;
    call = λ un. subst (FitsCall w seen (gained v.entries s.answer s.first) (way_of v.ask.kind) v.ask) (sym f.is)
        (call_after seen v.entries (way_of v.ask.kind) v.ask s s.answer refl un f.outcome.stays_open);
  }

  known-snoc : (turns : List ℕ) (seen : ℕ) → ((i t : ℕ) → get_elem? turns i ≡ some t → t / 2 < seen) → seen ≤ w.turn / 2 + 1
      → (i t : ℕ) → get_elem? (turns ++ w.turn ∷ []) i ≡ some t → t / 2 < w.turn / 2 + 1
  known-snoc turns seen old more i t at = ⊎_elim (λ (was : get_elem? turns i ≡ some t). let h = old i t was in omega arith)
      (λ (same : w.turn ≡ t). let e : t / 2 ≡ w.turn / 2 = ap (λ k. k / 2) (sym same) in omega arith) (at_snoc turns w.turn t i at)

  -- a call that read its tick whole, and finds its mark full
  pub whole_hands : (seen : ℕ) (log : List Noted) (y : Way) (ask : Ask) (s : Scan) → seen ≤ length w.journal → FitsCall w seen log y ask s
      → has_fields s ≡ true → w.marks s.tick ≡ full_mark s.tick → (h : Hands) × (s.fields ≡ pack h) × (get_elem? w.journal s.tick ≡ some h)
  whole_hands seen log y ask s in-J f whole is-full = let tick = f.tick in let near = f.near in
      let k = both_true s.good (length s.fields == 15) whole in let h = there w.journal s.tick (omega arith) in
      (h.0, whole_words h.0 s.fields (f.fields k.0 is-full h.0 h.1) (eqb-true (length s.fields) 15 k.1), h.1)

  less_is : (a b : ℕ) (c : Bool) → nat_lt a b ≡ c → ((c ≡ true) × (a < b)) ⊎ ((c ≡ false) × (b ≤ a))
  less_is a b true e = inl (refl, ltb-true a b e)
  less_is a b false e = inr (refl, ltb-false a b e)

  module _ (sane : Agrees w) where
    -- a call that finds the turn word as it was, and even. Its tick is the last
    record AtLast (s : Scan) : Type 0 where
      bound : w.bound ≡ w.counter
      last : s.first / 2 + 1 ≡ length w.journal
      mark : w.marks (s.first / 2) ≡ full_mark (s.first / 2)

    at_last : (s : Scan) → w.turn ≡ s.first → s.first % 2 ≡ 0 → AtLast s
    at_last s same even = let closed : w.turn % 2 ≡ 0 = ap (λ t. t % 2) same ∙ even in record {
      bound = sane.closed_bound closed;
      last = ap (λ t. t / 2 + 1) (sym same) ∙ sane.last;
      mark = subst (λ t. w.marks (t / 2) ≡ full_mark (t / 2)) same (sane.closed_mark closed);
    }

    timely : (s : Scan) (c : ℕ) → AtLast s → c ≤ w.counter → IsTimely w (s.first / 2) c
    timely s c a le = let last = a.last in record {
      next = λ g at. let near = in_list w.journal (s.first / 2 + 1) g at in absurd (omega arith);
      last = λ _. subst (λ z. c ≤ z) (sym a.bound) le;
    }

    first_counter : (seen : ℕ) (log : List Noted) (y : Way) (ask : Ask) (s : Scan) → FitsCall w seen log y ask s → (length s.counters == 1) ≡ true
        → (counter_of s ≤ w.counter) × AllAtMost (counter_of s) (counts_of log)
        × ((h : Hands) → get_elem? w.journal (s.first / 2) ≡ some h → h.count ≤ counter_of s) × (y ≡ past → ask.given ≤ counter_of s)
    first_counter seen log y ask s f one = f.counters 0 (counter_of s) (one_number s.counters (eqb-true (length s.counters) 1 one))

    -- a full read that finds the turn word as it was
    pub full_read : (ask : Ask) (seen : ℕ) (log : List Noted) (s : Scan) → seen ≤ length w.journal → FitsCall w seen log full ask s
        → (has_fields s && (length s.counters == 1)) ≡ true → w.turn ≡ s.first
        → (h : Hands) × (s.fields ≡ pack h) × (get_elem? w.journal s.tick ≡ some h) × (h.count ≤ counter_of s) × IsTimely w s.tick (counter_of s)
        × AllAtMost (counter_of s) (counts_of log) × (counter_of s ≤ w.counter)
    full_read ask seen log s in-J f all same = let b = both_true (has_fields s) (length s.counters == 1) all in
        let good = both_true s.good (length s.fields == 15) b.0 in let k = f.kind good.0 in
        let a = at_last s same k.1 in let h = whole_hands seen log full ask s in-J f b.0 (subst (λ t. w.marks t ≡ full_mark t) (sym k.0) a.mark) in
        let c = first_counter seen log full ask s f b.1 in (
          h.0,
          h.1,
          h.2,
          c.2 h.0 (subst (λ t. get_elem? w.journal t ≡ some h.0) k.0 h.2),
          subst (λ t. IsTimely w t (counter_of s)) (sym k.0) (timely s (counter_of s) a c.0),
          c.1,
          c.0,
        )

    crossed : (s : Scan) → s.first ≤ w.turn → s.first % 2 ≡ 0 → (w.turn == s.first) ≡ false → MetWindup w s.first s.first w.turn
    crossed s reached even is = let less : s.first < w.turn = ⊎_elim
        (λ (x : ((w.turn == s.first) ≡ true) × (w.turn ≡ s.first)). absurd (true≢false (sym x.0 ∙ is)))
        (λ (x : ((w.turn == s.first) ≡ false) × (w.turn ≢ s.first)). let ne = x.1 in omega arith) (eqb_tells w.turn s.first) in
        (refl, le_refl w.turn, inr (less, even))

    turn_whole : (ask : Ask) (e : way_of ask.kind ≡ full) (seen : ℕ) (log : List Noted) (s : Scan) (b c : Bool) → seen ≤ length w.journal
        → FitsCall w seen log full ask s → (has_fields s && (length s.counters == 1)) ≡ b → (w.turn == s.first) ≡ c
        → Outcome seen log full ask (ends (turn_ends b ask s w.turn) s)
    turn_whole ask e seen log s false c in-J f is same = goes_astray seen log full ask s f
    turn_whole ask e seen log s true c in-J f is same = goes_end seen log full ask s (at_turn (w.turn == s.first) ask s w.turn)
        (subst (λ b. IsNext log s.first (at_turn b ask s w.turn)) (sym same) (entry c same))
      where
        entry : (c : Bool) → (w.turn == s.first) ≡ c → IsNext log s.first (at_turn c ask s w.turn)
        entry true same = let h = full_read ask seen log s in-J f is (eqb-true w.turn s.first same) in
            let u : unpack s.fields ≡ h.0 = reads s.tick h.0 s.fields h.1 h.2 in
            let k = f.kind (both_true s.good (length s.fields == 15) (both_true (has_fields s) (length s.counters == 1) is).0).0 in record {
              fits = record {
                ask = ask;
                hands = unpack s.fields;
                counter = counter_of s;
                at = h.2 ∙ ap some (sym u);
                is = refl;
                count = subst (λ z. FitsCount w z ask.given s.tick (unpack s.fields) (counter_of s)) (sym e)
                    (subst (λ (g : Hands). g.count ≤ counter_of s) (sym u) h.3, h.4);
                tick = subst (λ z. IsReadSince z s.tick s.first) (sym e) k.0;
              };
              later = f.later;
              reached = f.reached;
              counts = new_read ask.kind ask.given (counter_of s) (unpack s.fields) (counts_of log) (λ _. (h.5, h.6));
            }
        entry false same = let k = f.kind (both_true s.good (length s.fields == 15) (both_true (has_fields s) (length s.counters == 1) is).0).0 in
            record {
              fits = subst (λ z. FitsAgain w z s.first s.first w.turn) (sym e) (crossed s f.reached k.1 same);
              later = f.later;
              reached = f.reached;
              counts = no_read (counts_of log);
            }

    turn_back : (ask : Ask) (e : way_of ask.kind ≡ past) (seen : ℕ) (log : List Noted) (s : Scan) (b c : Bool) → seen ≤ length w.journal
        → FitsCall w seen log past ask s → (s.good && s.line && (length s.counters == 1)) ≡ b → (w.turn == s.first) ≡ c
        → Outcome seen log past ask (ends (turn_ends b ask s w.turn) s)
    turn_back ask e seen log s false c in-J f is same = goes_astray seen log past ask s f
    turn_back ask e seen log s true c in-J f is same = goes_end seen log past ask s (at_turn (w.turn == s.first) ask s w.turn)
        (subst (λ b. IsNext log s.first (at_turn b ask s w.turn)) (sym same) (entry c same))
      where
        entry : (c : Bool) → (w.turn == s.first) ≡ c → IsNext log s.first (at_turn c ask s w.turn)
        entry true same = let b = both_true (s.good && s.line) (length s.counters == 1) is in let g = both_true s.good s.line b.0 in
            let k = f.kind g.0 in let top = k.top g.1 in let a = at_last s (eqb-true w.turn s.first same) top.1 in
            let tick = f.tick in let near = f.near in let h = there w.journal s.tick (omega arith) in let known = top.2 h.0 h.1 in
            let u : unpack s.fields ≡ h.0 = reads s.tick h.0 s.fields known.0 h.1 in let c = first_counter seen log past ask s f b.1 in record {
              fits = record {
                ask = ask;
                hands = unpack s.fields;
                counter = counter_of s;
                at = h.1 ∙ ap some (sym u);
                is = refl;
                count = subst (λ z. FitsCount w z ask.given s.tick (unpack s.fields) (counter_of s)) (sym e) (
                  inr (subst (λ (x : Hands). x.count < ask.given) (sym u) known.1),
                  subst (λ t. IsTimely w t ask.given) (sym top.0) (timely s ask.given a (le_trans (c.3 refl) c.0)),
                );
                tick = subst (λ z. IsReadSince z s.tick s.first) (sym e) k.range;
              };
              later = f.later;
              reached = f.reached;
              counts = new_read ask.kind ask.given (counter_of s) (unpack s.fields) (counts_of log)
                  (λ needs. absurd (true≢false (sym needs ∙ ap needs_even e)));
            }
        entry false same = let b = both_true (s.good && s.line) (length s.counters == 1) is in let g = both_true s.good s.line b.0 in
            let top = (f.kind g.0).top g.1 in record {
              fits = subst (λ z. FitsAgain w z s.first s.first w.turn) (sym e)
                  (inl (crossed s f.reached top.1 same));
              later = f.later;
              reached = f.reached;
              counts = no_read (counts_of log);
            }

    turn_by : (y : Way) (ask : Ask) (e : way_of ask.kind ≡ y) (seen : ℕ) (log : List Noted) (s : Scan) → seen ≤ length w.journal
        → FitsCall w seen log y ask s → Outcome seen log y ask (turn_again y ask s w.turn)
    turn_by full ask e seen log s in-J f = turn_whole ask e seen log s _ _ in-J f refl refl
    turn_by quick ask e seen log s in-J f = goes_astray seen log quick ask s f
    turn_by past ask e seen log s in-J f = turn_back ask e seen log s _ _ in-J f refl refl

    -- the counter
    counted : (seen : ℕ) (log : List Noted) (y : Way) (ask : Ask) (s : Scan) → FitsLog w log → FitsCall w seen log y ask s
        → (y ≡ past → ask.given ≤ w.counter) → (i c : ℕ) → get_elem? (s.counters ++ w.counter ∷ []) i ≡ some c
        → (c ≤ w.counter) × AllAtMost c (counts_of log) × ((h : Hands) → get_elem? w.journal (s.first / 2) ≡ some h → h.count ≤ c) × (y ≡ past → ask.given ≤ c)
    counted seen log y ask s l f beyond i c at = ⊎_elim (λ (was : get_elem? s.counters i ≡ some c). f.counters i c was)
        (λ (new : w.counter ≡ c). subst (λ x. (x ≤ w.counter) × AllAtMost x (counts_of log)
        × ((h : Hands) → get_elem? w.journal (s.first / 2) ≡ some h → h.count ≤ x) × (y ≡ past → ask.given ≤ x)) new
        (le_refl w.counter, l.counts_below, sane.reached (s.first / 2), beyond)) (at_snoc s.counters w.counter c i at)

    counter_down : (ask : Ask) (e : way_of ask.kind ≡ past) (seen : ℕ) (log : List Noted) (s : Scan) (a b : Bool) → FitsLog w log
        → FitsCall w seen log past ask s → (s.good && s.line && (length s.counters == 0)) ≡ a → nat_lt w.counter ask.given ≡ b
        → Outcome seen log past ask (counter_back a ask s w.counter)
    counter_down ask e seen log s false b l f is less = goes_astray seen log past ask s f
    counter_down ask e seen log s true b l f is less = subst (λ x. Outcome seen log past ask (counts_back x ask s w.counter)) (sym less) (next b less)
      where
        next : (b : Bool) → nat_lt w.counter ask.given ≡ b → Outcome seen log past ask (counts_back b ask s w.counter)
        next true less = goes_end seen log past ask s (Ahead ask.given w.counter) record {
          fits = ltb-true w.counter ask.given less;
          later = f.later;
          reached = f.reached;
          counts = one_new (counts_of log) w.counter l.counts_below (le_refl w.counter);
        }
        next false less = goes_open seen log past ask (record s { counters = s.counters ++ w.counter ∷ [] }) record {
          begun = f.begun;
          undecided = f.undecided;
          later = f.later;
          tick = f.tick;
          near = f.near;
          reached = f.reached;
          kind = λ good. let k = f.kind good in record { range = k.range; above = k.above; top = k.top };
          fields = f.fields;
          counters = counted seen log past ask s l f (λ _. ltb-false w.counter ask.given less);
        }

    not_past : {P : Type 0} → full ≡ past → P
    not_past x = cc

    counter_kind : (k : Way) (ask : Ask) (e : way_of ask.kind ≡ k) (seen : ℕ) (log : List Noted) (s : Scan) → FitsLog w log
        → FitsCall w seen log k ask s → Outcome seen log k ask (takes_counter k ask s w.counter)
    counter_kind full ask e seen log s l f = goes_open seen log full ask (takes_counter full ask s w.counter) record {
      begun = refl;
      undecided = refl;
      later = f.later;
      tick = f.tick;
      near = f.near;
      reached = f.reached;
      kind = λ good. f.kind (both_true s.good _ good).0;
      fields = λ good. f.fields (both_true s.good _ good).0;
      counters = counted seen log full ask s l f (λ beyond. not_past beyond);
    }
    counter_kind quick ask e seen log s l f = goes_astray seen log quick ask s f
    counter_kind past ask e seen log s l f = counter_down ask e seen log s _ _ l f refl refl

    -- the first load of a call
    opened_fits : (y : Way) (ask : Ask) (e : way_of ask.kind ≡ y) (seen : ℕ) (log : List Noted) (b : Bool) → is_even w.turn ≡ b → FitsLog w log
        → w.turn / 2 < seen → Outcome seen log y ask (opened (needs_even y && not b) ask w.turn)
    opened_fits y ask e seen log b is f near = by_way y b e is
      where
        odd : (n : ℕ) → n < 2 → (n == 0) ≡ false → n ≡ 1
        odd zero h e = absurd (true≢false e)
        odd (suc zero) h e = refl
        odd (suc (suc n)) h e = absurd (omega arith)

        open_call : (y : Way) → (FitsKind w y ask (opens_at w.turn)) → Outcome seen log y ask (opens_at w.turn)
        open_call y fits = goes_open seen log y ask (opens_at w.turn) record {
          begun = refl;
          undecided = refl;
          later = f.below;
          tick = near;
          near = le_refl (w.turn / 2);
          reached = le_refl w.turn;
          kind = λ _. fits;
          fields = λ _ _ h at i y e. absurd (some-ne-none y (sym e));
          counters = λ i c e. absurd (some-ne-none c (sym e));
        }

        by_way : (y : Way) (b : Bool) → way_of ask.kind ≡ y → is_even w.turn ≡ b → Outcome seen log y ask (opened (needs_even y && not b) ask w.turn)
        by_way full false e is = goes_end seen log full ask (opens_at w.turn)
            (Again ask.kind w.turn w.turn) record {
              fits = subst (λ z. FitsAgain w z w.turn w.turn w.turn) (sym e)
                  (refl, le_refl w.turn, inl (refl, odd (w.turn % 2) (omega arith) is));
              later = f.below;
              reached = le_refl w.turn;
              counts = no_read (counts_of log);
            }
        by_way full true e is = open_call full (refl, eqb-true (w.turn % 2) 0 is)
        by_way quick b e is = open_call quick refl
        by_way past b e is = open_call past record {
          range = (le_refl (w.turn / 2), omega arith);
          above = λ less. absurd (omega arith);
          top = λ e. absurd (true≢false (sym e));
        }

    pub turn_fits : (v : PassView) → FitsPass w v → v.calling ≡ true → FitsPass w (turn_loaded w.turn v)
    turn_fits v f calling = let call = f.call calling in let s : Scan = scan_of v in let t : ℕ = w.turn in let seen = f.seen in let last = sane.last in
        let step_is : after v.ask s (Turn t) ≡ turn_again (way_of v.ask.kind) v.ask s t = ap (λ b. turned b v.ask s t) call.begun in
        let more : v.seen ≤ t / 2 + 1 = omega arith in
        let k = turn_by (way_of v.ask.kind) v.ask refl (t / 2 + 1) v.entries s (omega arith)
        (seen_more v.seen (t / 2 + 1) v.entries (way_of v.ask.kind) v.ask s more call) in
        fits_settled v (t / 2 + 1) (v.turns ++ t ∷ []) v.counters v.marks (Turn t) (after v.ask s (Turn t)) record {
          number = f.number;
          log = f.log;
          marked = f.marks;
          in_journal = omega arith;
          rises = rises-snoc v.turns t f.rises f.below;
          below = below-snoc t v.turns t f.below (le_refl t);
          known = known-snoc v.turns v.seen f.known more;
          counters_rise = f.counters_rise;
          counters_below = f.counters_below;
          is = run-snoc v.ask fresh v.loads (Turn t);
          outcome = subst (Outcome (t / 2 + 1) v.entries (way_of v.ask.kind) v.ask) (sym step_is) k;
        }

    pub begun_fits : (v : PassView) (ask : Ask) → FitsPass w v → FitsPass w (turn_loaded w.turn (call_begun ask v))
    begun_fits v ask f = let t : ℕ = w.turn in let seen = f.seen in let last = sane.last in let more : v.seen ≤ t / 2 + 1 = omega arith in
        fits_settled (call_begun ask v) (t / 2 + 1) (v.turns ++ t ∷ []) v.counters v.marks (Turn t)
        (opened (needs_even (way_of ask.kind) && not (is_even t)) ask t) record {
          number = f.number;
          log = f.log;
          marked = f.marks;
          in_journal = omega arith;
          rises = rises-snoc v.turns t f.rises f.below;
          below = below-snoc t v.turns t f.below (le_refl t);
          known = known-snoc v.turns v.seen f.known more;
          counters_rise = f.counters_rise;
          counters_below = f.counters_below;
          is = refl;
          outcome = opened_fits (way_of ask.kind) ask refl (t / 2 + 1) v.entries (is_even t) refl f.log (omega arith);
        }

    pub counter_fits : (v : PassView) → FitsPass w v → v.calling ≡ true → FitsPass w (counter_loaded w.counter v)
    counter_fits v f calling = let call = f.call calling in let s : Scan = scan_of v in let c : ℕ = w.counter in
        fits_settled v v.seen v.turns (v.counters ++ c ∷ []) v.marks (Counter c) (after v.ask s (Counter c)) record {
          number = f.number;
          log = f.log;
          marked = f.marks;
          in_journal = f.seen;
          rises = f.rises;
          below = f.below;
          known = f.known;
          counters_rise = rises-snoc v.counters c f.counters_rise f.counters_below;
          counters_below = below-snoc c v.counters c f.counters_below (le_refl c);
          is = run-snoc v.ask fresh v.loads (Counter c);
          outcome = counter_kind (way_of v.ask.kind) v.ask refl v.seen v.entries s f.log call;
        }

  one_more_field : (k : Way) (ask : Ask) (s : Scan) (x : ℕ) → not s.line ≡ true → FitsKind w k ask s
      → FitsKind w k ask (record s { fields = s.fields ++ x ∷ [] })
  one_more_field full ask s x off fits = fits
  one_more_field quick ask s x off fits = fits
  one_more_field past ask s x off fits = record { range = fits.range; above = fits.above; top = λ line. absurd (not_both s.line off line) }
    where
      not_both : (b : Bool) → not b ≡ true → b ≡ true → ⊥
      not_both true a e = true≢false (sym a)
      not_both false a e = true≢false (sym e)

  pub field_fits : (v : PassView) (f x : ℕ) → FitsPass w v → v.calling ≡ true
      → ((h : Hands) → w.marks (scan_of v).tick ≡ full_mark (scan_of v).tick → get_elem? w.journal (scan_of v).tick ≡ some h
      → get_elem? (pack h) f ≡ some x) → FitsPass w (field_loaded f x v)
  field_fits v f x fits calling slot = let call = fits.call calling in let s : Scan = scan_of v in let l : Load = Field s.tick f x in
      fits_settled v v.seen v.turns v.counters v.marks l (after v.ask s l) record {
        number = fits.number;
        log = fits.log;
        marked = fits.marks;
        in_journal = fits.seen;
        rises = fits.rises;
        below = fits.below;
        known = fits.known;
        counters_rise = fits.counters_rise;
        counters_below = fits.counters_below;
        is = run-snoc v.ask fresh v.loads l;
        outcome = goes_open v.seen v.entries (way_of v.ask.kind) v.ask (after v.ask s l) record {
          begun = refl;
          undecided = refl;
          later = call.later;
          tick = call.tick;
          near = call.near;
          reached = call.reached;
          kind = λ good. let g = both_true _ _ good in let g' = both_true _ _ g.0 in let g'' = both_true s.good _ g'.0 in
              kind_after (way_of v.ask.kind) v.ask s x good (one_more_field (way_of v.ask.kind) v.ask s x g''.1 (call.kind g''.0));
          fields = λ good same h at i y e. let g = both_true _ _ good in let g' = both_true _ _ g.0 in let g'' = both_true s.good _ g'.0 in
              ⊎_elim (λ (was : get_elem? s.fields i ≡ some y). call.fields g''.0 same h at i y was)
              (λ (z : (i ≡ length s.fields) × (x ≡ y)). let f-is : f ≡ length s.fields = eqb-true f (length s.fields) g.1 in
              let q : get_elem? (pack h) f ≡ some x = slot h same at in
              subst (λ (p : ℕ × ℕ). get_elem? (pack h) p.0 ≡ some p.1) (λ j. ((f-is ∙ sym z.0) j, z.1 j)) q)
              (at_end s.fields x y i e);
          counters = call.counters;
        };
      }
    where
      kind_after : (k : Way) (ask : Ask) (s : Scan) (x : ℕ) {b : Bool} → b ≡ true → FitsKind w k ask (record s { fields = s.fields ++ x ∷ [] })
          → FitsKind w k ask (record s { begun = true; good = b; fields = s.fields ++ x ∷ []; answer = None })
      kind_after full ask s x e fits = fits
      kind_after quick ask s x e fits = fits
      kind_after past ask s x e fits = record { range = fits.range; above = fits.above; top = fits.top }

  module _ (start : get_elem? w.journal 0 ≡ some cold) (later : (m : ℕ) → m < length w.journal → w.marks m ≢ full_mark m → (k : ℕ)
      × IsMark (w.marks m) k × (m + 10 ≤ k) × (k % 10 ≡ m % 10) × (k ≤ top_tick w.turn)) where
    not_full : (m : ℕ) → (w.marks m == full_mark m) ≡ false → w.marks m ≢ full_mark m
    not_full m is e = true≢false (sym (eq-eqb _ _ e) ∙ is)

    module _ (seen : ℕ) (log : List Noted) (s : Scan) (in-J : seen ≤ length w.journal) where
      -- Fast and Diff
      light : (ask : Ask) (e : way_of ask.kind ≡ quick) (a b : Bool) → FitsCall w seen log quick ask s → (s.good ≡ true → s.tick ≡ s.first / 2)
          → (has_fields s && (s.tick == s.tick)) ≡ a → (w.marks s.tick == full_mark s.tick) ≡ b
          → Outcome seen log quick ask (ends (mark_ends a ask s (w.marks s.tick)) s)
      light ask e false b f here is same = goes_astray seen log quick ask s f
      light ask e true b f here is same = goes_end seen log quick ask s (at_mark (w.marks s.tick == full_mark s.tick) ask s (w.marks s.tick))
          (subst (λ c. IsNext log s.first (at_mark c ask s (w.marks s.tick))) (sym same) (entry b same))
        where
          entry : (b : Bool) → (w.marks s.tick == full_mark s.tick) ≡ b → IsNext log s.first (at_mark b ask s (w.marks s.tick))
          entry true same = let whole = (both_true (has_fields s) _ is).0 in
              let h = whole_hands seen log quick ask s in-J f whole (eqb-true _ _ same) in
              let u : unpack s.fields ≡ h.0 = reads s.tick h.0 s.fields h.1 h.2 in record {
                fits = record {
                  ask = ask;
                  hands = unpack s.fields;
                  counter = counter_of s;
                  at = h.2 ∙ ap some (sym u);
                  is = refl;
                  count = subst (λ z. FitsCount w z ask.given s.tick (unpack s.fields) (counter_of s)) (sym e) tt;
                  tick = subst (λ z. IsReadSince z s.tick s.first) (sym e) (here (both_true s.good _ whole).0);
                };
                later = f.later;
                reached = f.reached;
                counts = new_read ask.kind ask.given (counter_of s) (unpack s.fields) (counts_of log)
                    (λ needs. absurd (true≢false (sym needs ∙ ap needs_even e)));
              }
          entry false same = let tick = f.tick in let near = f.near in let whole = (both_true (has_fields s) _ is).0 in record {
            fits = subst (λ z. FitsAgain w z s.first (full_mark s.tick) (w.marks s.tick)) (sym e)
                (subst (λ m. LostSlot w m (full_mark s.tick) (w.marks s.tick)) (here (both_true s.good _ whole).0)
                (refl, later s.tick (omega arith) (not_full s.tick same)));
            later = f.later;
            reached = f.reached;
            counts = no_read (counts_of log);
          }

      -- Back
      module _ (ask : Ask) (e : way_of ask.kind ≡ past) (f : FitsCall w seen log past ask s) (whole : has_fields s ≡ true) (off : not s.line ≡ true) where
        walk : FitsWalk w ask s
        walk = f.kind (both_true s.good _ whole).0

        in-walk : s.first / 2 < length w.journal
        in-walk = let tick = f.tick in omega arith

        -- the line below a tick that was looked at
        above_timely : s.tick < s.first / 2 → IsTimely w s.tick ask.given
        above_timely less = let in-J' = in-walk in record { next = walk.above less; last = λ e. absurd (omega arith) }

        back_read : (h : Hands) → s.fields ≡ pack h → get_elem? w.journal s.tick ≡ some h → ((s.tick ≡ 0) ⊎ (h.count < ask.given))
            → IsTimely w s.tick ask.given → Outcome seen log past ask (ends (Some (read_by ask s)) s)
        back_read h is at line timely = let u : unpack s.fields ≡ h = reads s.tick h s.fields is at in goes_end seen log past ask s (read_by ask s) record {
          fits = record {
            ask = ask;
            hands = unpack s.fields;
            counter = counter_of s;
            at = at ∙ ap some (sym u);
            is = refl;
            count = subst (λ z. FitsCount w z ask.given s.tick (unpack s.fields) (counter_of s)) (sym e)
                (subst (λ (g : Hands). (s.tick ≡ 0) ⊎ (g.count < ask.given)) (sym u) line, timely);
            tick =
                subst (λ z. IsReadSince z s.tick s.first) (sym e) walk.range;
          };
          later = f.later;
          reached = f.reached;
          counts = new_read ask.kind ask.given (counter_of s) (unpack s.fields) (counts_of log) (λ needs. absurd (true≢false (sym needs ∙ ap needs_even e)));
        }

        finds_top_fits : (h : Hands) → s.fields ≡ pack h → get_elem? w.journal s.tick ≡ some h → h.count < ask.given → s.tick ≡ s.first / 2
            → (b : Bool) → is_even s.first ≡ b → Outcome seen log past ask (finds_top b ask s)
        finds_top_fits h is at less top true even = goes_open seen log past ask (record s { line = true }) record {
          begun = f.begun;
          undecided = f.undecided;
          later = f.later;
          tick = f.tick;
          near = f.near;
          reached = f.reached;
          kind = λ _. record {
            range = walk.range;
            above = walk.above;
            top = λ _. (
              top,
              eqb-true (s.first % 2) 0 even,
              λ g at-g. let same : h ≡ g = some-injective h g (sym at ∙ at-g) in
                  (is ∙ ap pack same, subst (λ (x : Hands). x.count < ask.given) same less),
            );
          };
          fields = f.fields;
          counters = f.counters;
        }
        finds_top_fits h is at less top false even = goes_end seen log past ask s
            (Again ask.kind s.first s.first) record {
              fits = subst (λ z. FitsAgain w z s.first s.first s.first) (sym e)
                  (inl (refl, f.reached, inl (refl, odd (s.first % 2) (omega arith) even)));
              later = f.later;
              reached = f.reached;
              counts = no_read (counts_of log);
            }
          where
            odd : (n : ℕ) → n < 2 → (n == 0) ≡ false → n ≡ 1
            odd zero h e = absurd (true≢false e)
            odd (suc zero) h e = refl
            odd (suc (suc n)) h e = absurd (omega arith)

        finds_line_fits : (h : Hands) → s.fields ≡ pack h → get_elem? w.journal s.tick ≡ some h → h.count < ask.given
            → (b : Bool) → (s.tick == s.first / 2) ≡ b → Outcome seen log past ask (finds_line b ask s)
        finds_line_fits h is at less true same = finds_top_fits h is at less (eqb-true _ _ same) (is_even s.first) refl
        finds_line_fits h is at less false same = let near = f.near in let ne : s.tick ≢ s.first / 2 = λ e. true≢false (sym (eq-eqb _ _ e) ∙ same) in
            back_read h is at (inr less) (above_timely (omega arith))

        goes_down_fits : (h : Hands) → s.fields ≡ pack h → get_elem? w.journal s.tick ≡ some h → ask.given ≤ h.count
            → (a b : Bool) → (s.tick == 0) ≡ a → (s.tick + 9 == s.first / 2) ≡ b → Outcome seen log past ask (goes_down a b ask s)
        goes_down_fits h is at low true b zero-is old-is = let z : s.tick ≡ 0 = eqb-true s.tick 0 zero-is in
            let same : cold ≡ h = some-injective cold h (sym start ∙ subst (λ t. get_elem? w.journal t ≡ some h) z at) in
            let none : ask.given ≤ 0 = subst (λ (x : Hands). ask.given ≤ x.count) (sym same) low in
            back_read h is at (inl z) record { next = λ g at-g. omega arith; last = λ e. omega arith }
        goes_down_fits h is at low false true zero-is old-is = let u : unpack s.fields ≡ h = reads s.tick h s.fields is at in
            let ne : s.tick ≢ 0 = λ e. true≢false (sym (eq-eqb _ _ e) ∙ zero-is) in
            goes_end seen log past ask s (TooOld ask.given (unpack s.fields).count) record {
              fits = record {
                tick = s.tick;
                hands = h;
                at = at;
                is = ap (λ (x : Hands). x.count) (sym u);
                not_after = subst (λ (x : Hands). ask.given ≤ x.count) (sym u) low;
                later = eqb-true (s.tick + 9) (s.first / 2) old-is;
                some_tick = omega arith;
                reached = in-walk;
              };
              later = f.later;
              reached = f.reached;
              counts = no_read (counts_of log);
            }
        goes_down_fits h is at low false false zero-is old-is = let near = f.near in let range = walk.range in
            let ne : s.tick ≢ 0 = λ e. true≢false (sym (eq-eqb _ _ e) ∙ zero-is) in let ne' : s.tick
            + 9 ≢ s.first / 2 = λ e. true≢false (sym (eq-eqb _ _ e) ∙ old-is) in
            goes_open seen log past ask (record s { tick = s.tick - 1; fields = [] }) record {
              begun = f.begun;
              undecided = f.undecided;
              later = f.later;
              tick = f.tick;
              near = omega arith;
              reached = f.reached;
              kind = λ _. record {
                range = (omega arith, omega arith);
                above = λ _ g at-g. let place : s.tick - 1 + 1 ≡ s.tick = omega arith in
                    let same : h ≡ g = some-injective h g (sym at ∙ subst (λ t. get_elem? w.journal t ≡ some g) place at-g) in
                    subst (λ (x : Hands). ask.given ≤ x.count) same low;
                top = λ line. absurd (not_both s.line off line);
              };
              fields = λ _ _ g at-g i y e. absurd (some-ne-none y (sym e));
              counters = f.counters;
            }
          where
            not_both : (b : Bool) → not b ≡ true → b ≡ true → ⊥
            not_both true a e = true≢false (sym a)
            not_both false a e = true≢false (sym e)

        looks_fits : (h : Hands) → s.fields ≡ pack h → get_elem? w.journal s.tick ≡ some h
            → (b : Bool) → nat_lt (unpack s.fields).count ask.given ≡ b → Outcome seen log past ask (looks_at b ask s)
        looks_fits h is at true less = finds_line_fits h is at (subst (λ (x : Hands). x.count < ask.given) (reads s.tick h s.fields is at)
            (ltb-true _ _ less)) (s.tick == s.first / 2) refl
        looks_fits h is at false less = goes_down_fits h is at (subst (λ (x : Hands). ask.given ≤ x.count) (reads s.tick h s.fields is at)
            (ltb-false _ _ less)) (s.tick == 0) (s.tick + 9 == s.first / 2) refl refl

        finds_mark_fits : (b : Bool) → (w.marks s.tick == full_mark s.tick) ≡ b → Outcome seen log past ask (finds_mark b ask s (w.marks s.tick))
        finds_mark_fits true same = let h = whole_hands seen log past ask s in-J f whole (eqb-true _ _ same) in
            looks_fits h.0 h.1 h.2 (nat_lt (unpack s.fields).count ask.given) refl
        finds_mark_fits false same = let near = f.near in let in-J' = in-walk in
            goes_end seen log past ask s (Again ask.kind (full_mark s.tick) (w.marks s.tick)) record {
              fits = subst (λ z. FitsAgain w z s.first (full_mark s.tick) (w.marks s.tick)) (sym e)
                  (inr (s.tick, walk.range, (refl, later s.tick (omega arith) (not_full s.tick same))));
              later = f.later;
              reached = f.reached;
              counts = no_read (counts_of log);
            }

      walks_fits : (ask : Ask) (e : way_of ask.kind ≡ past) (b : Bool) → FitsCall w seen log past ask s
          → (has_fields s && not s.line && (s.tick == s.tick)) ≡ b → Outcome seen log past ask (walks b ask s (w.marks s.tick))
      walks_fits ask e true f is = let b = both_true _ (s.tick == s.tick) is in let c = both_true (has_fields s) (not s.line) b.0 in
          finds_mark_fits ask e f c.0 c.1 (w.marks s.tick == full_mark s.tick) refl
      walks_fits ask e false f is = goes_astray seen log past ask s f

      mark_kind : (k : Way) (ask : Ask) (e : way_of ask.kind ≡ k) → FitsCall w seen log k ask s
          → Outcome seen log k ask (mark_by k ask s s.tick (w.marks s.tick))
      mark_kind full ask e f = goes_astray seen log full ask s f
      mark_kind quick ask e f = light ask e _ _ f f.kind refl refl
      mark_kind past ask e f = walks_fits ask e _ f refl

    own_mark : (m : ℕ) (b : Bool) → (w.marks m == full_mark m) ≡ b → m < length w.journal → FitsMark w (mark_load m (w.marks m))
    own_mark m true is in-J = inl (eqb-true (w.marks m) (full_mark m) is)
    own_mark m false is in-J = inr (refl, later m in-J (not_full m is))

    marked_more : (v : PassView) (m : ℕ) → ((i : ℕ) (k : MarkLoad) → get_elem? v.marks i ≡ some k → FitsMark w k) → m < length w.journal
        → (i : ℕ) (k : MarkLoad) → get_elem? (v.marks ++ mark_load m (w.marks m) ∷ []) i ≡ some k → FitsMark w k
    marked_more v m old in-J i k e = ⊎_elim (λ (was : get_elem? v.marks i ≡ some k). old i k was)
        (λ (new : mark_load m (w.marks m) ≡ k). subst (FitsMark w) new (own_mark m (w.marks m == full_mark m) refl in-J))
        (at_snoc v.marks (mark_load m (w.marks m)) k i e)

    pub mark_fits : (v : PassView) → FitsPass w v → v.calling ≡ true → FitsPass w (mark_loaded (w.marks (scan_of v).tick) v)
    mark_fits v fits calling = let call = fits.call calling in let s : Scan = scan_of v in let l : Load = Mark s.tick (w.marks s.tick) in
        fits_settled v v.seen v.turns v.counters (v.marks ++ mark_load s.tick (w.marks s.tick) ∷ []) l (after v.ask s l) record {
          number = fits.number;
          log = fits.log;
          marked = marked_more v s.tick fits.marks (let tick = call.tick in let near = call.near in let seen = fits.seen in omega arith);
          in_journal = fits.seen;
          rises = fits.rises;
          below = fits.below;
          known = fits.known;
          counters_rise = fits.counters_rise;
          counters_below = fits.counters_below;
          is = run-snoc v.ask fresh v.loads l;
          outcome = mark_kind v.seen v.entries s fits.seen (way_of v.ask.kind) v.ask refl call;
        }
