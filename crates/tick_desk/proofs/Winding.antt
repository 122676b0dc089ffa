-- A windup on the pen's seat.
use Rattle.std.proofs.Common.{◌≡◌, ℕ, ◌+◌, ◌-◌, ◌<◌, ◌≤◌, ◌^◌, ◌&&◌, nat_lt, nat_le, not, Bool, true, false, List, [], ◌∷◌, ◌++◌, length, slice_get, refl, ap, ap₂, sym, ◌∙◌, subst, Some, None, Ok, Err, arith, append_assoc, zero, suc}
use Rattle.std.specs.Prelude.{if◌then◌else◌, Option}
use Rattle.std.proofs.lemmas.List.{append-nil}
use borrow.Author.Tests.{ltb-false, leb-false}
use mathlib.Core.Option.{some, some-ne-none}
use lib.ListN.{get_elem?}
use Rattle.atomic_table.proofs.Lists.{at_last}
use Rattle.atomic_table.specs.Seated.{TableId}
use Rattle.ff_hands.specs.Journals.{Follows, IsJournal}
use Rattle.ff_hands.specs.Orders.{is_sane, is_in_time, fits}
use Rattle.ff_hands.specs.Windups.{wind_of}
use Rattle.ff_hands.specs.declared.hands.Hands.{Hands}
use Rattle.ff_hands.specs.declared.hands.Order.{Order}
use Rattle.ff_hands.specs.declared.hands.Order.TheVariants as order
use Rattle.ff_hands.proofs.Winding.{count-wound}
use Rattle.ff_hands.proofs.Sounding.{journal-push, wound-follows}
use Rattle.clock_lines.specs.Readings.{newest}
use Rattle.clock_core.specs.declared.machine.Refuse.{Refuse}
use Rattle.clock_core.specs.Machines.{refusal, answer_by}
use Rattle.clock_logs.specs.declared.noted.Kept.{Kept}
use Rattle.tick_views.specs.declared.views.PenView.{PenView}
use Rattle.tick_views.specs.Views.{turn_started, pen_counted}
use Rattle.tick_views.specs.Worlds.{AllAtMost}
use Rattle.tick_table.specs.Steps.{LearnsCounter}
use Rattle.tick_table.proofs.Lists.{to_some}
use Rattle.tick_desk.specs.Shows.{PenShows, PenHolds}
use Rattle.tick_desk.specs.Winds.{tests_counter, counted_if, tested_if, counters_by, wound_by, Tested, Publishes, Winds, IsCounter}
use Rattle.tick_desk.proofs.Pens.{newest-at, counter-shown}

lt-true : (a b : ℕ) → a < b → nat_lt a b ≡ true
lt-true a b h = grind arith

le-true : (a b : ℕ) → a ≤ b → nat_le a b ≡ true
le-true a b h = grind arith

-- what the test of an order leaves of the pen's view: all but the counters
record Same (p q : PenView) (more : List ℕ) : Type 0 where
  journal : q.journal ≡ p.journal
  winding : q.winding ≡ p.winding
  top : q.top ≡ p.top
  met : q.met ≡ p.met
  out : q.out ≡ p.out
  made : q.made ≡ p.made
  kept : q.kept ≡ p.kept
  counters : q.counters ≡ p.counters ++ more

counted-same : (b : Bool) (c : ℕ) (p : PenView) → Same p (counted_if b c p) (tested_if b c)
counted-same true c p = record { journal = refl; winding = refl; top = refl; met = refl; out = refl; made = refl; kept = refl; counters = refl }
counted-same false c p = record {
  journal = refl;
  winding = refl;
  top = refl;
  met = refl;
  out = refl;
  made = refl;
  kept = refl;
  counters = sym (append-nil p.counters);
}

-- no value is above the front of a list where none is above the whole
front-below : (c : ℕ) (xs ys : List ℕ) → AllAtMost c (xs ++ ys) → AllAtMost c xs
front-below c xs ys all i x e = all i x (at-front xs i e)
  where
    at-front : (xs : List ℕ) (i : ℕ) → get_elem? xs i ≡ some x → get_elem? (xs ++ ys) i ≡ some x
    at-front [] i e = absurd (some-ne-none x (sym e))
    at-front (y ∷ xs) zero e = e
    at-front (y ∷ xs) (suc i) e = at-front xs i e

taken_ahead : (b : Bool) (r : Refuse) → None ≡ (if b then Some r else None) → b ≡ false
taken_ahead true r e = cc
taken_ahead false r e = refl

taken_parts : (b c : Bool) (s r : Refuse) → None ≡ (if b then Some s else (if c then Some r else None)) → (b ≡ false) × (c ≡ false)
taken_parts true c s r e = cc
taken_parts false c s r e = (refl, taken_ahead c r e)

-- the pen as contracts see it
abbrev pub show : TableId → List Hands → ℕ → ℕ → Bool → ℕ → PenView → PenShows
show table ticks spare top out made p = record {
  table = table;
  journal = ticks;
  spare = spare;
  counters = p.counters;
  top = top;
  met = p.met;
  out = out;
  made = made;
  kept = p.kept;
}

module _ (p0 p1 : PenView) (ticks : List Hands) (top : ℕ) (out : Bool) (made : ℕ) (holds : PenHolds p0 ticks top out made) (last : Hands) (o : Order)
    (last-is : last ≡ newest ticks) where
  abbrev old : TableId → ℕ → PenShows
  old table spare = show table ticks spare top out made p0

  tests-same : tests_counter last o ≡ tests_counter (newest ticks) o
  tests-same = ap (λ (h : Hands). tests_counter h o) last-is

  module _ (found : Option Refuse) (t : Tested p0 p1 last o found) where
    tested-same : Same p0 p1 (tested_if (tests_counter last o) t.counter)
    tested-same = subst (λ (q : PenView). Same p0 q (tested_if (tests_counter last o) t.counter)) (sym t.view)
        (counted-same (tests_counter last o) t.counter p0)

    tested-counters : p1.counters ≡ p0.counters ++ tested_if (tests_counter (newest ticks) o) t.counter
    tested-counters = tested-same.counters ∙ ap (λ b. p0.counters ++ tested_if b t.counter) tests-same

    tested-shown : (table : TableId) (spare : ℕ) → tests_counter (newest ticks) o ≡ true → IsCounter (old table spare) t.counter
    tested-shown table spare e = counter-shown p0 (old table spare) t.counter holds.journal refl holds.top_is holds.out_is holds.legal
        (t.learns (tests-same ∙ e))

    -- nothing has changed but what was loaded
    pub holds-tested : PenHolds p1 ticks top out made
    holds-tested = let s = tested-same in record {
      journal = s.journal ∙ holds.journal;
      closed = s.winding ∙ holds.closed;
      legal = holds.legal;
      room = holds.room;
      top_is = s.top ∙ holds.top_is;
      out_is = s.out ∙ holds.out_is;
      made_is = s.made ∙ holds.made_is;
      given = λ i k e. subst (λ m. k.number < m) (sym s.made) (holds.given i k (subst (λ (ks : List Kept). get_elem? ks i ≡ some k) s.kept e));
    }

  pub refused : (table table' : TableId) (spare : ℕ) (why : Refuse) → Tested p0 p1 last o (Some why) → table' ≡ table
      → Winds (old table spare) (show table' ticks spare top out made p1) o (Err why)
  refused table table' spare why t same = record {
    tested_at = t.counter;
    count = 0;
    tested_is = tested-shown (Some why) t table spare;
    count_is = λ n e. absurd (err_ok n why e);
    later = λ n e. absurd (err_ok n why e);
    answer = ap (answer_by (length ticks)) (t.answer ∙ ap (λ (h : Hands). refusal h t.counter o) last-is);
    after = λ i. record {
      table = same i;
      journal = ticks;
      spare = spare;
      counters = tested-counters (Some why) t i;
      top = top;
      met = (tested-same (Some why) t).met i;
      out = out;
      made = made;
      kept = (tested-same (Some why) t).kept i;
    };
  }
    where
      err_ok : (n : ℕ) (why : Refuse) → Err why ≡ Ok n → ⊥
      err_ok n why e = cc

  module _ (t : Tested p0 p1 last o None) (p2 : PenView) (count : ℕ) (v2 : p2 ≡ pen_counted count (turn_started p1))
      (learns : LearnsCounter (turn_started p1) count) where
    at_end : slice_get ticks (length ticks - 1) ≡ Some last
    at_end = newest-at ticks holds.legal ∙ ap Some (sym last-is)

    journal1 : p1.journal ≡ ticks
    journal1 = (tested-same None t).journal ∙ holds.journal

    journal2 : p2.journal ≡ ticks
    journal2 = ap (λ (v : PenView). v.journal) v2 ∙ journal1

    past : last.count ≤ count
    past = learns.reached (length ticks - 1) last (subst (λ (l : List Hands). get_elem? l (length ticks - 1) ≡ some last) (sym journal1)
        (to_some ticks (length ticks - 1) last at_end))

    -- the count, as the pen would have met it before
    learns-before : LearnsCounter p0 count
    learns-before = let s = tested-same None t in record {
      top = subst (λ n. n ≤ count) s.top learns.top;
      home = λ e. learns.home (s.out ∙ e) ∙ s.top;
      reached = λ m h at. learns.reached m h (subst (λ (l : List Hands). get_elem? l m ≡ some h) (sym s.journal) at);
      small = learns.small;
      later = front-below count p0.counters _ (subst (AllAtMost count) s.counters learns.later);
    }

    -- what was loaded for the test is not above the count
    tested-below : tests_counter last o ≡ true → t.counter ≤ count
    tested-below e = let is : p1 ≡ pen_counted t.counter p0 = t.view ∙ ap (λ z. counted_if z t.counter p0) e in
        learns.later (length p0.counters) t.counter (subst (λ (v : PenView). get_elem? v.counters (length p0.counters) ≡ some t.counter) (sym is)
        (at_last p0.counters t.counter (length p0.counters) refl))

    in_time : (z : Order) → o ≡ z → is_in_time last count z ≡ true
    in_time order.Plain e = refl
    in_time (order.Take est) e = let b = taken_parts (nat_le est.update_ffcount last.est.update_ffcount) (nat_lt t.counter est.update_ffcount) _ _
        (t.answer ∙ ap (refusal last t.counter) e) in
        let low : last.est.update_ffcount < est.update_ffcount = leb-false _ _ b.0 in
        let high : est.update_ffcount ≤ t.counter = ltb-false _ _ b.1 in let up = tested-below (ap (tests_counter last) e ∙ ap not b.0) in
        ap₂ (λ x y. x && y) (le-true est.update_ffcount count (omega arith)) (lt-true last.est.update_ffcount est.update_ffcount low)
    in_time (order.Reset est) e = let c = taken_ahead (nat_lt t.counter est.update_ffcount) _ (t.answer ∙ ap (refusal last t.counter) e) in
        let high : est.update_ffcount ≤ t.counter = ltb-false _ _ c in let up = tested-below (ap (tests_counter last) e) in
        le-true est.update_ffcount count (omega arith)

    module _ (sane : is_sane o ≡ true) where
      pub fits_it : fits last count o ≡ true
      fits_it = λ i. sane i && le-true last.count count past i && lt-true count 4611686018427387904 learns.small i && in_time o refl i

      module _ (h : Hands) (is : h ≡ wind_of last count o) where
        pub loaded_is : p2.loaded ≡ Some h.count
        loaded_is = ap (λ (v : PenView). v.loaded) v2 ∙ ap Some (sym (ap (λ (x : Hands). x.count) is ∙ count-wound last count o))

        follows_it : Follows last h
        follows_it = subst (Follows last) (sym is) (wound-follows last count o fits_it)

        pub follows_newest : Follows (newest p2.journal) h
        follows_newest = subst (λ (g : Hands). Follows g h) (last-is ∙ ap newest (sym journal2)) follows_it

        module _ (p3 : PenView) (published : Publishes p2 p3 h) where
          module _ (ticks' : List Hands) (items : ticks' ≡ ticks ++ h ∷ []) where
            pub holds_now : length ticks' ≤ 2 ^ 62 → PenHolds p3 ticks' top out made
            holds_now few = let s = tested-same None t in record {
              journal = published.journal ∙ (ap (λ l. l ++ h ∷ []) journal2 ∙ sym items);
              closed = published.closed;
              legal = subst IsJournal (sym items) (journal-push ticks last h holds.legal at_end follows_it);
              room = few;
              top_is = published.top ∙ (ap (λ (v : PenView). v.top) v2 ∙ (s.top ∙ holds.top_is));
              out_is = published.out ∙ (ap (λ (v : PenView). v.out) v2 ∙ (s.out ∙ holds.out_is));
              made_is = published.made ∙ (ap (λ (v : PenView). v.made) v2 ∙ (s.made ∙ holds.made_is));
              given = λ i k e. subst (λ m. k.number < m) (sym (published.made ∙ (ap (λ (v : PenView). v.made) v2 ∙ s.made)))
                  (holds.given i k (subst (λ (ks : List Kept). get_elem? ks i ≡ some k) (published.kept ∙ (ap (λ (v : PenView). v.kept) v2 ∙ s.kept)) e));
            }

            pub wound_it : (table table' : TableId) (spare spare' n : ℕ) → table' ≡ table → spare' ≡ spare - 1 → n ≡ length ticks
                → Winds (old table spare) (show table' ticks' spare' top out made p3) o (Ok n)
            wound_it table table' spare spare' n same less number = let s = tested-same None t in record {
              tested_at = t.counter;
              count = count;
              tested_is = tested-shown None t table spare;
              count_is = λ m e. counter-shown p0 (old table spare) count holds.journal refl holds.top_is holds.out_is holds.legal learns-before;
              later = λ m e tests. tested-below (tests-same ∙ tests);
              answer = ap Ok number ∙ ap (answer_by (length ticks)) (t.answer ∙ ap (λ (x : Hands). refusal x t.counter o) last-is);
              after = λ i. record {
                table = same i;
                journal = (items ∙ ap (λ (x : Hands). ticks ++ x ∷ []) (is ∙ ap (λ (x : Hands). wind_of x count o) last-is)) i;
                spare = less i;
                counters = (published.counters ∙ (ap (λ (v : PenView). v.counters) v2
                    ∙ (ap (λ l. l ++ count ∷ []) (tested-counters None t) ∙ append_assoc p0.counters
                    (tested_if (tests_counter (newest ticks) o) t.counter) (count ∷ [])))) i;
                top = top;
                met = (published.met ∙ (ap (λ (v : PenView). v.met) v2 ∙ s.met)) i;
                out = out;
                made = made;
                kept = (published.kept ∙ (ap (λ (v : PenView). v.kept) v2 ∙ s.kept)) i;
              };
            }
