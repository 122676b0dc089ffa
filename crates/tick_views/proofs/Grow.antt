-- What is legal stays legal while the journal and the turn word grow.
use Rattle.std.proofs.Common.{◌≡◌, ℕ, zero, suc, ◌+◌, ◌/◌, ◌<◌, ◌≤◌, ◌⊎◌, List, [], ◌∷◌, ◌++◌, map, length, sym, refl, ◌∙◌, subst, inl, inr, ⊎_elim, arith, le_trans}
use mathlib.Core.Logic.{dite}
use native.Mathlib.Decide.{ℕ_discrete}
use mathlib.Core.Option.{some, some-injective, some-ne-none}
use lib.ListN.{get_elem?}
use Rattle.ff_hands.specs.declared.hands.Hands.{Hands}
use Rattle.clock_lines.specs.declared.readings.Entry.{Entry}
use Rattle.clock_lines.specs.declared.readings.Entry.TheVariants.{Read, Again, TooOld, Ahead}
use Rattle.clock_logs.specs.declared.noted.Noted.{Noted}
use Rattle.tick_reads.specs.declared.loads.Ask.{Ask}
use Rattle.clock_logs.specs.declared.noted.Kept.{Kept}
use Rattle.tick_views.specs.declared.views.PassView.{PassView}
use Rattle.tick_views.specs.declared.views.View.{View}
use Rattle.tick_views.specs.declared.views.View.TheVariants.{Pen, Pass, Crank, Note, Spent}
use Rattle.clock_logs.specs.Legal.{Way, full, quick, past, way_of}
use Rattle.tick_reads.specs.Looks.{full_mark}
use Rattle.tick_reads.specs.Scans.{Scan}
use Rattle.clock_logs.specs.Logs.{IsReadSince}
use Rattle.tick_views.specs.Worlds.{Goes, AllAtMost, opening_of, FitsEntry, FitsLog, FitsKept, FitsCall, FitsPass, Fits, top_tick, World, IsTimely, FitsCount, FitsAgain, FitsKind, MetWindup, LostSlot, counts_of}

module _ {A : Type 0} where
  pub at_shorter : (l m : List A) (i : ℕ) (a : A) → i < length l → get_elem? (l ++ m) i ≡ some a → get_elem? l i ≡ some a
  at_shorter [] m i a h e = absurd (omega arith)
  at_shorter (x ∷ xs) m zero a h e = e
  at_shorter (x ∷ xs) m (suc i) a h e = at_shorter xs m i a (omega arith) e

pub at_end : {A : Type 0} (l : List A) (a b : A) (j : ℕ) → get_elem? (l ++ a ∷ []) j ≡ some b → (get_elem? l j ≡ some b) ⊎ ((j ≡ length l) × (a ≡ b))
at_end [] a b zero e = inr (refl, some-injective a b e)
at_end [] a b (suc j) e = absurd (some-ne-none b (sym e))
at_end (x ∷ xs) a b zero e = inl e
at_end (x ∷ xs) a b (suc j) e = ⊎_elim (λ h. inl h) (λ (h : (j ≡ length xs) × (a ≡ b)). let same = h.0 in inr (omega arith, h.1)) (at_end xs a b j e)

pub below_more : (t t' : ℕ) (xs : List ℕ) → t ≤ t' → AllAtMost t xs → AllAtMost t' xs
below_more t t' xs up all i x at = le_trans (all i x at) up

half-up : (a b : ℕ) → a ≤ b → top_tick a ≤ top_tick b
half-up a b up = omega arith

pub in_list : {A : Type 0} (l : List A) (i : ℕ) (a : A) → get_elem? l i ≡ some a → i < length l
in_list [] i a e = absurd (some-ne-none a (sym e))
in_list (x ∷ xs) zero a e = omega arith
in_list (x ∷ xs) (suc i) a e = let r = in_list xs i a e in omega arith

module _ (w w' : World) (g : Goes w w') where
  -- the one place where the counter meets the next tick
  grow_timely : (n c : ℕ) → n < length w.journal → IsTimely w n c → IsTimely w' n c
  grow_timely n c in-J t = let longer = g.longer in record {
    next = λ h at. dite (ℕ_discrete (n + 1) (length w.journal))
        (λ last. le_trans (t.last (sym last)) (g.next h (subst (λ i. get_elem? w'.journal i ≡ some h) last at)))
        (λ ne. t.next h (g.back (n + 1) h (omega arith) at));
    last = λ e. let was : length w.journal ≡ n + 1 = omega arith in le_trans (t.last was) (g.bound (e ∙ sym was));
  }

  grow_count : (k : Way) (given n : ℕ) (h : Hands) (c : ℕ) → n < length w.journal → FitsCount w k given n h c → FitsCount w' k given n h c
  grow_count full given n h c in-J f = (f.0, grow_timely n c in-J f.1)
  grow_count quick given n h c in-J f = tt
  grow_count past given n h c in-J f = (f.0, grow_timely n given in-J f.1)

  grow_overtaken : (m a b : ℕ) → LostSlot w m a b → LostSlot w' m a b
  grow_overtaken m a b f = let c = f.1 in (f.0, (c.0, c.1, c.2, c.3, le_trans c.4 (half-up w.turn w'.turn g.turn)))

  grow_crossed : (o a b : ℕ) → MetWindup w o a b → MetWindup w' o a b
  grow_crossed o a b f = (f.0, le_trans f.1 g.turn, f.2)

  grow_again : (k : Way) (o a b : ℕ) → FitsAgain w k o a b → FitsAgain w' k o a b
  grow_again full o a b f = grow_crossed o a b f
  grow_again quick o a b f = grow_overtaken (o / 2) a b f
  grow_again past o a b f = ⊎_elim (λ x. inl (grow_crossed o a b x))
      (λ (x : (m : ℕ) × IsReadSince past m o × LostSlot w m a b). inr (x.0, x.1, grow_overtaken x.0 a b x.2)) f

  pub grow_entry : (o : ℕ) (e : Entry) → FitsEntry w o e → FitsEntry w' o e
  grow_entry o (Read r) f = record {
    ask = f.ask;
    hands = f.hands;
    counter = f.counter;
    at = g.on r.tick f.hands f.at;
    is = f.is;
    count = grow_count (way_of f.ask.kind) f.ask.given r.tick f.hands f.counter (in_list w.journal r.tick f.hands f.at) f.count;
    tick = f.tick;
  }
  grow_entry o (Again k a b) f = grow_again (way_of k) o a b f
  grow_entry o (TooOld c a) f = record {
    tick = f.tick;
    hands = f.hands;
    at = g.on f.tick f.hands f.at;
    is = f.is;
    not_after = f.not_after;
    later = f.later;
    some_tick = f.some_tick;
    reached = let r = f.reached in let l = g.longer in omega arith;
  }
  grow_entry o (Ahead c a) f = f

  pub grow_log : (log : List Noted) → FitsLog w log → FitsLog w' log
  grow_log log f = record {
    each = λ i e at. grow_entry e.opening e.entry (f.each i e at);
    rises = f.rises;
    below = below_more w.turn w'.turn (map opening_of log) g.turn f.below;
    counts_rise = f.counts_rise;
    counts_below = below_more w.counter w'.counter (counts_of log) g.counter f.counts_below;
  }

  pub grow_one_kept : (k : Kept) → FitsKept w k → FitsKept w' k
  grow_one_kept k f = record {
    seen = le_trans f.seen g.longer;
    counters = below_more w.counter w'.counter k.counters g.counter f.counters;
    log = grow_log k.entries f.log;
  }

  grow_kind : (k : Way) (ask : Ask) (s : Scan) → s.tick ≤ s.first / 2 → s.first / 2 < length w.journal → FitsKind w k ask s → FitsKind w' k ask s
  grow_kind full ask s near in-J f = f
  grow_kind quick ask s near in-J f = f
  grow_kind past ask s near in-J f = record {
    range = f.range;
    above = λ less h at. f.above less h (g.back (s.tick + 1) h (omega arith) at);
    top = λ line. let t = f.top line in (t.0, t.1, λ h at. t.2 h (g.back s.tick h (omega arith) at));
  }

  pub grow_call : (known : ℕ) (log : List Noted) (y : Way) (ask : Ask) (s : Scan) → known ≤ length w.journal → FitsCall w known log y ask s
      → FitsCall w' known log y ask s
  grow_call known log y ask s in-journal f = let tick = f.tick in let near = f.near in let in-J : s.first / 2 < length w.journal = omega arith in
      let in-J' : s.tick < length w.journal = omega arith in record {
        begun = f.begun;
        undecided = f.undecided;
        later = f.later;
        tick = f.tick;
        near = f.near;
        reached = le_trans f.reached g.turn;
        kind = λ good. grow_kind y ask s near in-J (f.kind good);
        fields = λ good same h at. f.fields good (g.marks s.tick in-J' same) h (g.back s.tick h in-J' at);
        counters = λ i c at. let t = f.counters i c at in (le_trans t.0 g.counter, t.1, (λ h here. t.2 h (g.back (s.first / 2) h in-J here)), t.3);
      }

  pub grow_pass : (v : PassView) → FitsPass w v → FitsPass w' v
  grow_pass v f = let number = f.number in let made = g.made in record {
    seen = le_trans f.seen g.longer;
    rises = f.rises;
    below = below_more w.turn w'.turn v.turns g.turn f.below;
    known = f.known;
    number = omega arith;
    counters_rise = f.counters_rise;
    counters_below = below_more w.counter w'.counter v.counters g.counter f.counters_below;
    marks = λ i l at. ⊎_elim (λ (own : l.mark ≡ full_mark l.tick). inl own)
        (λ (other : LostSlot w l.tick (full_mark l.tick) l.mark). inr (grow_overtaken l.tick (full_mark l.tick) l.mark other)) (f.marks i l at);
    log = grow_log v.entries f.log;
    call = λ calling. grow_call v.seen v.entries _ _ _ f.seen (f.call calling);
  }

  pub grow : (v : View) → Fits w v → Fits w' v
  grow (Pen p) f = f
  grow (Pass v) f = grow_pass v f
  grow (Crank top) f = tt
  grow (Note seen) f = le_trans f g.longer
  grow Spent f = tt
