-- The log of a reader that the pen took in is legal over the pen's journal.
use Rattle.std.proofs.Common.{◌≡◌, ℕ, zero, suc, ◌+◌, ◌-◌, ◌*◌, ◌/◌, ◌%◌, ◌<◌, ◌≤◌, ◌⊎◌, cond, false, List, [], ◌∷◌, ◌++◌, map, length, slice_get, refl, ap, sym, ◌∙◌, subst, Some, arith, inl, inr, ⊎_elim, le_refl, le_trans}
use Rattle.std.proofs.lemmas.Option.{slice_get_within}
use mathlib.Core.Option.{some, some-injective, some-ne-none}
use mathlib.Core.Logic.{dite}
use native.Mathlib.Decide.{ℕ_discrete}
use lib.ListN.{get_elem?}
use Rattle.ff_hands.specs.declared.hands.Hands.{Hands}
use Rattle.ff_hands.specs.Windups.{cold}
use Rattle.ff_hands.specs.Journals.{IsJournal}
use Rattle.ff_hands.proofs.Ticks.{journal-rises}
use Rattle.clock_lines.specs.Lines.{line_of}
use Rattle.clock_lines.proofs.Points.{is-line_of}
use Rattle.clock_lines.specs.declared.readings.Kind.{Kind}
use Rattle.clock_lines.specs.declared.readings.Kind.TheVariants as kind
use Rattle.clock_lines.specs.declared.readings.Reading.{Reading}
use Rattle.clock_lines.specs.declared.readings.Entry.{Entry}
use Rattle.clock_lines.specs.declared.readings.Entry.TheVariants.{Read, Again, TooOld, Ahead}
use Rattle.clock_logs.specs.declared.noted.Noted.{Noted}
use Rattle.clock_logs.specs.declared.noted.Kept.{Kept}
use Rattle.clock_logs.specs.Legal.{Way, full, quick, past, way_of, IsPlaced, IsReading}
use Rattle.clock_logs.specs.Logs as logs
use Rattle.clock_logs.specs.Logs.{IsAgain, IsEntry, tick_shown, newest_by, counter_by, count_shown, reached_by, count_reached, AreWithin, IsLog, IsReadSince, IsSince, AreSince, entry_of}
use Rattle.clock_logs.proofs.Places.{counts-rise}
use Rattle.tick_reads.specs.Ways.{needs_even, count_by}
use Rattle.tick_views.specs.declared.views.PenView.{PenView}
use Rattle.tick_views.specs.Worlds.{World, NeverFall, opening_of, IsTimely, FitsCount, FitsRead, MetWindup, LostSlot, FitsAgain, FitsEntry, count_if, counts_in, counts_of, FitsLog, FitsKept, AllAtMost, or_else}
use Rattle.tick_views.proofs.Grow.{in_list}
use Rattle.tick_views.proofs.Loads.{there}
use Rattle.tick_table.specs.Rule.{world_of}
use Rattle.tick_table.specs.Steps.{LegalLogs}
use Rattle.tick_table.proofs.Lists.{Some_same, to_some, to_Some}
use Rattle.tick_laws.specs.Logs.{IsKeptLegal}

-- of two members that never fall the later one is not less
rises_at : (xs : List ℕ) → NeverFall xs → (i j x y : ℕ) → i < j → get_elem? xs i ≡ some x → get_elem? xs j ≡ some y → x ≤ y
rises_at [] r i j x y less a b = absurd (some-ne-none x (sym a))
rises_at (z ∷ xs) r zero zero x y less a b = absurd (omega arith)
rises_at (z ∷ xs) r zero (suc j) x y less a b = subst (λ k. k ≤ y) (some-injective z x a) (r.0 j y b)
rises_at (z ∷ xs) r (suc i) zero x y less a b = absurd (omega arith)
rises_at (z ∷ xs) r (suc i) (suc j) x y less a b = rises_at xs r.1 i j x y (omega arith) a b

rises_rest : (xs ys : List ℕ) → NeverFall (xs ++ ys) → NeverFall ys
rises_rest [] ys r = r
rises_rest (x ∷ xs) ys r = rises_rest xs ys r.1

-- the entry in its place, and its opening value
noted_at : (log : List Noted) (k : ℕ) (e : Entry) → slice_get (map entry_of log) k ≡ Some e → (n : Noted) × (get_elem? log k ≡ some n) × (n.entry ≡ e)
noted_at [] k e at = cc
noted_at (x ∷ xs) zero e at = (x, refl, Some_same x.entry e at)
noted_at (x ∷ xs) (suc k) e at = noted_at xs k e at

opening_at : (log : List Noted) (i : ℕ) (e : Noted) → get_elem? log i ≡ some e → get_elem? (map opening_of log) i ≡ some e.opening
opening_at [] i e at = absurd (some-ne-none e (sym at))
opening_at (x ∷ xs) zero e at = ap (λ (z : Noted). some z.opening) (some-injective x e at)
opening_at (x ∷ xs) (suc i) e at = opening_at xs i e at

-- the counter that an entry shows stands among those that the log shows
counts_of_it : (e : Entry) (c : ℕ) → count_shown e ≡ Some c → counts_in e ≡ c ∷ []
counts_of_it (Read r) c shown = by_way (way_of r.kind) shown
  where
    by_way : (y : Way) → counter_by y r.count ≡ Some c → count_if (needs_even y) r.count ≡ c ∷ []
    by_way full e = ap (λ k. k ∷ []) (Some_same r.count c e)
    by_way quick e = cc
    by_way past e = cc
counts_of_it (Again k a b) c shown = cc
counts_of_it (TooOld k a) c shown = cc
counts_of_it (Ahead k a) c shown = ap (λ n. n ∷ []) (Some_same a c shown)

at_right : (xs ys : List ℕ) (j y : ℕ) → get_elem? ys j ≡ some y → (k : ℕ) × (get_elem? (xs ++ ys) k ≡ some y)
at_right [] ys j y at = (j, at)
at_right (x ∷ xs) ys j y at = let r = at_right xs ys j y at in (suc r.0, r.1)

count_among : (log : List Noted) (i c : ℕ) (n : Noted) → get_elem? log i ≡ some n → count_shown n.entry ≡ Some c → (k : ℕ)
    × (get_elem? (counts_of log) k ≡ some c)
count_among [] i c n at shown = absurd (some-ne-none n (sym at))
count_among (x ∷ xs) zero c n at shown = let is = counts_of_it x.entry c (ap (λ (z : Noted). count_shown z.entry) (some-injective x n at) ∙ shown) in
    (0, ap (λ l. get_elem? (l ++ counts_of xs) 0) is)
count_among (x ∷ xs) (suc i) c n at shown = let r = count_among xs i c n at shown in at_right (counts_in x.entry) (counts_of xs) r.0 c r.1

counts_at : (log : List Noted) → NeverFall (counts_of log) → (i j x y : ℕ) (d e : Noted) → i < j → get_elem? log i ≡ some d
    → get_elem? log j ≡ some e → count_shown d.entry ≡ Some x → count_shown e.entry ≡ Some y → x ≤ y
counts_at [] r i j x y d e less a b p q = absurd (some-ne-none d (sym a))
counts_at (n ∷ ns) r zero zero x y d e less a b p q = absurd (omega arith)
counts_at (n ∷ ns) r zero (suc j) x y d e less a b p q = let is = counts_of_it n.entry x (ap (λ (z : Noted). count_shown z.entry) (some-injective n d a) ∙ p) in
    let rises : NeverFall (x ∷ counts_of ns) = subst (λ l. NeverFall (l ++ counts_of ns)) is r in let m = count_among ns j y e b q in rises.0 m.0 y m.1
counts_at (n ∷ ns) r (suc i) zero x y d e less a b p q = absurd (omega arith)
counts_at (n ∷ ns) r (suc i) (suc j) x y d e less a b p q = counts_at ns (rises_rest (counts_in n.entry) (counts_of ns) r) i j x y d e (omega arith) a b p q

-- beside no open windup
module _ (w : World) (legal : IsJournal w.journal) (closed : w.turn ≡ 2 * (length w.journal - 1)) (some-tick : 0 < length w.journal)
    (bound : w.bound ≡ w.counter) (reached : (m : ℕ) (h : Hands) → get_elem? w.journal m ≡ some h → h.count ≤ w.counter) where
  next_of : (n c : ℕ) → IsTimely w n c → (next : Hands) → slice_get w.journal (n + 1) ≡ Some next → c ≤ next.count
  next_of n c t next at = t.next next (to_some w.journal (n + 1) next at)

  timely_within : (n c : ℕ) → n < length w.journal → IsTimely w n c → c ≤ w.counter
  timely_within n c in-J t = dite (ℕ_discrete (length w.journal) (n + 1)) (λ last. subst (λ b. c ≤ b) bound (t.last last))
      (λ ne. let m = there w.journal (n + 1) (omega arith) in le_trans (t.next m.0 m.1) (reached (n + 1) m.0 m.1))

  -- the tick that a past count was read by is its line
  line_is : (n : ℕ) (h : Hands) (c : ℕ) → get_elem? w.journal n ≡ some h → (n ≡ 0) ⊎ (h.count < c) → IsTimely w n c → line_of w.journal c ≡ Some n
  line_is n h c at below t = is-line_of w.journal c n (journal-rises w.journal legal) record {
    there = in_list w.journal n h at;
    below = λ g here above. let same : h ≡ g = Some_same h g (sym (to_Some w.journal n h at) ∙ here) in
        subst (λ (x : Hands). x.count < c) same (⊎_elim (λ (z : n ≡ 0). absurd (omega arith)) (λ (less : h.count < c). less) below);
    last = λ m g after here. let within = slice_get_within w.journal m g here in let next = there w.journal (n + 1) (omega arith) in
        le_trans (t.next next.0 next.1) (counts-rise w.journal (n + 1) m next.0 g legal (omega arith) (to_Some w.journal (n + 1) next.0 next.1) here);
  }

  module _ (given n : ℕ) (h : Hands) (c : ℕ) (at : get_elem? w.journal n ≡ some h) where
    placed : (k : Kind) → FitsCount w (way_of k) given n h c → IsPlaced k w.journal n (count_by k given h c) h
    placed kind.Abs f = record { reached = f.0; before = next_of n c f.1 }
    placed kind.Mono f = record { reached = f.0; before = next_of n c f.1 }
    placed kind.Uptime f = record { reached = f.0; before = next_of n c f.1 }
    placed kind.Utc f = record { reached = f.0; before = next_of n c f.1 }
    placed kind.Fast f = refl
    placed kind.Diff f = tt
    placed kind.Back f = line_is n h given at f.0 f.1

    counted : (m x : ℕ) → Some m ≡ Some x → m ≤ w.counter → x ≤ w.counter
    counted m x e up = subst (λ k. k ≤ w.counter) (Some_same m x e) up

    read_within : (k : Kind) (x : ℕ) → FitsCount w (way_of k) given n h c → reached_by k (count_by k given h c) ≡ Some x → x ≤ w.counter
    read_within kind.Abs x f e = counted c x e (timely_within n c (in_list w.journal n h at) f.1)
    read_within kind.Mono x f e = counted c x e (timely_within n c (in_list w.journal n h at) f.1)
    read_within kind.Uptime x f e = counted c x e (timely_within n c (in_list w.journal n h at) f.1)
    read_within kind.Utc x f e = counted c x e (timely_within n c (in_list w.journal n h at) f.1)
    read_within kind.Fast x f e = counted h.count x e (reached n h at)
    read_within kind.Diff x f e = cc
    read_within kind.Back x f e = counted given x e (timely_within n given (in_list w.journal n h at) f.1)

  read_legal : (o : ℕ) (r : Reading) → FitsRead w o r → IsReading w.journal r
  read_legal o r f = subst (IsReading w.journal) (sym f.is) record {
    hands = f.hands;
    tick = to_Some w.journal r.tick f.hands f.at;
    time = refl;
    bound = refl;
    place = placed f.ask.given r.tick f.hands f.counter f.at f.ask.kind f.count;
  }

  crossed_legal : (o first last : ℕ) → MetWindup w o first last → logs.Crossed w.journal first last
  crossed_legal o first last f = let below : last ≤ w.turn = f.1 in record {
    met = ⊎_elim (λ (open_one : (first ≡ last) × (first % 2 ≡ 1)). inl (open_one.1, sym open_one.0))
        (λ (came : (first < last) × (first % 2 ≡ 0)). inr (came.1, came.0)) f.2;
    made = omega arith;
  }

  overtaken_legal : (m o first last : ℕ) → m ≤ o / 2 → o ≤ w.turn → LostSlot w m first last → logs.Overtaken w.journal first last
  overtaken_legal m o first last near began f = let k : ℕ = f.1.0 in let up : m + 10 ≤ k = f.1.2 in let same : k % 10 ≡ m % 10 = f.1.3 in
      let top : k ≤ (w.turn + 1) / 2 = f.1.4 in
      let k-is : (last - 1) / 2 ≡ k = ⊎_elim (λ (odd : last ≡ 2 * k + 1). omega arith) (λ (even : last ≡ 2 * k + 2). omega arith) f.1.1 in
      record { tick = m; there = omega arith; mark = f.0; later = omega arith; slot = ap (λ t. t % 10) k-is ∙ same; made = omega arith }

  again_legal : (y : Way) (o first last : ℕ) → o ≤ w.turn → FitsAgain w y o first last → IsAgain y w.journal first last
  again_legal full o first last began f = crossed_legal o first last f
  again_legal quick o first last began f = overtaken_legal (o / 2) o first last (le_refl (o / 2)) began f
  again_legal past o first last began f = ⊎_elim (λ (x : MetWindup w o first last). inl (crossed_legal o first last x))
      (λ (x : (m : ℕ) × IsReadSince past m o × LostSlot w m first last). inr (overtaken_legal x.0 o first last x.1.0 began x.2)) f

  entry_legal : (o : ℕ) (e : Entry) → o ≤ w.turn → FitsEntry w o e → IsEntry w.journal e
  entry_legal o (Read r) began f = read_legal o r f
  entry_legal o (Again k a b) began f = again_legal (way_of k) o a b began f
  entry_legal o (TooOld c a) began f = record {
    tick = f.tick;
    some = f.some_tick;
    hands = f.hands;
    at = to_Some w.journal f.tick f.hands f.at;
    oldest_is = f.is;
    not_after = f.not_after;
    made = let there = f.reached in let later = f.later in omega arith;
  }
  entry_legal o (Ahead c a) began f = f

  entry_within : (o : ℕ) (e : Entry) (x : ℕ) → FitsEntry w o e → ((c : ℕ) → count_shown e ≡ Some c → c ≤ w.counter) → count_reached e ≡ Some x → x ≤ w.counter
  entry_within o (Read r) x f below e = read_within f.ask.given r.tick f.hands f.counter f.at f.ask.kind x f.count
      (sym (ap (λ (z : Reading). reached_by z.kind z.count) f.is) ∙ e)
  entry_within o (Again k a b) x f below e = cc
  entry_within o (TooOld c a) x f below e = cc
  entry_within o (Ahead c a) x f below e = below x e

-- an entry is current at its opening value
entry_since : (w : World) (o : ℕ) (e : Entry) → FitsEntry w o e → IsSince w.journal e o
entry_since w o (Read r) f = subst (λ (z : Reading). IsReadSince (way_of z.kind) r.tick o) (sym f.is) f.tick
entry_since w o (Again k a b) f = by_way (way_of k) f
  where
    by_way : (y : Way) → FitsAgain w y o a b → logs.IsMetSince y a o
    by_way full f = f.0
    by_way quick f = f.0
    by_way past f = ⊎_elim (λ (x : MetWindup w o a b). inl x.0) (λ (x : (m : ℕ) × IsReadSince past m o × LostSlot w m a b). inr (x.0, x.1, x.2.0)) f
entry_since w o (TooOld c a) f = record { tick = f.tick; tenth = f.later; hands = f.hands; at = to_Some w.journal f.tick f.hands f.at; oldest_is = f.is }
entry_since w o (Ahead c a) f = tt

-- the tick that it shows is that of its opening value
tick_since : (ticks : List Hands) (e : Entry) (o x : ℕ) → IsSince ticks e o → tick_shown e ≡ Some x → x ≡ o / 2
tick_since ticks (Read r) o x since e = by_way (way_of r.kind) since e
  where
    by_way : (y : Way) → IsReadSince y r.tick o → newest_by y r.tick ≡ Some x → x ≡ o / 2
    by_way full s e = sym (Some_same r.tick x e) ∙ s
    by_way quick s e = sym (Some_same r.tick x e) ∙ s
    by_way past s e = cc
tick_since ticks (Again k a b) o x since e = cc
tick_since ticks (TooOld c a) o x since e = cc
tick_since ticks (Ahead c a) o x since e = cc

module _ (w : World) (log : List Noted) (f : FitsLog w log) where
  opened_in_order : (i j : ℕ) (d e : Noted) → i < j → get_elem? log i ≡ some d → get_elem? log j ≡ some e → d.opening ≤ e.opening
  opened_in_order i j d e less a b = rises_at (map opening_of log) f.rises i j d.opening e.opening less (opening_at log i d a) (opening_at log j e b)

  pub log_since : AreSince w.journal log
  log_since = record {
    each = λ k e at. entry_since w e.opening e.entry (f.each k e (to_some log k e at));
    rise = λ i j d e less a b. opened_in_order i j d e less (to_some log i d a) (to_some log j e b);
  }

  ticks_in_order : (x y a b : ℕ) → x ≡ a / 2 → y ≡ b / 2 → a ≤ b → x ≤ y
  ticks_in_order x y a b p q up = omega arith

  module _ (legal : IsJournal w.journal) (closed : w.turn ≡ 2 * (length w.journal - 1)) (some-tick : 0 < length w.journal)
      (bound : w.bound ≡ w.counter) (reached : (m : ℕ) (h : Hands) → get_elem? w.journal m ≡ some h → h.count ≤ w.counter) where
    pub log_legal : IsLog w.journal (map entry_of log)
    log_legal = record {
      each = λ k e at. let n = noted_at log k e at in subst (IsEntry w.journal) n.2
          (entry_legal w legal closed some-tick bound reached n.0.opening n.0.entry (f.below k n.0.opening (opening_at log k n.0 n.1)) (f.each k n.0 n.1));
      ticks_rise = λ i j x y d e less a b p q. let m = noted_at log i d a in let n = noted_at log j e b in
          ticks_in_order x y m.0.opening n.0.opening (tick_since w.journal m.0.entry m.0.opening x
          (entry_since w m.0.opening m.0.entry (f.each i m.0 m.1)) (ap tick_shown m.2 ∙ p))
          (tick_since w.journal n.0.entry n.0.opening y (entry_since w n.0.opening n.0.entry (f.each j n.0 n.1)) (ap tick_shown n.2 ∙ q))
          (opened_in_order i j m.0 n.0 less m.1 n.1);
      counts_rise = λ i j x y d e less a b p q. let m = noted_at log i d a in let n = noted_at log j e b in
          counts_at log f.counts_rise i j x y m.0 n.0 less m.1 n.1 (ap count_shown m.2 ∙ p) (ap count_shown n.2 ∙ q);
    }

    pub log_within : AreWithin w.counter (map entry_of log)
    log_within k x e at is = let n = noted_at log k e at in entry_within w legal closed some-tick bound reached n.0.opening n.0.entry x
        (f.each k n.0 n.1) (λ c shown. let m = count_among log k c n.0 n.1 shown in f.counts_below m.0 c m.1) (ap count_reached n.2 ∙ is)

-- what the pen learns of each reader that it took in
pub kept_legal : (p : PenView) (i : ℕ) (k : Kept) → LegalLogs p → p.winding ≡ false → get_elem? p.kept i ≡ some k → IsKeptLegal p.journal p.top p.out k
kept_legal p i k l unwound at =
    let n : ℕ = length p.journal - 1 in
    let w : World = world_of l.stood p n in
    let fits : FitsKept w k = l.each i k at in
    let some-tick : 0 < length p.journal = in_list p.journal 0 cold (to_some p.journal 0 cold l.journal.first) in
    let closed : w.turn ≡ 2 * (length p.journal - 1) = ap (λ b. 2 * n + cond b 1 0) unwound ∙ (let e : 2 * n + 0 ≡ 2 * n = omega arith in e) in
    let bound : w.bound ≡ w.counter = ap (λ o. or_else o w.counter) (l.closed unwound) in
    let within : AreWithin w.counter (map entry_of k.entries) = log_within w k.entries fits.log l.journal closed some-tick bound (l.reached unwound) in
    let small = l.small in record {
      seen = fits.seen;
      legal = log_legal w k.entries fits.log l.journal closed some-tick bound (l.reached unwound);
      since = log_since w k.entries fits.log;
      small = λ j x e here is. let up = within j x e here is in omega arith;
      counters = λ home. subst (λ c. AllAtMost c k.counters) (l.home home) fits.counters;
      within = λ home. subst (λ c. AreWithin c (map entry_of k.entries)) (l.home home) within;
    }
