-- Each step of a pass and of the crank keeps the rule, and so do cutting a seat off, taking one in, and the pen's look.
use Rattle.std.proofs.Common.{◌≡◌, ℕ, zero, suc, ◌+◌, ◌-◌, ◌*◌, ◌/◌, ◌%◌, ◌^◌, ◌<◌, ◌≤◌, ◌≢◌, ◌==◌, ◌&&◌, max, Bool, true, false, true≢false, cond, List, [], ◌∷◌, ◌++◌, length, get_or, set, Some, None, sym, refl, ap, ◌∙◌, subst, ⊎_elim, arith, le_refl, le_trans, length-set, get_or-set_same, get_or-set_other}
use Rattle.std.specs.Prelude.{Option}
use mathlib.Core.Option.{none, some, some-injective, some-ne-none}
use lib.ListN.{get_elem?}
use lib.Seq.{set-get_or}
use Rattle.atomic_table.specs.Table.{Me, step, keeps, stepped, Allows, Splits, Joins}
use Rattle.atomic_table.proofs.Lists.{at_set, at_snoc, set_here, set_else, set_again, at_longer, at_last}
use Rattle.ff_hands.specs.declared.hands.Hands.{Hands}
use Rattle.tick_reads.specs.declared.loads.Ask.{Ask}
use Rattle.clock_logs.specs.declared.noted.Kept.{Kept}
use Rattle.clock_logs.specs.declared.noted.Noted.{Noted}
use Rattle.tick_views.specs.declared.views.PenView.{PenView}
use Rattle.tick_views.specs.declared.views.PassView.{PassView}
use Rattle.tick_views.specs.declared.views.View.{View}
use Rattle.tick_views.specs.declared.views.View.TheVariants.{Pen, Pass, Crank, Note, Spent}
use Rattle.tick_views.specs.declared.views.CrankView.{CrankView}
use Rattle.ff_hands.specs.Journals.{IsJournal}
use Rattle.ff_hands.specs.Windups.{cold}
use Rattle.hand_words.specs.Words.{pack, unpack}
use Rattle.hand_words.proofs.Back.{length-pack}
use Rattle.tick_table.proofs.Lists.{to_some, to_Some}
use Rattle.tick_table.proofs.Numbering.{numbers_set, numbers_snoc, numbers_pass, numbers_kept}
use Rattle.clock_logs.specs.Legal.{Way, full, quick, past, way_of}
use Rattle.tick_reads.specs.Ways.{needs_even}
use Rattle.tick_reads.specs.Looks.{full_mark}
use Rattle.tick_reads.specs.Scans.{Scan, has_fields}
use Rattle.tick_table.specs.Rule.{turn_of, mark_at, field_at, marks_of, world_of, SlotIs, AreBare, CounterStands, Stands, Tops, number_in, Numbers, Rule}
use Rattle.tick_views.specs.Worlds.{Goes, AllAtMost, World, FitsKept, FitsCall, FitsPass, Fits, top_tick, IsMark, or_else}
use Rattle.tick_views.specs.Views.{new_pass, scan_of, turn_loaded, counter_loaded, call_begun, field_loaded, mark_loaded, on_pen, pass_made, pass_cut, noted_cut, crank_lent, crank_first, crank_raised, crank_cut, kept_of, pass_taken, crank_taken, learned, taken}
use Rattle.tick_table.specs.Steps.{IsSoundAt, LearnsTurn, LearnsAll, Opens, LoadsTurn, LoadsCounter, LoadsMark, LoadsField, Cranks, LoadsOwnTurn}
use Rattle.tick_views.proofs.Grow.{at_end, in_list, grow}
use Rattle.tick_table.proofs.PenKeeps.{St, pen_same, NotCrank, no_crank, tops_set, goes_same, slots_low, low_keeps_mark, or_else_up, grow_kept}
use Rattle.tick_views.proofs.Loads.{Agrees, full_read, whole_hands, turn_fits, begun_fits, counter_fits, field_fits, mark_fits, there}

-- a view that fits is not the pen's
not_pen : (s : St) (r : Rule s) (id : ℕ) (v : View) → ((p : PenView) → Pen p ≡ v → ⊥) → get_elem? s.views id ≡ some v → 0 < id
not_pen s r zero v other at = absurd (other r.pen (some-injective (Pen r.pen) v (sym r.seated ∙ at)))
not_pen s r (suc id) v other at = omega arith

pen_or_pass : (p : PenView) (v : PassView) → Pen p ≡ Pass v → ⊥
pen_or_pass p v e = cc

pen_or_crank : (p : PenView) (k : CrankView) → Pen p ≡ Crank k → ⊥
pen_or_crank p k e = cc

pen_or_note : (p : PenView) (k : ℕ) → Pen p ≡ Note k → ⊥
pen_or_note p k e = cc

fits_at : (s : St) (r : Rule s) (id : ℕ) (v : PassView) → get_elem? s.views id ≡ some (Pass v) → FitsPass (world_of s.words r.pen r.last) v
fits_at s r id v at = r.each id (Pass v) at (not_pen s r id (Pass v) (λ p. pen_or_pass p v) at)

-- the words stay, and the view of a seat that is neither the pen's nor the crank's changes
views_step : (s : St) (r : Rule s) (ws : List ℕ) (id : ℕ) (v w : View) → ws ≡ s.words → 0 < id → get_elem? s.views id ≡ some v → NotCrank v
    → NotCrank w → number_in w ≡ number_in v → Fits (world_of s.words r.pen r.last) w
    → Rule record { words = ws; homes = s.homes; views = set s.views id w }
views_step s r ws id v w same far at old new number fits = subst
    (λ (xs : List ℕ). Rule record { words = xs; homes = s.homes; views = set s.views id w }) (sym same) record {
      pen = r.pen;
      last = r.last;
      crank = r.crank;
      seated = set_else s.views id 0 w (λ e. omega arith) ∙ r.seated;
      stands = r.stands;
      tops = tops_set s.views r.pen r.pen (get_or s.words 1 0) r.crank id v w at old new refl refl r.tops;
      numbers = numbers_set s.views id v w at number r.pen.kept r.pen.kept r.pen.made r.pen.made refl refl r.numbers;
      each = λ j u e beyond. ⊎_elim (λ (x : (j ≡ id) × (w ≡ u)). subst (λ (y : View). Fits (world_of s.words r.pen r.last) y) x.1 fits)
          (λ (x : (j ≢ id) × (get_elem? s.views j ≡ some u)). r.each j u x.1 beyond) (at_set s.views id j w u e);
    }

-- a load, after which the pass knows v'
load_step : (s : St) (r : Rule s) (id i : ℕ) (v v' : PassView) → v'.number ≡ v.number → get_elem? s.views id ≡ some (Pass v)
    → FitsPass (world_of s.words r.pen r.last) v' → Rule (stepped s i (get_or s.words i 0) id [] (Pass v') keeps)
load_step s r id i v v' number at fits = views_step s r (set s.words i (get_or s.words i 0)) id (Pass v) (Pass v') (set-get_or s.words i 0)
    (not_pen s r id (Pass v) (λ p. pen_or_pass p v) at) at tt tt (ap Some number) fits

module _ (w : World) where
  -- the mark of tick m's slot, where it is not m's own, is of tick m + 10 or a later one of that slot
  later_mark : (words : List ℕ) (n : ℕ) (b : Bool) (m : ℕ) (h : Hands) (s : SlotIs words n b m h) → w.marks m ≡ marks_of words m
      → w.marks m ≢ full_mark m → m ≤ n → n + cond b 1 0 ≤ top_tick w.turn → (k : ℕ) × IsMark (w.marks m) k × (m + 10 ≤ k) × (k % 10 ≡ m % 10)
      × (k ≤ top_tick w.turn)
  later_mark words n b m h s is other beyond up = let from = s.from in let same = s.same in let top = s.top in
      let ne : s.k ≢ m = λ e. other (is ∙ (s.whole (omega arith) ∙ ap full_mark e)) in
      (s.k, subst (λ v. IsMark v s.k) (sym is) s.mark, omega arith, s.same, le_trans top up)

read_at : (l : List ℕ) (k : ℕ) → k < length l → get_elem? l k ≡ some (get_or l k 0)
read_at [] k h = absurd (omega arith)
read_at (x ∷ xs) zero h = refl
read_at (x ∷ xs) (suc k) h = read_at xs k (omega arith)

module _ (s : St) (r : Rule s) where
  w : World
  w = world_of s.words r.pen r.last

  n : ℕ
  n = r.last

  small : (b : Bool) → cond b 1 0 ≤ 1
  small true = omega arith
  small false = omega arith

  still : (b : Bool) → (2 * r.last + cond b 1 0) % 2 ≡ 0 → b ≡ false
  still true e = let k : ℕ = r.last in absurd (omega arith)
  still false e = refl

  half : (b : Bool) → (2 * r.last + cond b 1 0) / 2 ≡ r.last
  half b = let c : ℕ = cond b 1 0 in let less : c ≤ 1 = small b in let k : ℕ = r.last in let h : (2 * k + c) / 2 ≡ k = omega arith in h

  -- with no windup open, the mark of the last tick is full
  last_mark : r.pen.winding ≡ false → marks_of s.words r.last ≡ full_mark r.last
  last_mark closed = let long = r.stands.long in let h = there r.pen.journal r.last (omega arith) in let t = r.stands.slots.slots r.last h.0 h.1 in
      let from = t.from in
      let none-yet : t.k ≤ r.last = unmarked r.pen.marked (λ e. true≢false (sym (r.stands.slots.opened e) ∙ closed)) t.top in
      let k-is : t.k ≡ r.last = omega arith in t.whole none-yet ∙ ap full_mark k-is
    where
      unmarked : (b : Bool) → (b ≡ true → ⊥) → {k : ℕ} → k ≤ r.last + cond b 1 0 → k ≤ r.last
      unmarked true never {k} le = absurd (never refl)
      unmarked false never {k} le = omega arith

  sane : Agrees (world_of s.words r.pen r.last)
  sane = record {
    last = ap (λ k. k + 1) (half r.pen.winding) ∙ sym r.stands.long;
    closed_bound = λ even. ap (λ l. or_else l (get_or s.words 1 0)) (r.stands.counter.closed (still r.pen.winding even));
    closed_mark = λ even. subst (λ k. marks_of s.words k ≡ full_mark k) (sym (half r.pen.winding)) (last_mark (still r.pen.winding even));
    reached = λ m h e. le_trans (r.stands.counter.ticks m h e) r.stands.counter.bound;
  }

  reaches : (marked winding : Bool) → (marked ≡ true → winding ≡ true) → r.last + cond marked 1 0 ≤ top_tick (2 * r.last + cond winding 1 0)
  reaches false winding o = let k : ℕ = r.last in let c : ℕ = cond winding 1 0 in let h : k + 0 ≤ (2 * k + c + 1) / 2 = omega arith in h
  reaches true true o = let k : ℕ = r.last in let h : k + 1 ≤ (2 * k + 1 + 1) / 2 = omega arith in h
  reaches true false o = absurd (true≢false (sym (o refl)))

  pack_at : (h : Hands) (k : ℕ) → k < 15 → get_elem? (pack h) k ≡ some (get_or (pack h) k 0)
  pack_at h k small = read_at (pack h) k (omega (arith, length-pack h))

  slot_is : (m : ℕ) (h : Hands) (k : ℕ) → k < 15 → marks_of s.words m ≡ full_mark m → get_elem? r.pen.journal m ≡ some h
      → get_elem? (pack h) k ≡ some (get_or s.words (field_at m k) 0)
  slot_is m h k less is_full at = let t = r.stands.slots.slots m h at in
      let k-is : t.k ≡ m = ⊎_elim (λ (odd : marks_of s.words m ≡ 2 * t.k + 1). absurd (omega arith))
      (λ (even : marks_of s.words m ≡ 2 * t.k + 2). omega arith) t.mark in
      pack_at h k less ∙ ap some (sym (t.fields k-is k (get_or (pack h) k 0) (pack_at h k less)))

  later : (m : ℕ) → m < length r.pen.journal → marks_of s.words m ≢ full_mark m → (k : ℕ) × IsMark (marks_of s.words m) k × (m + 10 ≤ k)
      × (k % 10 ≡ m % 10) × (k ≤ top_tick (turn_of r.pen r.last))
  later m in-J other = let h = there r.pen.journal m in-J in let long = r.stands.long in
      later_mark (world_of s.words r.pen r.last) s.words r.last r.pen.marked m h.0 (r.stands.slots.slots m h.0 h.1) refl other (omega arith)
      (reaches r.pen.marked r.pen.winding r.stands.slots.opened)

  ten_later : (m : ℕ) → m < length r.pen.journal → marks_of s.words m ≢ full_mark m → 2 * m + 21 ≤ marks_of s.words m
  ten_later m in-J other = let k = later m in-J other in let from = k.2 in
      ⊎_elim (λ (odd : marks_of s.words m ≡ 2 * k.0 + 1). omega arith) (λ (even : marks_of s.words m ≡ 2 * k.0 + 2). omega arith) k.1

  sound_at : (t : ℕ) (h : Hands) → get_elem? r.pen.journal t ≡ some h → IsSoundAt t h
  sound_at t h at = (r.pen.journal, r.stands.legal, to_Some r.pen.journal t h at)

  is_read : (t : ℕ) (h : Hands) (xs : List ℕ) → xs ≡ pack h → get_elem? r.pen.journal t ≡ some h → unpack xs ≡ h
  is_read t h xs is at = ap unpack is ∙ r.stands.back t h at

  all_known : (y : Way) (ask : Ask) → way_of ask.kind ≡ y → (seen : ℕ) (log : List Noted) (z : Scan) → seen ≤ length r.pen.journal
      → FitsCall (world_of s.words r.pen r.last) seen log y ask z → LearnsAll ask z (turn_of r.pen r.last)
  all_known full ask e seen log z in-J f whole is = let h = full_read (world_of s.words r.pen r.last) r.stands.back sane ask seen log z in-J f
      ((λ i. needs_even (sym e i) && has_fields z && (length z.counters == 1)) ∙ whole) is in
      (h.0, h.1, is_read z.tick h.0 z.fields h.1 h.2, sound_at z.tick h.0 h.2, h.3)
  all_known quick ask e seen log z in-J f whole is = absurd (true≢false (sym whole ∙ (λ i. needs_even (e i) && has_fields z && (length z.counters == 1))))
  all_known past ask e seen log z in-J f whole is = absurd (true≢false (sym whole ∙ (λ i. needs_even (e i) && has_fields z && (length z.counters == 1))))

module _ (slots id : ℕ) (v : PassView) where
  learns : (s : St) (r : Rule s) → get_elem? s.views id ≡ some (Pass v) → LearnsTurn v (turn_of r.pen r.last)
  learns s r at = let f = fits_at s r id v at in let seen = f.seen in let last = (sane s r).last in let t : ℕ = turn_of r.pen r.last in
      let last' : t / 2 + 1 ≡ length r.pen.journal = last in let few = r.stands.few in let c : ℕ = cond r.pen.winding 1 0 in
      let less : c ≤ 1 = small s r r.pen.winding in
      record { seen = omega arith; later = f.below; fits = omega arith }

  opens : (ask : Ask) → Allows Rule slots id (Pass v, []) 0 (λ n. n) (Opens ask (step slots 0 0 0 none) (Pass v, []))
  opens ask s r _ at small = let t : ℕ = turn_of r.pen r.last in let same : get_or s.words 0 0 ≡ t = r.stands.turn in (
    Pass (turn_loaded t (call_begun ask v)),
    keeps,
    tt,
    load_step s r id 0 v (turn_loaded t (call_begun ask v)) refl at
        (begun_fits (world_of s.words r.pen r.last) r.stands.back (sane s r) v ask (fits_at s r id v at)),
    (λ i. (Pass (turn_loaded (sym same i) (call_begun ask v)), []), subst (LearnsTurn v) (sym same) (learns s r at)),
  )

  turns : v.calling ≡ true → Allows Rule slots id (Pass v, []) 0 (λ n. n) (LoadsTurn (step slots 0 0 0 none) (Pass v, []))
  turns calling s r _ at small = let x : ℕ = get_or s.words 0 0 in let t : ℕ = turn_of r.pen r.last in let same : x ≡ t = r.stands.turn in
      let f = fits_at s r id v at in (
        Pass (turn_loaded t v),
        keeps,
        tt,
        load_step s r id 0 v (turn_loaded t v) refl at (turn_fits (world_of s.words r.pen r.last) r.stands.back (sane s r) v f calling),
        (
          λ i. (Pass (turn_loaded (sym same i) v), []),
          subst (LearnsTurn v) (sym same) (learns s r at),
          subst (LearnsAll v.ask (scan_of v)) (sym same) (all_known s r (way_of v.ask.kind) v.ask refl v.seen v.entries (scan_of v) f.seen (f.call calling)),
        ),
      )

  counters : v.calling ≡ true → Allows Rule slots id (Pass v, []) 1 (λ n. n) (LoadsCounter (step slots 1 0 0 none) (Pass v, []))
  counters calling s r _ at _ = let x : ℕ = get_or s.words 1 0 in let f = fits_at s r id v at in (
    Pass (counter_loaded x v),
    keeps,
    tt,
    load_step s r id 1 v (counter_loaded x v) refl at (counter_fits (world_of s.words r.pen r.last) r.stands.back (sane s r) v f calling),
    (refl, f.counters_below, r.stands.counter.small),
  )

  fields : (k m : ℕ) → v.calling ≡ true → k < 15 → m ≡ (scan_of v).tick
      → Allows Rule slots id (Pass v, []) (field_at m k) (λ n. n) (LoadsField (step slots (field_at m k) 0 0 none) (Pass v, []))
  fields k m calling small m-is s r _ at _ = let x : ℕ = get_or s.words (field_at m k) 0 in let which : k ≡ (field_at m k - 3) % 16 = omega arith in (
    Pass (field_loaded k x v),
    keeps,
    tt,
    load_step s r id (field_at m k) v (field_loaded k x v) refl at (field_fits (world_of s.words r.pen r.last) r.stands.back v k x (fits_at s r id v at) calling
        (subst (λ j. (h : Hands) → marks_of s.words j ≡ full_mark j → get_elem? r.pen.journal j ≡ some h → get_elem? (pack h) k ≡ some x) m-is
        (λ h is_full here. slot_is s r m h k small is_full here))),
    λ i. (Pass (field_loaded (which i) x v), []),
  )

  marks : v.calling ≡ true → Allows Rule slots id (Pass v, []) (mark_at ((scan_of v).tick)) (λ n. n)
      (LoadsMark (step slots (mark_at ((scan_of v).tick)) 0 0 none) (Pass v, []))
  marks calling s r _ at _ = let m : ℕ = (scan_of v).tick in let x : ℕ = get_or s.words (mark_at m) 0 in let f = fits_at s r id v at in (
    Pass (mark_loaded x v),
    keeps,
    tt,
    load_step s r id (mark_at m) v (mark_loaded x v) refl at (mark_fits (world_of s.words r.pen r.last) r.stands.back
        (to_some r.pen.journal 0 cold r.stands.legal.first) (later s r) v f calling),
    (
      refl,
      λ whole is_full. let h = whole_hands (world_of s.words r.pen r.last) r.stands.back v.seen v.entries (way_of v.ask.kind) v.ask (scan_of v)
          f.seen (f.call calling) whole is_full in (h.0, h.1, is_read s r m h.0 (scan_of v).fields h.1 h.2, sound_at s r m h.0 h.2),
      ten_later s r m (let call = f.call calling in let tick = call.tick in let near = call.near in let seen = f.seen in omega arith),
    ),
  )

-- the pen cuts a seat off
pen_cuts : (s : St) (r : Rule s) (p p' : PenView) (right : View) → get_elem? s.views 0 ≡ some (Pen p)
    → ((n crank : ℕ) → Stands s.words p n → Tops s.views p (get_or s.words 1 0) crank
    → (crank' : ℕ) × Goes (world_of s.words p n) (world_of s.words p' n) × Stands s.words p' n
    × Tops (set s.views 0 (Pen p') ++ right ∷ []) p' (get_or s.words 1 0) crank' × Fits (world_of s.words p' n) right)
    → (Numbers s.views p.kept p.made → Numbers (set s.views 0 (Pen p') ++ right ∷ []) p'.kept p'.made)
    → Rule record { words = s.words; homes = s.homes; views = set s.views 0 (Pen p') ++ right ∷ [] }
pen_cuts s r p p' right at next count = let same : r.pen ≡ p = pen_same r.pen p (sym r.seated ∙ at) in let here = in_list s.views 0 (Pen p) at in
    let stands : Stands s.words p r.last = subst (λ (q : PenView). Stands s.words q r.last) same r.stands in
    let tops : Tops s.views p (get_or s.words 1 0) r.crank = subst (λ (q : PenView). Tops s.views q (get_or s.words 1 0) r.crank) same r.tops in
    let t = next r.last r.crank stands tops in record {
      pen = p';
      last = r.last;
      crank = t.0;
      seated = at_longer (set s.views 0 (Pen p')) (right ∷ []) 0 (Pen p') (set_here s.views 0 (Pen p') here);
      stands = t.2;
      tops = t.3;
      numbers = count (subst (λ (q : PenView). Numbers s.views q.kept q.made) same r.numbers);
      each = λ j v e far. ⊎_elim
          (λ (was : get_elem? (set s.views 0 (Pen p')) j ≡ some v). ⊎_elim (λ (x : (j ≡ 0) × (Pen p' ≡ v)). let z = x.0 in absurd (omega arith))
          (λ (x : (j ≢ 0) × (get_elem? s.views j ≡ some v)). grow (world_of s.words p r.last) (world_of s.words p' r.last) t.1 v
          (subst (λ (q : PenView). Fits (world_of s.words q r.last) v) same (r.each j v x.1 far)))
          (at_set s.views 0 j (Pen p') v was))
          (λ (new : right ≡ v). subst (λ (y : View). Fits (world_of s.words p' r.last) y) new t.4)
          (at_snoc (set s.views 0 (Pen p')) right v j e);
    }

-- the pen takes a seat in
pen_takes : (s : St) (r : Rule s) (p p' : PenView) (other : ℕ) (u : View) → get_elem? s.views 0 ≡ some (Pen p) → ¬ (other ≡ 0)
    → get_elem? s.views other ≡ some u
    → ((n crank : ℕ) → Stands s.words p n → Tops s.views p (get_or s.words 1 0) crank → Fits (world_of s.words p n) u
    → Goes (world_of s.words p n) (world_of s.words p' n) × Stands s.words p' n × Tops (set (set s.views 0 (Pen p')) other Spent) p' (get_or s.words 1 0) crank)
    → (Numbers s.views p.kept p.made → Numbers (set (set s.views 0 (Pen p')) other Spent) p'.kept p'.made)
    → Rule record { words = s.words; homes = s.homes; views = set (set s.views 0 (Pen p')) other Spent }
pen_takes s r p p' other u at apart was next count = let same : r.pen ≡ p = pen_same r.pen p (sym r.seated ∙ at) in let here = in_list s.views 0 (Pen p) at in
    let stands : Stands s.words p r.last = subst (λ (q : PenView). Stands s.words q r.last) same r.stands in
    let tops : Tops s.views p (get_or s.words 1 0) r.crank = subst (λ (q : PenView). Tops s.views q (get_or s.words 1 0) r.crank) same r.tops in
    let theirs : Fits (world_of s.words p r.last) u = subst (λ (q : PenView). Fits (world_of s.words q r.last) u) same
    (r.each other u was (omega arith)) in let t = next r.last r.crank stands tops theirs in record {
      pen = p';
      last = r.last;
      crank = r.crank;
      seated = set_else (set s.views 0 (Pen p')) other 0 Spent (λ e. apart (sym e)) ∙ set_here s.views 0 (Pen p') here;
      stands = t.1;
      tops = t.2;
      numbers = count (subst (λ (q : PenView). Numbers s.views q.kept q.made) same r.numbers);
      each = λ j y e far. ⊎_elim (λ (x : (j ≡ other) × (Spent ≡ y)). subst (λ (z : View). Fits (world_of s.words p' r.last) z) x.1 tt)
          (λ (x : (j ≢ other) × (get_elem? (set s.views 0 (Pen p')) j ≡ some y)). ⊎_elim
          (λ (z : (j ≡ 0) × (Pen p' ≡ y)). let none-such = z.0 in absurd (omega arith))
          (λ (z : (j ≢ 0) × (get_elem? s.views j ≡ some y)). grow (world_of s.words p r.last) (world_of s.words p' r.last) t.0 y
          (subst (λ (q : PenView). Fits (world_of s.words q r.last) y) same (r.each j y z.1 far))) (at_set s.views 0 j (Pen p') y x.1))
          (at_set (set s.views 0 (Pen p')) other j Spent y e);
    }

tops_snoc : (views : List View) (p : PenView) (c crank : ℕ) (v : View) → NotCrank v → Tops views p c crank → Tops (views ++ v ∷ []) p c crank
tops_snoc views p c crank v new t = record {
  home = t.home;
  away = λ e. let a = t.away e in (a.0, at_longer views (v ∷ []) crank (Crank a.0) a.1, a.2);
  only = λ j k e. ⊎_elim (λ (was : get_elem? views j ≡ some (Crank k)). t.only j k was) (λ (is : v ≡ Crank k). absurd (no_crank v k new is))
      (at_snoc views v (Crank k) j e);
}

restands : (words : List ℕ) (p p' : PenView) (n : ℕ) → p'.journal ≡ p.journal → p'.winding ≡ p.winding → p'.marked ≡ p.marked → p'.set ≡ p.set
    → p'.stored ≡ p.stored → p'.loaded ≡ p.loaded → p'.counters ≡ p.counters
    → ((i : ℕ) (k : Kept) → get_elem? p'.kept i ≡ some k → FitsKept (world_of words p' n) k) → Stands words p n → Stands words p' n
restands words p p' n journal winding marked is-set stored loaded counters kept f = record {
  wide = f.wide;
  long = ap length journal ∙ f.long;
  few = f.few;
  turn = f.turn ∙ ap (λ b. 2 * n + cond b 1 0) (sym winding);
  slots = record {
    slots = λ m h e. subst (λ b. SlotIs words n b m h) (sym marked) (f.slots.slots m h (subst (λ (l : List Hands). get_elem? l m ≡ some h) journal e));
    opened = λ e. winding ∙ f.slots.opened (sym marked ∙ e);
    started = λ a b. f.slots.started (sym marked ∙ a) (sym is-set ∙ b);
    finished = λ e. let d = f.slots.finished (sym is-set ∙ e) in (marked ∙ d.0, d.1);
    stored = λ e j y at. f.slots.stored (sym marked ∙ e) j y (subst (λ (l : List ℕ). get_elem? l j ≡ some y) stored at);
    bare = subst (λ b. AreBare words (n + cond b 1 0)) (sym marked) f.slots.bare;
  };
  counter = record {
    small = f.counter.small;
    ticks = λ m h e. subst (λ l. h.count ≤ or_else l (get_or words 1 0)) (sym loaded)
        (f.counter.ticks m h (subst (λ (l : List Hands). get_elem? l m ≡ some h) journal e));
    bound = subst (λ l. or_else l (get_or words 1 0) ≤ get_or words 1 0) (sym loaded) f.counter.bound;
    counted = subst (AllAtMost (get_or words 1 0)) (sym counters) f.counter.counted;
    closed = λ e. loaded ∙ f.counter.closed (sym winding ∙ e);
  };
  legal = subst IsJournal (sym journal) f.legal;
  back = λ m h e. f.back m h (subst (λ (l : List Hands). get_elem? l m ≡ some h) journal e);
  kept = kept;
}

-- the world, with more passes made
more_made : (words : List ℕ) (p : PenView) (n m : ℕ) → p.made ≤ m → Goes (world_of words p n) (world_of words (record p { made = m }) n)
more_made words p n m up = goes_same p.journal (turn_of p n) (turn_of p n) (marks_of words) (marks_of words) (get_or words 1 0) (get_or words 1 0)
    (or_else p.loaded (get_or words 1 0)) (or_else p.loaded (get_or words 1 0)) p.made m (le_refl (turn_of p n)) (λ k z e. e)
    (le_refl (get_or words 1 0)) (le_refl (or_else p.loaded (get_or words 1 0))) up

cuts_pass : (p : PenView) → Splits Rule 0 (Pen p) (on_pen pass_made (Pen p)) (pass_cut (Pen p))
cuts_pass p s r at = pen_cuts s r p (pass_made p) (Pass (new_pass p.made (length p.journal))) at
    (λ n crank f tops. let goes = more_made s.words p n (p.made + 1) (omega arith) in (
      crank,
      goes,
      restands s.words p (pass_made p) n refl refl refl refl refl refl refl
          (grow_kept (world_of s.words p n) (world_of s.words (pass_made p) n) goes p.kept f.kept) f,
      tops_snoc (set s.views 0 (Pen (pass_made p))) (pass_made p) (get_or s.words 1 0) crank (Pass (new_pass p.made (length p.journal))) tt
          (tops_set s.views p (pass_made p) (get_or s.words 1 0) crank 0 (Pen p) (Pen (pass_made p)) at tt tt refl refl tops),
      record {
        seen = le_refl (length p.journal);
        rises = tt;
        below = λ i x e. absurd (some-ne-none x (sym e));
        known = λ i x e. absurd (some-ne-none x (sym e));
        number = omega arith;
        counters_rise = tt;
        counters_below = λ i x e. absurd (some-ne-none x (sym e));
        marks = λ i x e. absurd (some-ne-none x (sym e));
        log = record {
          each = λ i x e. absurd (some-ne-none x (sym e));
          rises = tt;
          below = λ i x e. absurd (some-ne-none x (sym e));
          counts_rise = tt;
          counts_below = λ i x e. absurd (some-ne-none x (sym e));
        };
        call = λ e. absurd (true≢false (sym e));
      },
    )) (λ n. numbers_pass (set s.views 0 (Pen (pass_made p))) (new_pass p.made (length p.journal)) p.kept p.made refl
    (numbers_set s.views 0 (Pen p) (Pen (pass_made p)) at refl p.kept p.kept p.made p.made refl refl n))

cuts_note : (p : PenView) → Splits Rule 0 (Pen p) (Pen p) (noted_cut (Pen p))
cuts_note p s r at = pen_cuts s r p p (Note (length p.journal)) at (λ n crank f tops. (
  crank,
  more_made s.words p n p.made (le_refl p.made),
  f,
  tops_snoc (set s.views 0 (Pen p)) p (get_or s.words 1 0) crank (Note (length p.journal)) tt
      (tops_set s.views p p (get_or s.words 1 0) crank 0 (Pen p) (Pen p) at tt tt refl refl tops),
  le_refl (length p.journal),
)) (λ n. numbers_snoc (set s.views 0 (Pen p)) (Note (length p.journal)) p.kept p.made refl
    (numbers_set s.views 0 (Pen p) (Pen p) at refl p.kept p.kept p.made p.made refl refl n))

cuts_crank : (p : PenView) → p.out ≡ false → Splits Rule 0 (Pen p) (on_pen crank_lent (Pen p)) (crank_cut (Pen p))
cuts_crank p in-hand s r at = pen_cuts s r p (crank_lent p) (Crank crank_first) at
    (λ n crank f tops. let goes = more_made s.words p n p.made (le_refl p.made) in let l : List View = set s.views 0 (Pen (crank_lent p)) in
    let home = tops.home in-hand in (
      length l,
      goes,
      restands s.words p (crank_lent p) n refl refl refl refl refl refl refl f.kept f,
      record {
        home = λ e. absurd (true≢false e);
        away = λ _. (crank_first, at_last l (Crank crank_first) (length l) refl, omega arith);
        only = λ j k e. ⊎_elim
            (λ (was : get_elem? l j ≡ some (Crank k)). ⊎_elim (λ (x : (j ≡ 0) × (Pen (crank_lent p) ≡ Crank k)). absurd
            (pen_or_crank (crank_lent p) k x.1)) (λ (x : (j ≢ 0) × (get_elem? s.views j ≡ some (Crank k))). absurd
            (true≢false (sym (tops.only j k x.1).0 ∙ in-hand))) (at_set s.views 0 j (Pen (crank_lent p)) (Crank k) was))
            (λ (new : (j ≡ length l) × (Crank crank_first ≡ Crank k)). (refl, new.0)) (at_end l (Crank crank_first) (Crank k) j e);
      },
      tt,
    )) (λ n. numbers_snoc (set s.views 0 (Pen (crank_lent p))) (Crank crank_first) p.kept p.made refl
    (numbers_set s.views 0 (Pen p) (Pen (crank_lent p)) at refl p.kept p.kept p.made p.made refl refl n))

takes_pass : (p : PenView) (other : ℕ) (v : PassView) → Joins Rule 0 (Pen p) other (Pass v) (taken (Pen p) (Pass v)) Spent
takes_pass p other v s r at apart there' = let p' = pass_taken p v in
    let was : get_elem? s.views other ≡ some (Pass v) = sym (set_else s.views 0 other (Pen p') apart) ∙ there' in
    pen_takes s r p p' other (Pass v) at apart was (λ n crank f tops fits. (
      more_made s.words p n p.made (le_refl p.made),
      restands s.words p p' n refl refl refl refl refl refl refl
          (λ i x e. ⊎_elim (λ (old : get_elem? p.kept i ≡ some x). f.kept i x old)
          (λ (new : kept_of v ≡ x). subst (λ (y : Kept). FitsKept (world_of s.words p n) y)
          new record { seen = fits.seen; counters = fits.counters_below; log = fits.log }) (at_snoc p.kept (kept_of v) x i e)) f,
      tops_set (set s.views 0 (Pen p')) p' p' (get_or s.words 1 0) crank other (Pass v) Spent there' tt tt refl refl
          (tops_set s.views p p' (get_or s.words 1 0) crank 0 (Pen p) (Pen p') at tt tt refl refl tops),
    )) (λ n. numbers_kept (set s.views 0 (Pen p')) other v p.kept p.made there'
    (numbers_set s.views 0 (Pen p) (Pen p') at refl p.kept p.kept p.made p.made refl refl n))

takes_crank : (p : PenView) (other : ℕ) (k : CrankView) → Joins Rule 0 (Pen p) other (Crank k) (taken (Pen p) (Crank k)) Spent
takes_crank p other k s r at apart there' = let p' = crank_taken p k.top in
    let was : get_elem? s.views other ≡ some (Crank k) = sym (set_else s.views 0 other (Pen p') apart) ∙ there' in
    pen_takes s r p p' other (Crank k) at apart was (λ n crank f tops fits. let o = tops.only other k was in let a = tops.away o.0 in
    let c : ℕ = get_or s.words 1 0 in
    let same : Crank a.0 ≡ Crank k = some-injective _ _ (sym a.1 ∙ (ap (λ i. get_elem? s.views i) (sym o.1) ∙ was)) in let k-is : a.0 ≡ k = cc in
    let top-is : a.0.top ≡ k.top = ap (λ (x : CrankView). x.top) k-is in let top = a.2 in (
      more_made s.words p n p.made (le_refl p.made),
      restands s.words p p' n refl refl refl refl refl refl refl f.kept f,
      record {
        home = λ _. omega arith;
        away = λ e. absurd (true≢false (sym e));
        only = λ j q e. absurd (⊎_elim (λ (x : (j ≡ other) × (Spent ≡ Crank q)). no_crank Spent q tt x.1)
            (λ (x : (j ≢ other) × (get_elem? (set s.views 0 (Pen p')) j ≡ some (Crank q))). ⊎_elim (λ (z : (j ≡ 0) × (Pen p' ≡ Crank q)). pen_or_crank p' q z.1)
            (λ (z : (j ≢ 0) × (get_elem? s.views j ≡ some (Crank q))). x.0 ((tops.only j q z.1).1 ∙ sym o.1))
            (at_set s.views 0 j (Pen p') (Crank q) x.1)) (at_set (set s.views 0 (Pen p')) other j Spent (Crank q) e));
      },
    )) (λ n. numbers_set (set s.views 0 (Pen p')) other (Crank k) Spent there' refl p.kept p.kept p.made p.made refl refl
    (numbers_set s.views 0 (Pen p) (Pen p') at refl p.kept p.kept p.made p.made refl refl n))

-- a pass takes a note in
learned_fits : (w : World) (v : PassView) (k : ℕ) → k ≤ length w.journal → FitsPass w v → FitsPass w (learned v k)
learned_fits w v k small f = let seen = f.seen in let up : v.seen ≤ max v.seen k = omega arith in record {
  seen = omega arith;
  rises = f.rises;
  below = f.below;
  known = λ i t e. let h = f.known i t e in omega arith;
  number = f.number;
  counters_rise = f.counters_rise;
  counters_below = f.counters_below;
  marks = f.marks;
  log = f.log;
  call = λ e. let c = f.call e in let tick = c.tick in record {
    begun = c.begun;
    undecided = c.undecided;
    later = c.later;
    tick = omega arith;
    near = c.near;
    reached = c.reached;
    kind = c.kind;
    fields = c.fields;
    counters = c.counters;
  };
}

takes_note : (id : ℕ) (v : PassView) (other k : ℕ) → Joins Rule id (Pass v) other (Note k) (taken (Pass v) (Note k)) Spent
takes_note id v other k s r at apart there' = let v' = learned v k in
    let was : get_elem? s.views other ≡ some (Note k) = sym (set_else s.views id other (Pass v') apart) ∙ there' in
    let far = not_pen s r id (Pass v) (λ p. pen_or_pass p v) at in let far' = not_pen s r other (Note k) (λ p. pen_or_note p k) was in
    let note = r.each other (Note k) was far' in
    let first : Rule record { words = s.words; homes = s.homes; views = set s.views id (Pass v') } = views_step s r s.words id (Pass v) (Pass v')
    refl far at tt tt refl (learned_fits (world_of s.words r.pen r.last) v k note (fits_at s r id v at)) in
    views_step record { words = s.words; homes = s.homes; views = set s.views id (Pass v') } first s.words other (Note k) Spent refl far' there' tt tt refl tt

-- the crank raises the counter
cranks : (slots id : ℕ) (k : CrankView) (to : ℕ) → to < 2 ^ 62
    → Allows Rule slots id (Crank k, []) 1 (λ x. max x to) (Cranks (step slots 1 to 0 none) (Crank k, []))
cranks slots id k to few s r _ at _ = let c : ℕ = get_or s.words 1 0 in let c' : ℕ = max c to in let ws : List ℕ = set s.words 1 c' in
    let low : 1 < 2 = omega arith in let p = r.pen in let f = r.stands in let wide = f.wide in
    let is : get_or ws 1 0 ≡ c' = get_or-set_same s.words 1 c' 0 (omega arith) in let up : c ≤ c' = omega arith in
    let far = not_pen s r id (Crank k) (λ p. pen_or_crank p k) at in let here = in_list s.views id (Crank k) at in
    let old = λ (m : ℕ) (z : m < length p.journal) (e : marks_of ws m ≡ full_mark m). sym (low_keeps_mark s.words wide 1 m c' low) ∙ e in
    let small = f.counter.small in
    let goes : Goes (world_of s.words p r.last) (world_of ws p r.last) = goes_same p.journal (turn_of p r.last) (turn_of p r.last) (marks_of s.words)
    (marks_of ws) c (get_or ws 1 0) (or_else p.loaded c) (or_else p.loaded (get_or ws 1 0)) p.made p.made (le_refl (turn_of p r.last)) old
    (subst (λ y. c ≤ y) (sym is) up) (subst (λ y. or_else p.loaded c ≤ or_else p.loaded y) (sym is) (or_else_up p.loaded c c' up)) (le_refl p.made) in
    let o = r.tops.only id k at in let a = r.tops.away o.0 in let same : Crank a.0 ≡ Crank k = some-injective _ _
    (sym a.1 ∙ (ap (λ i. get_elem? s.views i) (sym o.1) ∙ at)) in let k-is : a.0 ≡ k = cc in
    let top-is : a.0.top ≡ k.top = ap (λ (x : CrankView). x.top) k-is in let top = a.2 in let reached : k.top ≤ c = omega arith in
    let k' : CrankView = crank_raised to c' k in
    let w' : View = Crank k' in (
      w',
      keeps,
      tt,
      record {
        pen = p;
        last = r.last;
        crank = id;
        seated = set_else s.views id 0 w' (λ e. omega arith) ∙ r.seated;
        stands = record {
          wide = length-set s.words 1 c' ∙ wide;
          long = f.long;
          few = f.few;
          turn = get_or-set_other s.words 1 0 c' 0 (λ e. omega arith) ∙ f.turn;
          slots = slots_low s.words p p r.last 1 c' wide low refl refl refl refl refl f.slots;
          counter = subst (λ y. CounterStands y p) (sym is) record {
            small = omega arith;
            ticks = λ m h e. le_trans (f.counter.ticks m h e) (or_else_up p.loaded c c' up);
            bound = bound_up p.loaded c c' up f.counter.bound;
            counted = λ i x e. le_trans (f.counter.counted i x e) up;
            closed = f.counter.closed;
          };
          legal = f.legal;
          back = f.back;
          kept = grow_kept (world_of s.words p r.last) (world_of ws p r.last) goes p.kept f.kept;
        };
        tops = subst (λ y. Tops (set s.views id w') p y id) (sym is) record {
          home = λ e. absurd (true≢false (sym o.0 ∙ e));
          away = λ _. (k', set_here s.views id w' here, omega arith);
          only = λ j q e. ⊎_elim (λ (x : (j ≡ id) × (w' ≡ Crank q)). (o.0, x.0))
              (λ (x : (j ≢ id) × (get_elem? s.views j ≡ some (Crank q))). let z = r.tops.only j q x.1 in (z.0, z.1 ∙ sym o.1))
              (at_set s.views id j w' (Crank q) e);
        };
        numbers = numbers_set s.views id (Crank k) w' at refl p.kept p.kept p.made p.made refl refl r.numbers;
        each = λ j u e beyond. ⊎_elim (λ (x : (j ≡ id) × (w' ≡ u)). subst (λ (y : View). Fits (world_of ws p r.last) y) x.1 tt)
            (λ (x : (j ≢ id) × (get_elem? s.views j ≡ some u)). grow (world_of s.words p r.last) (world_of ws p r.last) goes u
            (r.each j u x.1 beyond)) (at_set s.views id j w' u e);
      },
      (refl, reached, small),
    )
  where
    bound_up : (l : Option ℕ) (c c' : ℕ) → c ≤ c' → or_else l c ≤ c → or_else l c' ≤ c'
    bound_up None c c' up b = le_refl c'
    bound_up (Some x) c c' up b = le_trans b up

-- the pen looks at the turn word
looks : (slots : ℕ) (p : PenView) → Allows Rule slots 0 (Pen p, []) 0 (λ n. n) (LoadsOwnTurn (step slots 0 0 0 none) (Pen p, []))
looks slots p s r _ at _ = let same : r.pen ≡ p = pen_same r.pen p (sym r.seated ∙ at) in
    let stands : Stands s.words p r.last = subst (λ (q : PenView). Stands s.words q r.last) same r.stands in
    let tops : Tops s.views p (get_or s.words 1 0) r.crank = subst (λ (q : PenView). Tops s.views q (get_or s.words 1 0) r.crank) same r.tops in
    let numbers : Numbers s.views p.kept p.made = subst (λ (q : PenView). Numbers s.views q.kept q.made) same r.numbers in
    let last : r.last ≡ length p.journal - 1 = let long = stands.long in omega arith in
    let unmoved : record { words = set s.words 0 (get_or s.words 0 0); homes = s.homes; views = set s.views 0 (Pen p) }
    ≡ s = λ i. record { words = set-get_or s.words 0 0 i; homes = s.homes; views = set_again s.views 0 (Pen p) at i } in (
      Pen p,
      keeps,
      tt,
      subst Rule (sym unmoved) r,
      (
        refl,
        stands.turn ∙ ap (turn_of p) last,
        record {
          journal = stands.legal;
          once = numbers.once;
          given = numbers.small_kept;
          stood = s.words;
          small = stands.counter.small;
          home = λ e. tops.home e;
          closed = stands.counter.closed;
          reached = λ e m h at. subst (λ o. h.count ≤ or_else o (get_or s.words 1 0)) (stands.counter.closed e) (stands.counter.ticks m h at);
          each = λ i k e. subst (λ n. FitsKept (world_of s.words p n) k) last (stands.kept i k e);
        },
      ),
    )

-- the same at seats that are known
module _ (slots : ℕ) (f : ℕ → ℕ) (then : ℕ → Me (Unit {0}) View → ℕ → Me (Unit {0}) View → Type 0) where
  at_pass : (id : ℕ) (m : Me (Unit {0}) View) (u : View) (word word' : ℕ) → m ≡ (u, []) → word ≡ word'
      → Allows Rule slots id (u, []) word' f (then word' (u, [])) → Allows Rule slots id m word f (then word m)
  at_pass id m u word word' is w move = subst (λ (x : Me (Unit {0}) View × ℕ). Allows Rule slots id x.0 x.1 f (then x.1 x.0)) (λ i. (sym is i, sym w i)) move

pub opens_at : (slots id : ℕ) (m : Me (Unit {0}) View) (v : PassView) (ask : Ask) → m ≡ (Pass v, [])
    → Allows Rule slots id m 0 (λ n. n) (Opens ask (step slots 0 0 0 none) m)
opens_at slots id m v ask is = at_pass slots (λ n. n) (λ u. Opens ask (step slots u 0 0 none)) id m (Pass v) 0 0 is refl (opens slots id v ask)

pub turns_at : (slots id : ℕ) (m : Me (Unit {0}) View) (v : PassView) → m ≡ (Pass v, []) → v.calling ≡ true
    → Allows Rule slots id m 0 (λ n. n) (LoadsTurn (step slots 0 0 0 none) m)
turns_at slots id m v is calling = at_pass slots (λ n. n) (λ u. LoadsTurn (step slots u 0 0 none)) id m (Pass v) 0 0 is refl (turns slots id v calling)

pub counters_at : (slots id : ℕ) (m : Me (Unit {0}) View) (v : PassView) → m ≡ (Pass v, []) → v.calling ≡ true
    → Allows Rule slots id m 1 (λ n. n) (LoadsCounter (step slots 1 0 0 none) m)
counters_at slots id m v is calling = at_pass slots (λ n. n) (λ u. LoadsCounter (step slots u 0 0 none)) id m (Pass v) 1 1 is refl (counters slots id v calling)

pub fields_at : (slots id : ℕ) (m : Me (Unit {0}) View) (v : PassView) (tick k word : ℕ) → m ≡ (Pass v, []) → v.calling ≡ true → k < 15
    → tick ≡ (scan_of v).tick → word ≡ field_at tick k → Allows Rule slots id m word (λ n. n) (LoadsField (step slots word 0 0 none) m)
fields_at slots id m v tick k word is calling small t w = at_pass slots (λ n. n) (λ u. LoadsField (step slots u 0 0 none)) id m (Pass v) word
    (field_at tick k) is w (fields slots id v k tick calling small t)

pub marks_at : (slots id : ℕ) (m : Me (Unit {0}) View) (v : PassView) (word : ℕ) → m ≡ (Pass v, []) → v.calling ≡ true
    → word ≡ mark_at ((scan_of v).tick) → Allows Rule slots id m word (λ n. n) (LoadsMark (step slots word 0 0 none) m)
marks_at slots id m v word is calling w = at_pass slots (λ n. n) (λ u. LoadsMark (step slots u 0 0 none)) id m (Pass v) word
    (mark_at ((scan_of v).tick)) is w (marks slots id v calling)

pub cranks_at : (slots id : ℕ) (m : Me (Unit {0}) View) (k : CrankView) (to : ℕ) → m ≡ (Crank k, []) → to < 2 ^ 62
    → Allows Rule slots id m 1 (λ x. max x to) (Cranks (step slots 1 to 0 none) m)
cranks_at slots id m k to is few = at_pass slots (λ x. max x to) (λ u. Cranks (step slots u to 0 none)) id m (Crank k) 1 1 is refl (cranks slots id k to few)

pub looks_at : (slots id : ℕ) (m : Me (Unit {0}) View) (p : PenView) → id ≡ 0 → m ≡ (Pen p, [])
    → Allows Rule slots id m 0 (λ n. n) (LoadsOwnTurn (step slots 0 0 0 none) m)
looks_at slots id m p z is = subst (λ (x : ℕ × Me (Unit {0}) View). Allows Rule slots x.0 x.1 0 (λ n. n) (LoadsOwnTurn (step slots 0 0 0 none) x.1))
    (λ i. (sym z i, sym is i)) (looks slots p)

module _ (left right : View → View) where
  cut_at : (id : ℕ) (v : View) (p : PenView) → id ≡ 0 → v ≡ Pen p → Splits Rule 0 (Pen p) (left (Pen p)) (right (Pen p)) → Splits Rule id v (left v) (right v)
  cut_at id v p z is = subst (λ (x : ℕ × View). Splits Rule x.0 x.1 (left x.1) (right x.1)) (λ i. (sym z i, sym is i))

pub cuts_at : (id : ℕ) (v : View) (p : PenView) → id ≡ 0 → v ≡ Pen p → Splits Rule id v (on_pen pass_made v) (pass_cut v)
cuts_at id v p z is = cut_at (on_pen pass_made) pass_cut id v p z is (cuts_pass p)

pub cuts_note_at : (id : ℕ) (v : View) (p : PenView) → id ≡ 0 → v ≡ Pen p → Splits Rule id v v (noted_cut v)
cuts_note_at id v p z is = cut_at (λ u. u) noted_cut id v p z is (cuts_note p)

pub cuts_crank_at : (id : ℕ) (v : View) (p : PenView) → id ≡ 0 → v ≡ Pen p → p.out ≡ false → Splits Rule id v (on_pen crank_lent v) (crank_cut v)
cuts_crank_at id v p z is in-hand = cut_at (on_pen crank_lent) crank_cut id v p z is (cuts_crank p in-hand)

take_at : (id : ℕ) (v u : View) (other : ℕ) (w x : View) → v ≡ u → w ≡ x → Joins Rule id u other x (taken u x) Spent → Joins Rule id v other w (taken v w) Spent
take_at id v u other w x is theirs = subst (λ (z : View × View). Joins Rule id z.0 other z.1 (taken z.0 z.1) Spent) (λ i. (sym is i, sym theirs i))

pub takes_in_at : (id : ℕ) (v : View) (p : PenView) (other : ℕ) (w : View) (u : PassView) → id ≡ 0 → v ≡ Pen p → w ≡ Pass u
    → Joins Rule id v other w (taken v w) Spent
takes_in_at id v p other w u z is theirs = subst (λ i. Joins Rule i v other w (taken v w) Spent) (sym z)
    (take_at 0 v (Pen p) other w (Pass u) is theirs (takes_pass p other u))

pub takes_crank_at : (id : ℕ) (v : View) (p : PenView) (other : ℕ) (w : View) (k : CrankView) → id ≡ 0 → v ≡ Pen p → w ≡ Crank k
    → Joins Rule id v other w (taken v w) Spent
takes_crank_at id v p other w k z is theirs = subst (λ i. Joins Rule i v other w (taken v w) Spent) (sym z)
    (take_at 0 v (Pen p) other w (Crank k) is theirs (takes_crank p other k))

pub takes_note_at : (id : ℕ) (v : View) (u : PassView) (other : ℕ) (w : View) (k : ℕ) → v ≡ Pass u → w ≡ Note k → Joins Rule id v other w (taken v w) Spent
takes_note_at id v u other w k is theirs = take_at id v (Pass u) other w (Note k) is theirs (takes_note id u other k)
