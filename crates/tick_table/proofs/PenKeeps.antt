-- Each step of the pen keeps the rule.
use Rattle.std.proofs.Common.{◌≡◌, ℕ, zero, suc, ◌+◌, ◌-◌, ◌*◌, ◌%◌, ◌^◌, ◌<◌, ◌≤◌, ◌≢◌, max, Bool, true, false, true≢false, ◌&&◌, cond, List, [], ◌∷◌, ◌++◌, length, drop, get_or, set, Some, None, sym, refl, ap, ◌∙◌, subst, inl, inr, ⊎_elim, arith, lit<, le_refl, le_trans, length-append, length-set, get_or-set_same, get_or-set_other, slice_get}
use Rattle.std.specs.Prelude.{Option}
use mathlib.Core.Option.{none, some, some-injective, some-ne-none}
use mathlib.Core.Logic.{dite}
use native.Mathlib.Decide.{ℕ_discrete}
use lib.ListN.{get_elem?}
use lib.Seq.{set-get_or}
use Rattle.std.proofs.lemmas.List.{get_or-drop}
use Rattle.atomic_table.specs.Table.{State, Me, step, keeps, stepped, Allows, opening}
use Rattle.atomic_table.proofs.Lists.{at_set, set_here, set_else, at_last, at_snoc, at_longer}
use Rattle.ff_hands.specs.declared.hands.Hands.{Hands}
use Rattle.clock_logs.specs.declared.noted.Kept.{Kept}
use Rattle.tick_views.specs.declared.views.PenView.{PenView}
use Rattle.tick_views.specs.declared.views.View.{View}
use Rattle.tick_views.specs.declared.views.View.TheVariants.{Pen, Pass, Crank, Note, Spent}
use Rattle.tick_views.specs.declared.views.CrankView.{CrankView}
use Rattle.ff_hands.specs.Windups.{cold}
use Rattle.ff_hands.specs.Journals.{Follows, IsJournal}
use Rattle.hand_words.specs.Words.{pack, unpack}
use Rattle.hand_words.proofs.Back.{length-pack, unpack-pack}
use Rattle.ff_hands.proofs.Ticks.{sound-leap}
use Rattle.ff_hands.specs.Ranges.{FitsWords}
use Rattle.clock_lines.specs.Readings.{newest}
use Rattle.ff_hands.proofs.Sounding.{journal-push}
use Rattle.tick_views.proofs.Loads.{there}
use Rattle.tick_table.proofs.Lists.{Some_same, to_some, to_Some}
use Rattle.std.proofs.lemmas.Option.{slice_get-get_or}
use Rattle.tick_table.proofs.Numbering.{numbers_set}
use Rattle.tick_reads.specs.Looks.{full_mark}
use Rattle.tick_table.specs.Rule.{turn_of, mark_at, field_at, marks_of, world_of, SlotIs, AreBare, SlotsStand, CounterStands, Stands, Tops, number_in, Numbers, Rule}
use Rattle.tick_views.specs.Worlds.{Goes, World, AllAtMost, FitsKept, Fits, IsMark, or_else}
use Rattle.tick_views.specs.Views.{pen_first, turn_started, mark_started, field_stored, mark_set, turn_closed, loaded_if, pen_counted, top_raised}
use Rattle.tick_table.specs.Steps.{Starts, StartsMark, Stores, SetsMark, Closes, LearnsCounter, LoadsOwnCounter, Raises}
use Rattle.tick_views.proofs.Grow.{at_end, at_shorter, in_list, grow, grow_one_kept}

abbrev pub St : Type 0
St = State (Unit {0}) View

pub pen_same : (p q : PenView) → some (Pen p) ≡ some (Pen q) → p ≡ q
pen_same p q e = let i : Pen p ≡ Pen q = some-injective _ _ e in cc

pub one_last : (n m : ℕ) → n + 1 ≡ m + 1 → n ≡ m
one_last n m e = omega arith

abbrev pub NotCrank : View → Type 0
NotCrank (Crank k) = ⊥
NotCrank (Pen p) = Unit {0}
NotCrank (Pass v) = Unit {0}
NotCrank (Note seen) = Unit {0}
NotCrank Spent = Unit {0}

pub no_crank : (v : View) (top : CrankView) → NotCrank v → v ≡ Crank top → ⊥
no_crank v top n e = subst NotCrank e n

-- a step of a seat that is not the crank's leaves the tops
pub tops_set : (views : List View) (p p' : PenView) (c crank id : ℕ) (v w : View) → get_elem? views id ≡ some v → NotCrank v → NotCrank w
    → p'.out ≡ p.out → p'.top ≡ p.top → Tops views p c crank → Tops (set views id w) p' c crank
tops_set views p p' c crank id v w at old new out top t = record {
  home = λ e. t.home (sym out ∙ e) ∙ sym top;
  away = λ e. let a = t.away (sym out ∙ e) in (
    a.0,
    set_else views id crank w (λ same. no_crank v a.0 old (some-injective _ _ (sym at ∙ (subst (λ i. get_elem? views i ≡ some (Crank a.0)) same a.1)))) ∙ a.1,
    a.2 ∙ ap (λ k. max k a.0.top) (sym top),
  );
  only = λ j k e. ⊎_elim (λ (x : (j ≡ id) × (w ≡ Crank k)). absurd (no_crank w k new x.1))
      (λ (x : (j ≢ id) × (get_elem? views j ≡ some (Crank k))). let o = t.only j k x.1 in (out ∙ o.0, o.1)) (at_set views id j w (Crank k) e);
}

-- a store of the pen, after which the words stand for what it then knows
pen_step : (s : St) (r : Rule s) (p p' : PenView) (i new : ℕ) → get_elem? s.views 0 ≡ some (Pen p) → p'.kept ≡ p.kept → p'.made ≡ p.made
    → ((n crank : ℕ) → Stands s.words p n → Tops s.views p (get_or s.words 1 0) crank
    → (n' : ℕ) × Goes (world_of s.words p n) (world_of (set s.words i new) p' n') × Stands (set s.words i new) p' n'
    × Tops (set s.views 0 (Pen p')) p' (get_or (set s.words i new) 1 0) crank)
    → Rule (stepped s i new 0 [] (Pen p') keeps)
pen_step s r p p' i new at ks ms next = let same : r.pen ≡ p = pen_same r.pen p (sym r.seated ∙ at) in let here = in_list s.views 0 (Pen p) at in
    let stands : Stands s.words p r.last = subst (λ (q : PenView). Stands s.words q r.last) same r.stands in
    let tops : Tops s.views p (get_or s.words 1 0) r.crank = subst (λ (q : PenView). Tops s.views q (get_or s.words 1 0) r.crank) same r.tops in
    let t = next r.last r.crank stands tops in record {
      pen = p';
      last = t.0;
      crank = r.crank;
      seated = set_here s.views 0 (Pen p') here;
      stands = t.2;
      tops = t.3;
      numbers = numbers_set s.views 0 (Pen p) (Pen p') at refl p.kept p'.kept p.made p'.made ks ms
          (subst (λ (q : PenView). Numbers s.views q.kept q.made) same r.numbers);
      each = λ j v e far. ⊎_elim (λ (x : (j ≡ 0) × (Pen p' ≡ v)). let z = x.0 in absurd (omega arith))
          (λ (x : (j ≢ 0) × (get_elem? s.views j ≡ some v)). grow (world_of s.words p r.last) (world_of (set s.words i new) p' t.0) t.1 v
          (subst (λ (q : PenView). Fits (world_of s.words q r.last) v) same (r.each j v x.1 far)))
          (at_set s.views 0 j (Pen p') v e);
    }

pub grow_kept : (w w' : World) → Goes w w' → (ks : List Kept) → ((i : ℕ) (k : Kept) → get_elem? ks i ≡ some k → FitsKept w k) → (i : ℕ)
    (k : Kept) → get_elem? ks i ≡ some k → FitsKept w' k
grow_kept w w' goes ks f i k at = grow_one_kept w w' goes k (f i k at)

abbrev pub world : List Hands → ℕ → (ℕ → ℕ) → ℕ → ℕ → ℕ → World
world J t M c b m = record { journal = J; turn = t; marks = M; counter = c; bound = b; made = m }

-- the journal stays
pub goes_same : (J : List Hands) (t t' : ℕ) (M M' : ℕ → ℕ) (c c' b b' m m' : ℕ) → t ≤ t'
    → ((k : ℕ) → k < length J → M' k ≡ full_mark k → M k ≡ full_mark k) → c ≤ c' → b ≤ b' → m ≤ m' → Goes (world J t M c b m) (world J t' M' c' b' m')
goes_same J t t' M M' c c' b b' m m' up marks more bound made = record {
  on = λ i h at. at;
  back = λ i h in-J at. at;
  longer = le_refl (length J);
  turn = up;
  marks = marks;
  counter = more;
  made = made;
  next = λ h at. let beyond = in_list J (length J) h at in absurd (omega arith);
  bound = λ _. bound;
}

-- the journal gains a tick, whose count is at least the bound
pub goes_on : (J : List Hands) (h : Hands) (t t' : ℕ) (M M' : ℕ → ℕ) (c c' b b' m : ℕ) → t ≤ t'
    → ((k : ℕ) → k < length J → M' k ≡ full_mark k → M k ≡ full_mark k) → c ≤ c' → b ≤ h.count → Goes (world J t M c b m) (world (J ++ h ∷ []) t' M' c' b' m)
goes_on J h t t' M M' c c' b b' m up marks more bound = record {
  on = λ i g at. at_longer J (h ∷ []) i g at;
  back = λ i g in-J at. at_shorter J (h ∷ []) i g in-J at;
  longer = omega (arith, length-append J (h ∷ []));
  turn = up;
  marks = marks;
  counter = more;
  made = le_refl m;
  next = λ g at. subst (λ (x : Hands). b ≤ x.count) (some-injective h g (sym (at_last J h (length J) refl) ∙ at)) bound;
  bound = λ e. absurd (omega (arith, length-append J (h ∷ [])));
}

-- the counter word after a store elsewhere
counter_stays : (words : List ℕ) (i x : ℕ) → i ≢ 1 → get_or (set words i x) 1 0 ≡ get_or words 1 0
counter_stays words i x ne = get_or-set_other words i 1 x 0 (λ e. ne (sym e))

pub or_else_up : (l : Option ℕ) (c c' : ℕ) → c ≤ c' → or_else l c ≤ or_else l c'
or_else_up None c c' up = up
or_else_up (Some x) c c' up = le_refl x

legal_more : (J : List Hands) (n : ℕ) (h : Hands) → length J ≡ n + 1 → IsJournal J
    → ((g : Hands) → slice_get J n ≡ Some g → Follows g h) → IsJournal (J ++ h ∷ [])
legal_more J n h long legal next = let g = there J n (omega arith) in let at : slice_get J n ≡ Some g.0 = to_Some J n g.0 g.1 in
    let last : n ≡ length J - 1 = omega arith in
    journal-push J g.0 h legal (subst (λ i. slice_get J i ≡ Some g.0) last at) (next g.0 at)

back_more : (J : List Hands) (h : Hands) → ((m : ℕ) (g : Hands) → get_elem? J m ≡ some g → unpack (pack g) ≡ g) → unpack (pack h) ≡ h
    → (m : ℕ) (g : Hands) → get_elem? (J ++ h ∷ []) m ≡ some g → unpack (pack g) ≡ g
back_more J h old new m g e = ⊎_elim (λ (was : get_elem? J m ≡ some g). old m g was)
    (λ (is : h ≡ g). subst (λ (x : Hands). unpack (pack x) ≡ x) is new) (at_snoc J h g m e)

-- The slot of a tick after a store elsewhere
module _ (words : List ℕ) (wide : length words ≡ 162) where
  -- at a mark
  mark_here : (m a x : ℕ) → m % 10 ≡ a % 10 → marks_of (set words (mark_at a) x) m ≡ x
  mark_here m a x e = let i : mark_at m ≡ mark_at a = ap (λ k. 2 + 16 * k) e in rw i (get_or-set_same words (mark_at a) x 0 (omega arith))

  mark_far : (m a x : ℕ) → m % 10 ≢ a % 10 → marks_of (set words (mark_at a) x) m ≡ marks_of words m
  mark_far m a x ne = get_or-set_other words (mark_at a) (mark_at m) x 0 (λ e. ne (omega arith))

  mark_keeps_field : (m f a x : ℕ) → f < 15 → get_or (set words (mark_at a) x) (field_at m f) 0 ≡ get_or words (field_at m f) 0
  mark_keeps_field m f a x small = get_or-set_other words (mark_at a) (field_at m f) x 0 (λ e. omega arith)

  -- at a field
  field_keeps_mark : (m a f x : ℕ) → f < 15 → marks_of (set words (field_at a f) x) m ≡ marks_of words m
  field_keeps_mark m a f x small = get_or-set_other words (field_at a f) (mark_at m) x 0 (λ e. omega arith)

  field_far : (m g a f x : ℕ) → m % 10 ≢ a % 10 → f < 15 → g < 15 → get_or (set words (field_at a f) x) (field_at m g) 0 ≡ get_or words (field_at m g) 0
  field_far m g a f x ne small small' = get_or-set_other words (field_at a f) (field_at m g) x 0 (λ e. ne (omega arith))

  -- at the turn word or the counter
  pub low_keeps_mark : (i m x : ℕ) → i < 2 → marks_of (set words i x) m ≡ marks_of words m
  low_keeps_mark i m x low = get_or-set_other words i (mark_at m) x 0 (λ e. omega arith)

  low_keeps_field : (i m f x : ℕ) → i < 2 → get_or (set words i x) (field_at m f) 0 ≡ get_or words (field_at m f) 0
  low_keeps_field i m f x low = get_or-set_other words i (field_at m f) x 0 (λ e. omega arith)

-- the slots without a tick, after a store that leaves them
bare_stays : (words words' : List ℕ) (t t' : ℕ) → t ≤ t' → ((m : ℕ) → t' < m → m < 10 → marks_of words' m ≡ marks_of words m)
    → ((m f : ℕ) → t' < m → m < 10 → f < 15 → get_or words' (field_at m f) 0 ≡ get_or words (field_at m f) 0) → AreBare words t → AreBare words' t'
bare_stays words words' t t' up mark field b = record {
  marks = λ m above low. mark m above low ∙ b.marks m (omega arith) low;
  fields = λ m f above low small. field m f above low small ∙ b.fields m f (omega arith) low small;
}

pub two_fields : (h : Hands) (f x : ℕ) → get_elem? (pack h) f ≡ some x → f < 15
two_fields h f x e = let p = in_list (pack h) f x e in omega (arith, length-pack h)

-- a slot whose mark and fields stay
slot_stays : (words words' : List ℕ) (n n' : ℕ) (b b' : Bool) (m : ℕ) (h : Hands) (s : SlotIs words n b m h) → marks_of words' m ≡ marks_of words m
    → ((f : ℕ) → f < 15 → get_or words' (field_at m f) 0 ≡ get_or words (field_at m f) 0)
    → s.k ≤ n' + cond b' 1 0 → (s.k ≤ n' → marks_of words m ≡ full_mark s.k) → SlotIs words' n' b' m h
slot_stays words words' n n' b b' m h s mark fields top whole = record {
  k = s.k;
  mark = subst (λ v. IsMark v s.k) (sym mark) s.mark;
  same = s.same;
  from = s.from;
  top = top;
  whole = λ le. mark ∙ whole le;
  fields = λ e f x at. fields f (two_fields h f x at) ∙ s.fields e f x at;
}

abbrev no_more : Bool → Type 0
no_more marked = let c : ℕ = cond marked 1 0 in c ≡ 0

unmarked : (marked winding : Bool) → (marked ≡ true → winding ≡ true) → winding ≡ false → no_more marked
unmarked true winding o e = absurd (true≢false (sym (o refl) ∙ e))
unmarked false winding o e = refl

-- the slots without a tick, after a store at the turn word or the counter
bare_low : (words : List ℕ) → length words ≡ 162 → (t t' i x : ℕ) → i < 2 → t ≤ t' → AreBare words t → AreBare (set words i x) t'
bare_low words wide t t' i x low up = bare_stays words (set words i x) t t' up (λ m _ _. low_keeps_mark words wide i m x low)
    (λ m g _ _ _. low_keeps_field words wide i m g x low)

-- the slots after a store at the turn word or the counter, by which the pen's view of the slots stays
pub slots_low : (words : List ℕ) (p p' : PenView) (n i x : ℕ) → length words ≡ 162 → i < 2 → p'.journal ≡ p.journal → p'.marked ≡ p.marked
    → p'.set ≡ p.set → p'.winding ≡ p.winding → p'.stored ≡ p.stored → SlotsStand words p n → SlotsStand (set words i x) p' n
slots_low words p p' n i x wide low journal marked is-set winding stored f = record {
  slots = λ m h e. let t = f.slots m h (subst (λ (l : List Hands). get_elem? l m ≡ some h) journal e) in
      subst (λ b. SlotIs (set words i x) n b m h) (sym marked) (slot_stays words (set words i x) n n p.marked p.marked m h t
      (low_keeps_mark words wide i m x low) (λ g small. low_keeps_field words wide i m g x low) t.top t.whole);
  opened = λ e. winding ∙ f.opened (sym marked ∙ e);
  started = λ a b. low_keeps_mark words wide i (n + 1) x low ∙ f.started (sym marked ∙ a) (sym is-set ∙ b);
  finished = λ e. let d = f.finished (sym is-set ∙ e) in (marked ∙ d.0, low_keeps_mark words wide i (n + 1) x low ∙ d.1);
  stored = λ e j y at. low_keeps_field words wide i (n + 1) j x low ∙ f.stored (sym marked ∙ e) j y (subst (λ (l : List ℕ). get_elem? l j ≡ some y) stored at);
  bare = subst (λ b. AreBare (set words i x) (n + cond b 1 0)) (sym marked)
      (bare_low words wide (n + cond p.marked 1 0) (n + cond p.marked 1 0) i x low (le_refl (n + cond p.marked 1 0)) f.bare);
}

starts : (slots : ℕ) (p : PenView) (n : ℕ) → p.winding ≡ false → length p.journal ≡ n + 1
    → Allows Rule slots 0 (Pen p, []) 0 (λ _. 2 * n + 1) (λ _. Starts (step slots 0 (2 * n + 1) 0 none) (Pen p, []) (2 * n + 1))
starts slots p n closed long s r _ at _ = (
  Pen (turn_started p),
  keeps,
  tt,
  pen_step s r p (turn_started p) 0 (2 * n + 1) at refl refl (λ k crank f tops. let same : k ≡ n = one_last k n (sym f.long ∙ long) in
      let wide = f.wide in let was : turn_of p k ≡ 2 * n = rw (closed, same) (omega arith) in
      let ws : List ℕ = set s.words 0 (2 * n + 1) in let c : ℕ = get_or s.words 1 0 in let c' = counter_stays s.words 0 (2 * n + 1) (λ e. omega arith) in
      let up : turn_of p k ≤ 2 * n + 1 = omega arith in let old = λ (m : ℕ) (z : m < length p.journal) (e : marks_of ws m ≡ full_mark m). sym
      (low_keeps_mark s.words wide 0 m (2 * n + 1) (omega arith)) ∙ e in
      let goes = goes_same p.journal (turn_of p k) (2 * n + 1) (marks_of s.words) (marks_of ws) c (get_or ws 1 0) (or_else p.loaded c)
      (get_or ws 1 0) p.made p.made up old (subst (λ y. c ≤ y) (sym c') (le_refl c))
      (subst (λ y. or_else p.loaded c ≤ y) (sym c') f.counter.bound) (le_refl p.made) in (
        n,
        goes,
        record {
          wide = length-set s.words 0 (2 * n + 1) ∙ wide;
          long = long;
          few = subst (λ i. i < 2 ^ 62) same f.few;
          turn = get_or-set_same s.words 0 (2 * n + 1) 0 (omega arith);
          slots = record {
            slots = λ m h e. let t = f.slots.slots m h e in let top = t.top in let d : ℕ = cond p.marked 1 0 in
                let none-yet : d ≡ 0 = unmarked p.marked p.winding f.slots.opened closed in
                slot_stays s.words ws k n p.marked false m h t (low_keeps_mark s.words wide 0 m (2 * n + 1) (omega arith))
                (λ g small. low_keeps_field s.words wide 0 m g (2 * n + 1) (omega arith)) (omega arith) (λ le. t.whole (omega arith));
            opened = λ e. absurd (true≢false (sym e));
            started = λ e. absurd (true≢false (sym e));
            finished = λ e. absurd (true≢false (sym e));
            stored = λ e. absurd (true≢false (sym e));
            bare = bare_low s.words wide (k + cond p.marked 1 0) (n + 0) 0 (2 * n + 1) (omega arith)
                (let d : ℕ = cond p.marked 1 0 in let none-yet : d ≡ 0 = unmarked p.marked p.winding f.slots.opened closed in omega arith) f.slots.bare;
          };
          counter = subst (λ y. CounterStands y (turn_started p)) (sym c') record {
            small = f.counter.small;
            ticks = λ m h e. le_trans (f.counter.ticks m h e) f.counter.bound;
            bound = le_refl c;
            counted = f.counter.counted;
            closed = λ _. refl;
          };
          legal = f.legal;
          back = f.back;
          kept = grow_kept (world_of s.words p k) (world_of ws (turn_started p) n) goes p.kept f.kept;
        },
        subst (λ y. Tops (set s.views 0 (Pen (turn_started p))) (turn_started p) y crank) (sym c')
            (tops_set s.views p (turn_started p) c crank 0 (Pen p) (Pen (turn_started p)) at tt tt refl refl tops),
      )),
  refl,
)

-- a step of the pen on a slot, which leaves the journal, the turn word and the counter
slot_step : (s : St) (r : Rule s) (p p' : PenView) (n i x : ℕ) → get_elem? s.views 0 ≡ some (Pen p) → length p.journal ≡ n + 1 → 1 < i
    → p'.journal ≡ p.journal → p'.winding ≡ p.winding → p'.loaded ≡ p.loaded → p'.made ≡ p.made → p'.kept ≡ p.kept → p'.out ≡ p.out → p'.top ≡ p.top
    → p'.counters ≡ p.counters
    → (Stands s.words p n → ((m : ℕ) → m < length p.journal → marks_of (set s.words i x) m ≡ full_mark m → marks_of s.words m ≡ full_mark m)
    × SlotsStand (set s.words i x) p' n)
    → Rule (stepped s i x 0 [] (Pen p') keeps)
slot_step s r p p' n i x at long far journal winding loaded made kept out top counters next =
    pen_step s r p p' i x at kept made (λ k crank f tops. let same : k ≡ n = one_last k n (sym f.long ∙ long) in
    let f' : Stands s.words p n = subst (Stands s.words p) same f in
    let ws : List ℕ = set s.words i x in let c : ℕ = get_or s.words 1 0 in let c' = counter_stays s.words i x (λ e. omega arith) in let t = next f' in
    let w' : World = world p.journal (turn_of p n) (marks_of ws) c (or_else p.loaded c) p.made in
    let is : world_of ws p' n ≡ w' = λ j. world (journal j) (2 * n + cond (winding j) 1 0) (marks_of ws) (c' j) (or_else (loaded j) (c' j)) (made j) in
    let goes : Goes (world_of s.words p n) w' = goes_same p.journal (turn_of p n) (turn_of p n) (marks_of s.words) (marks_of ws) c c
    (or_else p.loaded c) (or_else p.loaded c) p.made p.made (le_refl (turn_of p n)) t.0 (le_refl c) (le_refl (or_else p.loaded c)) (le_refl p.made) in
    let goes' : Goes (world_of s.words p n) (world_of ws p' n) = subst (Goes (world_of s.words p n)) (sym is) goes in (
      n,
      subst (λ j. Goes (world_of s.words p j) (world_of ws p' n)) (sym same) goes',
      record {
        wide = length-set s.words i x ∙ f.wide;
        long = ap length journal ∙ long;
        few = f'.few;
        turn = get_or-set_other s.words i 0 x 0 (λ e. omega arith) ∙ (f'.turn ∙ ap (λ b. 2 * n + cond b 1 0) (sym winding));
        slots = t.1;
        counter = subst (λ y. CounterStands y p') (sym c') record {
          small = f.counter.small;
          ticks = λ m h e. subst (λ l. h.count ≤ or_else l c) (sym loaded) (f.counter.ticks m h (subst (λ (l : List Hands). get_elem? l m ≡ some h) journal e));
          bound = subst (λ l. or_else l c ≤ c) (sym loaded) f.counter.bound;
          counted = subst (AllAtMost c) (sym counters) f.counter.counted;
          closed = λ e. loaded ∙ f.counter.closed (sym winding ∙ e);
        };
        legal = subst IsJournal (sym journal) f.legal;
        back = λ m h e. f.back m h (subst (λ (l : List Hands). get_elem? l m ≡ some h) journal e);
        kept = subst (λ (ks : List Kept). (i : ℕ) (k : Kept) → get_elem? ks i ≡ some k → FitsKept (world_of ws p' n) k) (sym kept)
            (grow_kept (world_of s.words p n) (world_of ws p' n) goes' p.kept f'.kept);
      },
      subst (λ y. Tops (set s.views 0 (Pen p')) p' y crank) (sym c') (tops_set s.views p p' c crank 0 (Pen p) (Pen p') at tt tt out top tops),
    ))

-- a store into the mark of the slot of tick n + 1
module _ (words : List ℕ) (p : PenView) (n x : ℕ) (f : Stands words p n) (is : IsMark x (n + 1)) where
  abbrev ws : List ℕ
  ws = set words (mark_at (n + 1)) x

  remarked_slot : (m : ℕ) (h : Hands) → get_elem? p.journal m ≡ some h → Dec (m % 10 ≡ (n + 1) % 10) → SlotIs ws n true m h
  remarked_slot m h at (yes e) = let near = in_list p.journal m h at in let long = f.long in record {
    k = n + 1;
    mark = subst (λ v. IsMark v (n + 1)) (sym (mark_here words f.wide m (n + 1) x e)) is;
    same = sym e;
    from = omega arith;
    top = le_refl (n + 1);
    whole = λ le. absurd (omega arith);
    fields = λ same. absurd (omega arith);
  }
  remarked_slot m h at (no ne) = let t = f.slots.slots m h at in let top = t.top in
      slot_stays words ws n n p.marked true m h t (mark_far words f.wide m (n + 1) x ne)
      (λ g small. mark_keeps_field words f.wide m g (n + 1) x small) (up p.marked top) t.whole
    where
      up : (b : Bool) → (f.slots.slots m h at).k ≤ n + cond b 1 0 → (f.slots.slots m h at).k ≤ n + 1
      up true le = le
      up false le = omega arith

  remarked_old : (m : ℕ) → m < length p.journal → marks_of ws m ≡ full_mark m → marks_of words m ≡ full_mark m
  remarked_old m near e = let long = f.long in dite (ℕ_discrete (m % 10) ((n + 1) % 10))
      (λ here. let v = mark_here words f.wide m (n + 1) x here in
      ⊎_elim (λ (odd : x ≡ 2 * (n + 1) + 1). absurd (omega arith)) (λ (even : x ≡ 2 * (n + 1) + 2). absurd (omega arith)) is)
      (λ ne. sym (mark_far words f.wide m (n + 1) x ne) ∙ e)

  remarked_bare : AreBare ws (n + 1)
  remarked_bare = bare_stays words ws (n + cond p.marked 1 0) (n + 1) (one_more p.marked)
      (λ m above low. mark_far words f.wide m (n + 1) x (λ e. omega arith)) (λ m g _ _ small. mark_keeps_field words f.wide m g (n + 1) x small) f.slots.bare
    where
      one_more : (b : Bool) → n + cond b 1 0 ≤ n + 1
      one_more true = le_refl (n + 1)
      one_more false = omega arith

pub same_slot : (words : List ℕ) (m a : ℕ) → m % 10 ≡ a % 10 → marks_of words m ≡ marks_of words a
same_slot words m a e = ap (λ k. get_or words (2 + 16 * k) 0) e

marks : (slots : ℕ) (p : PenView) (n : ℕ) → p.winding ≡ true → p.marked ≡ false → length p.journal ≡ n + 1
    → Allows Rule slots 0 (Pen p, []) (mark_at (n + 1)) (λ _. 2 * (n + 1) + 1)
    (λ _. StartsMark (step slots (mark_at (n + 1)) (2 * (n + 1) + 1) 0 none) (Pen p, []) (2 * (n + 1) + 1))
marks slots p n opened unmarked long s r _ at _ = let x : ℕ = 2 * (n + 1) + 1 in (
  Pen (mark_started p),
  keeps,
  tt,
  slot_step s r p (mark_started p) n (mark_at (n + 1)) x at long (omega arith) refl refl refl refl refl refl refl refl (λ f. (
    remarked_old s.words p n x f (inl refl),
    record {
      slots = λ m h e. remarked_slot s.words p n x f (inl refl) m h e (ℕ_discrete (m % 10) ((n + 1) % 10));
      opened = λ _. opened;
      started = λ _ _. mark_here s.words f.wide (n + 1) (n + 1) x refl;
      finished = λ e. absurd (true≢false (sym e));
      stored = λ _ i y e. absurd (some-ne-none y (sym e));
      bare = remarked_bare s.words p n x f (inl refl);
    },
  )),
  refl,
)

sets : (slots : ℕ) (p : PenView) (n : ℕ) → p.winding ≡ true → p.marked ≡ true → length p.stored ≡ 15 → length p.journal ≡ n + 1
    → Allows Rule slots 0 (Pen p, []) (mark_at (n + 1)) (λ _. full_mark (n + 1))
    (λ _. SetsMark (step slots (mark_at (n + 1)) (full_mark (n + 1)) 0 none) (Pen p, []) (full_mark (n + 1)))
sets slots p n opened marked whole long s r _ at _ = let x : ℕ = full_mark (n + 1) in (
  Pen (mark_set p),
  keeps,
  tt,
  slot_step s r p (mark_set p) n (mark_at (n + 1)) x at long (omega arith) refl refl refl refl refl refl refl refl (λ f. (
    remarked_old s.words p n x f (inr refl),
    record {
      slots = λ m h e. subst (λ b. SlotIs (set s.words (mark_at (n + 1)) x) n b m h) (sym marked)
          (remarked_slot s.words p n x f (inr refl) m h e (ℕ_discrete (m % 10) ((n + 1) % 10)));
      opened = λ _. opened;
      started = λ _ e. absurd (true≢false e);
      finished = λ _. (marked, mark_here s.words f.wide (n + 1) (n + 1) x refl);
      stored = λ _ i y e. let small : i < 15 = subst (λ j. i < j) whole (in_list p.stored i y e) in
          mark_keeps_field s.words f.wide (n + 1) i (n + 1) x small ∙ f.slots.stored marked i y e;
      bare = subst (λ b. AreBare (set s.words (mark_at (n + 1)) x) (n + cond b 1 0)) (sym marked) (remarked_bare s.words p n x f (inr refl));
    },
  )),
  refl,
)

-- a field of the next tick's slot
module _ (words : List ℕ) (p : PenView) (n g x : ℕ) (f : Stands words p n) (marked : p.marked ≡ true) (unset : p.set ≡ false) (small : g < 15) where
  stored_slot : (m : ℕ) (h : Hands) → get_elem? p.journal m ≡ some h → Dec (m % 10 ≡ (n + 1) % 10) → SlotIs (set words (field_at (n + 1) g) x) n p.marked m h
  stored_slot m h at (yes e) = let t = f.slots.slots m h at in let near = in_list p.journal m h at in let long = f.long in
      let v : marks_of words m ≡ 2 * (n + 1) + 1 = same_slot words m (n + 1) e ∙ f.slots.started marked unset in
      let k-is : t.k ≡ n + 1 = ⊎_elim (λ (odd : marks_of words m ≡ 2 * t.k + 1). omega arith)
      (λ (even : marks_of words m ≡ 2 * t.k + 2). absurd (omega arith)) t.mark in
      let mark = field_keeps_mark words f.wide m (n + 1) g x small in record {
        k = t.k;
        mark = subst (λ u. IsMark u t.k) (sym mark) t.mark;
        same = t.same;
        from = t.from;
        top = t.top;
        whole = λ le. absurd (omega arith);
        fields = λ same. absurd (omega arith);
      }
  stored_slot m h at (no ne) = let t = f.slots.slots m h at in
      slot_stays words (set words (field_at (n + 1) g) x) n n p.marked p.marked m h t (field_keeps_mark words f.wide m (n + 1) g x small)
      (λ i small'. field_far words f.wide m i (n + 1) g x ne small small') t.top t.whole

  stored_bare : AreBare (set words (field_at (n + 1) g) x) (n + cond p.marked 1 0)
  stored_bare = let d : ℕ = cond p.marked 1 0 in let one : d ≡ 1 = ap (λ b. cond b 1 0) marked in
      bare_stays words (set words (field_at (n + 1) g) x) (n + cond p.marked 1 0) (n + cond p.marked 1 0) (le_refl (n + cond p.marked 1 0))
      (λ m _ _. field_keeps_mark words f.wide m (n + 1) g x small)
      (λ m i above low small'. field_far words f.wide m i (n + 1) g x (λ e. omega arith) small small') f.slots.bare

stored_more : (words stored : List ℕ) (n x : ℕ) → length words ≡ 162 → length stored < 15
    → ((i y : ℕ) → get_elem? stored i ≡ some y → get_or words (field_at (n + 1) i) 0 ≡ y)
    → (i y : ℕ) → get_elem? (stored ++ x ∷ []) i ≡ some y → get_or (set words (field_at (n + 1) (length stored)) x) (field_at (n + 1) i) 0 ≡ y
stored_more words stored n x wide small before i y e = ⊎_elim
    (λ (was : get_elem? stored i ≡ some y). let near = in_list stored i y was in
    get_or-set_other words (field_at (n + 1) (length stored)) (field_at (n + 1) i) x 0 (λ z. omega arith) ∙ before i y was)
    (λ (new : (i ≡ length stored) × (x ≡ y)). let i-is = new.0 in
    let place : field_at (n + 1) i ≡ field_at (n + 1) (length stored) = ap (field_at (n + 1)) i-is in
    rw place (get_or-set_same words (field_at (n + 1) (length stored)) x 0 (omega arith) ∙ new.1))
    (at_end stored x y i e)

stores : (slots : ℕ) (p : PenView) (n x : ℕ) → p.winding ≡ true → p.marked ≡ true → p.set ≡ false → length p.stored < 15 → length p.journal ≡ n + 1
    → Allows Rule slots 0 (Pen p, []) (field_at (n + 1) (length p.stored)) (λ _. x)
    (λ _. Stores (step slots (field_at (n + 1) (length p.stored)) x 0 none) (Pen p, []) x)
stores slots p n x opened marked unset small long s r _ at _ = let g : ℕ = length p.stored in (
  Pen (field_stored x p),
  keeps,
  tt,
  slot_step s r p (field_stored x p) n (field_at (n + 1) g) x at long (omega arith) refl refl refl refl refl refl refl refl
      (λ f. let wide = f.wide in let keeps_mark = λ (m : ℕ). field_keeps_mark s.words wide m (n + 1) g x small in (
        (λ m z e. sym (keeps_mark m) ∙ e),
        record {
          slots = λ m h e. stored_slot s.words p n g x f marked unset small m h e (ℕ_discrete (m % 10) ((n + 1) % 10));
          opened = f.slots.opened;
          started = λ a b. keeps_mark (n + 1) ∙ f.slots.started a b;
          finished = λ e. absurd (true≢false (sym e ∙ unset));
          stored = λ a i y e. stored_more s.words p.stored n x wide small (f.slots.stored a) i y e;
          bare = stored_bare s.words p n g x f marked unset small;
        },
      )),
  refl,
)

closed_slot : (words : List ℕ) (p : PenView) (n : ℕ) (f : Stands words p n) → p.set ≡ true
    → (ws : List ℕ) (m : ℕ) (g : Hands) → get_elem? p.journal m ≡ some g → marks_of ws m ≡ marks_of words m
    → ((i : ℕ) → i < 15 → get_or ws (field_at m i) 0 ≡ get_or words (field_at m i) 0) → SlotIs ws (n + 1) false m g
closed_slot words p n f is-set ws m g e mark fields = let t = f.slots.slots m g e in let done = f.slots.finished is-set in let marked = done.0 in
    let top : t.k ≤ n + 1 = subst (λ b. t.k ≤ n + cond b 1 0) marked t.top in
    slot_stays words ws n (n + 1) p.marked false m g t mark fields (omega arith)
    (λ _. dite (ℕ_discrete t.k (n + 1)) (λ z. same_slot words m (n + 1) (sym t.same ∙ ap (λ j. j % 10) z) ∙ (done.1 ∙ ap full_mark (sym z)))
    (λ ne. t.whole (omega arith)))

new_slot : (words : List ℕ) (p : PenView) (n : ℕ) (h : Hands) (f : Stands words p n) → p.set ≡ true → p.stored ≡ pack h
    → (ws : List ℕ) → marks_of ws (n + 1) ≡ marks_of words (n + 1)
    → ((i : ℕ) → get_or ws (field_at (n + 1) i) 0 ≡ get_or words (field_at (n + 1) i) 0) → SlotIs ws (n + 1) false (n + 1) h
new_slot words p n h f is-set stored ws mark fields = let done = f.slots.finished is-set in record {
  k = n + 1;
  mark = inr (mark ∙ done.1);
  same = refl;
  from = le_refl (n + 1);
  top = omega arith;
  whole = λ _. mark ∙ done.1;
  fields = λ _ i x e. fields i ∙ f.slots.stored done.0 i x (subst (λ (l : List ℕ). get_elem? l i ≡ some x) (sym stored) e);
}

-- hands that follow the last tick of a journal are read back from their words
pub can_be_read : (J : List Hands) (n : ℕ) (h : Hands) → length J ≡ n + 1 → IsJournal J
    → ((g : Hands) → slice_get J n ≡ Some g → Follows g h) → FitsWords h → unpack (pack h) ≡ h
can_be_read J n h long legal next ranges = let more : List Hands = J ++ h ∷ [] in
    let end : length more - 1 ≡ length J = omega (arith, length-append J (h ∷ [])) in
    let last : slice_get more (length more - 1) ≡ Some h = subst (λ i. slice_get more i ≡ Some h) (sym end)
    (to_Some more (length J) h (at_last J h (length J) refl)) in
    unpack-pack h ranges (sound-leap h record { ticks = more; journal = legal_more J n h long legal next; last = last })

closes : (slots : ℕ) (p : PenView) (n : ℕ) (h : Hands) → p.winding ≡ true → p.set ≡ true → length p.journal ≡ n + 1 → length p.journal < 2 ^ 62
    → p.stored ≡ pack h → FitsWords h → p.loaded ≡ Some h.count → ((g : Hands) → slice_get p.journal n ≡ Some g → Follows g h)
    → Allows Rule slots 0 (Pen p, []) 0 (λ _. 2 * n + 2) (λ _. Closes (step slots 0 (2 * n + 2) 0 none) (Pen p, []) (2 * n + 2))
closes slots p n h opened is-set long room stored ranges loaded next s r _ at _ =
    let legal : IsJournal p.journal = subst (λ (q : PenView). IsJournal q.journal) (pen_same r.pen p (sym r.seated ∙ at)) r.stands.legal in
    let again : unpack (pack h) ≡ h = can_be_read p.journal n h long legal next ranges in let is : unpack p.stored ≡ h = ap unpack stored ∙ again in
    let longer = length-append p.journal (unpack p.stored ∷ []) in let ws : List ℕ = set s.words 0 (2 * n + 2) in let low : 0 < 2 = omega arith in (
      Pen (turn_closed p),
      keeps,
      tt,
      pen_step s r p (turn_closed p) 0 (2 * n + 2) at refl refl (λ k crank f tops. let same : k ≡ n = one_last k n (sym f.long ∙ long) in
          let f' : Stands s.words p n = subst (Stands s.words p) same f in let wide = f'.wide in
          let c : ℕ = get_or s.words 1 0 in let c' = counter_stays s.words 0 (2 * n + 2) (λ e. omega arith) in
          let count-is : or_else p.loaded c ≡ h.count = ap (λ l. or_else l c) loaded in
          let was : turn_of p k ≡ 2 * n + 1 = rw (opened, same) (omega arith) in let up : turn_of p k ≤ 2 * (n + 1) + 0 = omega arith in
          let bound : or_else p.loaded c ≤ (unpack p.stored).count = subst (λ (g : Hands). or_else p.loaded c ≤ g.count) (sym is)
          (subst (λ y. or_else p.loaded c ≤ y) count-is (le_refl (or_else p.loaded c))) in
          let keeps_mark = λ (m : ℕ). low_keeps_mark s.words wide 0 m (2 * n + 2) low in
          let old = λ (m : ℕ) (z : m < length p.journal) (e : marks_of ws m ≡ full_mark m). sym (keeps_mark m) ∙ e in let done = f'.slots.finished is-set in
          let goes = goes_on p.journal (unpack p.stored) (turn_of p k) (2 * (n + 1) + 0) (marks_of s.words) (marks_of ws) c (get_or ws 1 0)
          (or_else p.loaded c) (get_or ws 1 0) p.made up old (subst (λ y. c ≤ y) (sym c') (le_refl c)) bound in (
            n + 1,
            goes,
            record {
              wide = length-set s.words 0 (2 * n + 2) ∙ wide;
              long = omega arith;
              few = omega arith;
              turn = get_or-set_same s.words 0 (2 * n + 2) 0 (omega arith) ∙ omega arith;
              slots = record {
                slots = λ m g e. ⊎_elim (λ (there : get_elem? p.journal m ≡ some g). closed_slot s.words p n f' is-set ws m g there (keeps_mark m)
                    (λ i _. low_keeps_field s.words wide 0 m i (2 * n + 2) low))
                    (λ (new : (m ≡ length p.journal) × (unpack p.stored ≡ g)). subst (λ (z : ℕ × Hands). SlotIs ws (n + 1) false z.0 z.1)
                    (λ i. (sym (new.0 ∙ long) i, (sym is ∙ new.1) i)) (new_slot s.words p n h f' is-set stored ws (keeps_mark (n + 1))
                    (λ i. low_keeps_field s.words wide 0 (n + 1) i (2 * n + 2) low)))
                    (at_end p.journal (unpack p.stored) g m e);
                opened = λ e. absurd (true≢false (sym e));
                started = λ e. absurd (true≢false (sym e));
                finished = λ e. absurd (true≢false (sym e));
                stored = λ e. absurd (true≢false (sym e));
                bare = bare_low s.words wide (n + cond p.marked 1 0) (n + 1 + 0) 0 (2 * n + 2) low
                    (let d : ℕ = cond p.marked 1 0 in let one : d ≡ 1 = ap (λ b. cond b 1 0) done.0 in omega arith) f'.slots.bare;
              };
              counter = subst (λ y. CounterStands y (turn_closed p)) (sym c') record {
                small = f.counter.small;
                ticks = λ m g e. ⊎_elim (λ (there : get_elem? p.journal m ≡ some g). le_trans (f.counter.ticks m g there) f.counter.bound)
                    (λ (new : unpack p.stored ≡ g). subst (λ (x : Hands). x.count ≤ c) (sym is ∙ new) (subst (λ y. y ≤ c) count-is f.counter.bound))
                    (at_snoc p.journal (unpack p.stored) g m e);
                bound = le_refl c;
                counted = f.counter.counted;
                closed = λ _. refl;
              };
              legal = legal_more p.journal n (unpack p.stored) long f'.legal (λ g e. subst (Follows g) (sym is) (next g e));
              back = back_more p.journal (unpack p.stored) f'.back (subst (λ (x : Hands). unpack (pack x) ≡ x) (sym is) again);
              kept = grow_kept (world_of s.words p k) (world_of ws (turn_closed p) (n + 1)) goes p.kept f.kept;
            },
            subst (λ y. Tops (set s.views 0 (Pen (turn_closed p))) (turn_closed p) y crank) (sym c')
                (tops_set s.views p (turn_closed p) c crank 0 (Pen p) (Pen (turn_closed p)) at tt tt refl refl tops),
          )),
      (refl, legal),
    )

-- the pen loads the counter
bound_after : (b : Bool) (c : ℕ) → or_else (loaded_if b c) c ≡ c
bound_after true c = refl
bound_after false c = refl

not_loaded : (b : Bool) (c : ℕ) → b ≡ false → loaded_if b c ≡ None
not_loaded b c e = ap (λ x. loaded_if x c) e

top_below : (views : List View) (p : PenView) (c crank : ℕ) (b : Bool) → p.out ≡ b → Tops views p c crank → p.top ≤ c
top_below views p c crank false e t = let h = t.home e in omega arith
top_below views p c crank true e t = let a = t.away e in let h = a.2 in omega arith

-- what a step of the pen on the counter tells
own_counter : (s : St) (r : Rule s) (p : PenView) → get_elem? s.views 0 ≡ some (Pen p) → LearnsCounter p (get_or s.words 1 0)
own_counter s r p at = let same : r.pen ≡ p = pen_same r.pen p (sym r.seated ∙ at) in let c : ℕ = get_or s.words 1 0 in
    let stands : Stands s.words p r.last = subst (λ (q : PenView). Stands s.words q r.last) same r.stands in
    let tops : Tops s.views p c r.crank = subst (λ (q : PenView). Tops s.views q c r.crank) same r.tops in
    record {
      top = top_below s.views p c r.crank p.out refl tops;
      home = tops.home;
      reached = λ m h e. le_trans (stands.counter.ticks m h e) stands.counter.bound;
      small = stands.counter.small;
      later = stands.counter.counted;
    }

counts : (slots : ℕ) (p : PenView) (n : ℕ) → length p.journal ≡ n + 1
    → Allows Rule slots 0 (Pen p, []) 1 (λ x. x) (LoadsOwnCounter (step slots 1 0 0 none) (Pen p, []))
counts slots p n long s r _ at _ = let c : ℕ = get_or s.words 1 0 in let p' = pen_counted c p in let same-words = set-get_or s.words 1 0 in
    let same : r.pen ≡ p = pen_same r.pen p (sym r.seated ∙ at) in
    let stands : Stands s.words p r.last = subst (λ (q : PenView). Stands s.words q r.last) same r.stands in
    let tops' : Tops s.views p c r.crank = subst (λ (q : PenView). Tops s.views q c r.crank) same r.tops in (
      Pen p',
      keeps,
      tt,
      pen_step s r p p' 1 c at refl refl (λ k crank f tops.
          let goes : Goes (world_of s.words p k) (world_of s.words p' k) = goes_same p.journal (turn_of p k) (turn_of p k) (marks_of s.words)
          (marks_of s.words) c c (or_else p.loaded c) (or_else (loaded_if p.winding c) c) p.made p.made (le_refl (turn_of p k)) (λ m z e. e) (le_refl c)
          (subst (λ y. or_else p.loaded c ≤ y) (sym (bound_after p.winding c)) f.counter.bound) (le_refl p.made) in
          subst (λ (ws : List ℕ). (n' : ℕ) × Goes (world_of s.words p k) (world_of ws p' n') × Stands ws p' n'
          × Tops (set s.views 0 (Pen p')) p' (get_or ws 1 0) crank) (sym same-words) (
            k,
            goes,
            record {
              wide = f.wide;
              long = f.long;
              few = f.few;
              turn = f.turn;
              slots = record {
                slots = f.slots.slots;
                opened = f.slots.opened;
                started = f.slots.started;
                finished = f.slots.finished;
                stored = f.slots.stored;
                bare = f.slots.bare;
              };
              counter = record {
                small = f.counter.small;
                ticks = λ m h e. subst (λ y. h.count ≤ y) (sym (bound_after p.winding c)) (le_trans (f.counter.ticks m h e) f.counter.bound);
                bound = subst (λ y. y ≤ c) (sym (bound_after p.winding c)) (le_refl c);
                counted = λ i x e. ⊎_elim (λ (was : get_elem? p.counters i ≡ some x). f.counter.counted i x was)
                    (λ (new : c ≡ x). subst (λ y. y ≤ c) new (le_refl c)) (at_snoc p.counters c x i e);
                closed = λ e. not_loaded p.winding c e;
              };
              legal = f.legal;
              back = f.back;
              kept = grow_kept (world_of s.words p k) (world_of s.words p' k) goes p.kept f.kept;
            },
            tops_set s.views p p' c crank 0 (Pen p) (Pen p') at tt tt refl refl tops,
          )),
      (refl, own_counter s r p at),
    )

-- the pen raises the counter
raises : (slots : ℕ) (p : PenView) (n to : ℕ) → length p.journal ≡ n + 1 → to < 2 ^ 62
    → Allows Rule slots 0 (Pen p, []) 1 (λ x. max x to) (Raises (step slots 1 to 0 none) (Pen p, []))
raises slots p n to long few s r _ at _ = let c : ℕ = get_or s.words 1 0 in let c' : ℕ = max c to in let p' = top_raised to c' p in
    let ws : List ℕ = set s.words 1 c' in let low : 1 < 2 = omega arith in (
      Pen p',
      keeps,
      tt,
      pen_step s r p p' 1 c' at refl refl (λ k crank f tops. let wide = f.wide in
          let is : get_or ws 1 0 ≡ c' = get_or-set_same s.words 1 c' 0 (omega arith) in let up : c ≤ c' = omega arith in
          let old = λ (m : ℕ) (z : m < length p.journal) (e : marks_of ws m ≡ full_mark m). sym (low_keeps_mark s.words wide 1 m c' low) ∙ e in
          let small = f.counter.small in
          let goes : Goes (world_of s.words p k) (world_of ws p' k) = goes_same p.journal (turn_of p k) (turn_of p k) (marks_of s.words) (marks_of ws) c
          (get_or ws 1 0) (or_else p.loaded c) (or_else p.loaded (get_or ws 1 0)) p.made p.made (le_refl (turn_of p k)) old
          (subst (λ y. c ≤ y) (sym is) up) (subst (λ y. or_else p.loaded c ≤ or_else p.loaded y) (sym is) (or_else_up p.loaded c c' up)) (le_refl p.made) in (
            k,
            goes,
            record {
              wide = length-set s.words 1 c' ∙ wide;
              long = f.long;
              few = f.few;
              turn = get_or-set_other s.words 1 0 c' 0 (λ e. omega arith) ∙ f.turn;
              slots = slots_low s.words p p' k 1 c' wide low refl refl refl refl refl f.slots;
              counter = subst (λ y. CounterStands y p') (sym is) record {
                small = omega arith;
                ticks = λ m h e. le_trans (f.counter.ticks m h e) (or_else_up p.loaded c c' up);
                bound = bound_up p.loaded c c' up f.counter.bound;
                counted = λ i x e. le_trans (f.counter.counted i x e) up;
                closed = f.counter.closed;
              };
              legal = f.legal;
              back = f.back;
              kept = grow_kept (world_of s.words p k) (world_of ws p' k) goes p.kept f.kept;
            },
            subst (λ y. Tops (set s.views 0 (Pen p')) p' y crank) (sym is) (raised_tops s.views p c crank to at tops),
          )),
      (refl, own_counter s r p at),
    )
  where
    bound_up : (l : Option ℕ) (c c' : ℕ) → c ≤ c' → or_else l c ≤ c → or_else l c' ≤ c'
    bound_up None c c' up b = le_refl c'
    bound_up (Some x) c c' up b = le_trans b up

    raised_tops : (views : List View) (p : PenView) (c crank to : ℕ) → get_elem? views 0 ≡ some (Pen p) → Tops views p c crank
        → Tops (set views 0 (Pen (top_raised to (max c to) p))) (top_raised to (max c to) p) (max c to) crank
    raised_tops views p c crank to at t = record {
      home = λ e. ap (λ y. max y to) (t.home e);
      away = λ e. let a = t.away e in let h = a.2 in (
        a.0,
        set_else views 0 crank (Pen (top_raised to (max c to) p))
            (λ z. no_crank (Pen p) a.0 tt (some-injective _ _ (sym at ∙ subst (λ i. get_elem? views i ≡ some (Crank a.0)) z a.1))) ∙ a.1,
        omega arith,
      );
      only = λ j k e. ⊎_elim (λ (x : (j ≡ 0) × (Pen (top_raised to (max c to) p) ≡ Crank k)). absurd
          (no_crank (Pen (top_raised to (max c to) p)) k tt x.1)) (λ (x : (j ≢ 0) × (get_elem? views j ≡ some (Crank k))). t.only j k x.1)
          (at_set views 0 j (Pen (top_raised to (max c to) p)) (Crank k) e);
    }

-- a move of the pen, at a seat that is known to be the pen's
module _ (slots : ℕ) (f : ℕ → ℕ) (then : ℕ → Me (Unit {0}) View → ℕ → Me (Unit {0}) View → Type 0) where
  pub at_pen : (id : ℕ) (m : Me (Unit {0}) View) (p : PenView) (word word' : ℕ) → id ≡ 0 → m ≡ (Pen p, []) → word ≡ word'
      → Allows Rule slots 0 (Pen p, []) word' f (then word' (Pen p, [])) → Allows Rule slots id m word f (then word m)
  at_pen id m p word word' z is w move = subst (λ (x : ℕ × Me (Unit {0}) View × ℕ). Allows Rule slots x.0 x.1 x.2 f (then x.2 x.1))
      (λ i. (sym z i, sym is i, sym w i)) move

pub starts_at : (slots id : ℕ) (m : Me (Unit {0}) View) (p : PenView) (n x : ℕ) → id ≡ 0 → m ≡ (Pen p, []) → p.winding ≡ false → length p.journal ≡ n
    + 1 → x ≡ 2 * n + 1
    → Allows Rule slots id m 0 (λ _. x) (λ _. Starts (step slots 0 x 0 none) m x)
starts_at slots id m p n x z is closed long e = subst (λ y. Allows Rule slots id m 0 (λ _. y) (λ _. Starts (step slots 0 y 0 none) m y)) (sym e)
    (at_pen slots (λ _. 2 * n + 1) (λ w m' _. Starts (step slots w (2 * n + 1) 0 none) m' (2 * n + 1)) id m p 0 0 z is refl (starts slots p n closed long))

pub marks_at : (slots id : ℕ) (m : Me (Unit {0}) View) (p : PenView) (n word x : ℕ) → id ≡ 0 → m ≡ (Pen p, []) → p.winding ≡ true → p.marked ≡ false
    → length p.journal ≡ n + 1 → word ≡ mark_at (n + 1) → x ≡ 2 * (n + 1) + 1
    → Allows Rule slots id m word (λ _. x) (λ _. StartsMark (step slots word x 0 none) m x)
marks_at slots id m p n word x z is opened unmarked long w e =
    subst (λ y. Allows Rule slots id m word (λ _. y) (λ _. StartsMark (step slots word y 0 none) m y)) (sym e)
    (at_pen slots (λ _. 2 * (n + 1) + 1) (λ u m' _. StartsMark (step slots u (2 * (n + 1) + 1) 0 none) m' (2 * (n + 1) + 1)) id m p word
    (mark_at (n + 1)) z is w (marks slots p n opened unmarked long))

pub stores_at : (slots id : ℕ) (m : Me (Unit {0}) View) (p : PenView) (n f word x : ℕ) → id ≡ 0 → m ≡ (Pen p, []) → p.winding ≡ true
    → p.marked ≡ true → p.set ≡ false → f ≡ length p.stored → f < 15 → length p.journal ≡ n + 1 → word ≡ field_at (n + 1) f
    → Allows Rule slots id m word (λ _. x) (λ _. Stores (step slots word x 0 none) m x)
stores_at slots id m p n f word x z is opened marked unset next small long w =
    at_pen slots (λ _. x) (λ u m' _. Stores (step slots u x 0 none) m' x) id m p word (field_at (n + 1) (length p.stored)) z is (w ∙ ap (field_at (n + 1)) next)
    (stores slots p n x opened marked unset (omega arith) long)

pub sets_at : (slots id : ℕ) (m : Me (Unit {0}) View) (p : PenView) (n word x : ℕ) → id ≡ 0 → m ≡ (Pen p, []) → p.winding ≡ true → p.marked ≡ true
    → length p.stored ≡ 15 → length p.journal ≡ n + 1 → word ≡ mark_at (n + 1) → x ≡ full_mark (n + 1)
    → Allows Rule slots id m word (λ _. x) (λ _. SetsMark (step slots word x 0 none) m x)
sets_at slots id m p n word x z is opened marked whole long w e =
    subst (λ y. Allows Rule slots id m word (λ _. y) (λ _. SetsMark (step slots word y 0 none) m y)) (sym e)
    (at_pen slots (λ _. full_mark (n + 1)) (λ u m' _. SetsMark (step slots u (full_mark (n + 1)) 0 none) m' (full_mark (n + 1))) id m p word
    (mark_at (n + 1)) z is w (sets slots p n opened marked whole long))

pub closes_at : (slots id : ℕ) (m : Me (Unit {0}) View) (p : PenView) (n x : ℕ) (h : Hands) → id ≡ 0 → m ≡ (Pen p, []) → p.winding ≡ true
    → p.set ≡ true → length p.journal ≡ n + 1 → length p.journal < 2 ^ 62 → p.stored ≡ pack h → FitsWords h → p.loaded ≡ Some h.count
    → ((g : Hands) → slice_get p.journal n ≡ Some g → Follows g h) → x ≡ 2 * n + 2
    → Allows Rule slots id m 0 (λ _. x) (λ _. Closes (step slots 0 x 0 none) m x)
closes_at slots id m p n x h z is opened is-set long room stored ranges loaded next e =
    subst (λ y. Allows Rule slots id m 0 (λ _. y) (λ _. Closes (step slots 0 y 0 none) m y)) (sym e)
    (at_pen slots (λ _. 2 * n + 2) (λ u m' _. Closes (step slots u (2 * n + 2) 0 none) m' (2 * n + 2)) id m p 0 0 z is refl
    (closes slots p n h opened is-set long room stored ranges loaded next))

pub follows_newest : (v w : PenView) (n : ℕ) (h : Hands) → v ≡ w → length v.journal ≡ n + 1 → Follows (newest w.journal) h
    → (g : Hands) → slice_get v.journal n ≡ Some g → Follows g h
follows_newest v w n h same long next g at = let k : n ≡ length v.journal - 1 = omega arith in
    let there' : slice_get v.journal (length v.journal - 1) ≡ Some (newest v.journal) = slice_get-get_or v.journal (length v.journal - 1) cold (omega arith) in
    let is : newest w.journal ≡ g = ap (λ (u : PenView). newest u.journal) (sym same)
    ∙ Some_same (newest v.journal) g (sym there' ∙ subst (λ i. slice_get v.journal i ≡ Some g) k at) in
    subst (λ (x : Hands). Follows x h) is next

pub counts_at : (slots id : ℕ) (m : Me (Unit {0}) View) (p : PenView) (n : ℕ) → id ≡ 0 → m ≡ (Pen p, []) → length p.journal ≡ n + 1
    → Allows Rule slots id m 1 (λ x. x) (LoadsOwnCounter (step slots 1 0 0 none) m)
counts_at slots id m p n z is long = at_pen slots (λ x. x) (λ u m'. LoadsOwnCounter (step slots u 0 0 none) m') id m p 1 1 z is refl (counts slots p n long)

pub raises_at : (slots id : ℕ) (m : Me (Unit {0}) View) (p : PenView) (n to : ℕ) → id ≡ 0 → m ≡ (Pen p, []) → length p.journal ≡ n + 1 → to < 2 ^ 62
    → Allows Rule slots id m 1 (λ x. max x to) (Raises (step slots 1 to 0 none) m)
raises_at slots id m p n to z is long few = at_pen slots (λ x. max x to) (λ u m'. Raises (step slots u to 0 none) m') id m p 1 1 z is refl
    (raises slots p n to long few)
