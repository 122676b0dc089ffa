-- Calls go on load by load.
use Rattle.std.proofs.Common.{◌≡◌, ◌≢◌, ℕ, ◌+◌, ◌*◌, ◌/◌, ◌<◌, ◌≤◌, true, false, List, [], ◌∷◌, ◌++◌, length, take, set, refl, ap, sym, ◌∙◌, subst, None, eq-eqb, arith, le_refl, le_trans, append_assoc, add-one, zero, suc}
use mathlib.Core.Option.{some-injective, some-ne-none}
use Rattle.std.proofs.Math.Seq.{take-suc-set}
use Rattle.std.proofs.lemmas.List.{length-take-le, append-nil}
use Rattle.tick_reads.specs.declared.loads.Ask.{Ask}
use Rattle.tick_reads.specs.declared.loads.Load.{Load}
use Rattle.tick_reads.specs.declared.loads.Load.TheVariants.{Turn, Field, Mark, Counter}
use Rattle.tick_reads.specs.Looks.{full_mark, fields_from, look, turns_in, counters_in}
use Rattle.tick_reads.specs.Scans.{Scan, fresh, run, after, decided, scan_at}
use Rattle.tick_reads.proofs.Runs.{run-append, run-snoc, run_fields, fields_from-snoc}
use Rattle.tick_views.specs.declared.views.MarkLoad.{MarkLoad}
use Rattle.tick_views.specs.declared.views.PassView.{PassView}
use Rattle.tick_views.specs.Views.{scan_of, undecided, gained, mark_load, settled, turn_loaded, counter_loaded, field_loaded, mark_loaded, call_begun}
use Rattle.tick_table.specs.Steps.{LearnsHands, LearnsLater}
use Rattle.tick_laws.specs.Goes.{marks_in, AllSince, AreLater, Grows, GoesOn, Calls, LearnsLook}

turns-append : (ls ms : List Load) → turns_in (ls ++ ms) ≡ turns_in ls ++ turns_in ms
turns-append [] ms = refl
turns-append (Turn x ∷ ls) ms = ap (λ l. x ∷ l) (turns-append ls ms)
turns-append (Field t f x ∷ ls) ms = turns-append ls ms
turns-append (Mark t x ∷ ls) ms = turns-append ls ms
turns-append (Counter x ∷ ls) ms = turns-append ls ms

counters-append : (ls ms : List Load) → counters_in (ls ++ ms) ≡ counters_in ls ++ counters_in ms
counters-append [] ms = refl
counters-append (Turn x ∷ ls) ms = counters-append ls ms
counters-append (Field t f x ∷ ls) ms = counters-append ls ms
counters-append (Mark t x ∷ ls) ms = counters-append ls ms
counters-append (Counter x ∷ ls) ms = ap (λ l. x ∷ l) (counters-append ls ms)

marks-append : (ls ms : List Load) → marks_in (ls ++ ms) ≡ marks_in ls ++ marks_in ms
marks-append [] ms = refl
marks-append (Turn x ∷ ls) ms = marks-append ls ms
marks-append (Field t f x ∷ ls) ms = marks-append ls ms
marks-append (Mark t x ∷ ls) ms = ap (λ l. mark_load t x ∷ l) (marks-append ls ms)
marks-append (Counter x ∷ ls) ms = marks-append ls ms

-- where a call is after further loads
pub scan_on : (a b : PassView) (ls : List Load) → GoesOn a b ls → scan_of b ≡ run a.ask (scan_of a) ls
scan_on a b ls g = (λ i. run (g.ask i) fresh (g.loads i)) ∙ run-append a.ask fresh a.loads ls

none_since : (seen : ℕ) → AllSince seen []
none_since seen i x e = absurd (some-ne-none x (sym e))

one_since : (seen w : ℕ) → 2 * seen ≤ w + 2 → AllSince seen (w ∷ [])
one_since seen w up zero x e = subst (λ y. 2 * seen ≤ y + 2) (some-injective w x e) up
one_since seen w up (suc i) x e = absurd (some-ne-none x (sym e))

both_since : (seen seen' : ℕ) (xs ys : List ℕ) → seen ≤ seen' → AllSince seen xs → AllSince seen' ys → AllSince seen (xs ++ ys)
both_since seen seen' [] ys up a b i x e = let h = b i x e in omega arith
both_since seen seen' (y ∷ xs) ys up a b zero x e = a zero x e
both_since seen seen' (y ∷ xs) ys up a b (suc i) x e = both_since seen seen' xs ys up (λ j z at. a (suc j) z at) b i x e

loads_since : (seen seen' : ℕ) (ls ms : List Load) → seen ≤ seen' → AllSince seen (turns_in ls) → AllSince seen' (turns_in ms)
    → AllSince seen (turns_in (ls ++ ms))
loads_since seen seen' ls ms up a b = subst (AllSince seen) (sym (turns-append ls ms)) (both_since seen seen' (turns_in ls) (turns_in ms) up a b)

none_later : AreLater []
none_later i l e = absurd (some-ne-none l (sym e))

one_later : (tick mark : ℕ) → (mark ≢ full_mark tick → 2 * tick + 21 ≤ mark) → AreLater (mark_load tick mark ∷ [])
one_later tick mark up zero l e = subst (λ (y : MarkLoad). y.mark ≢ full_mark y.tick → 2 * y.tick + 21 ≤ y.mark) (some-injective (mark_load tick mark) l e) up
one_later tick mark up (suc i) l e = absurd (some-ne-none l (sym e))

both_later : (xs ys : List MarkLoad) → AreLater xs → AreLater ys → AreLater (xs ++ ys)
both_later [] ys a b i l e = b i l e
both_later (x ∷ xs) ys a b zero l e = a zero l e
both_later (x ∷ xs) ys a b (suc i) l e = both_later xs ys (λ j z at. a (suc j) z at) b i l e

loads_later : (ls ms : List Load) → AreLater (marks_in ls) → AreLater (marks_in ms) → AreLater (marks_in (ls ++ ms))
loads_later ls ms a b = subst AreLater (sym (marks-append ls ms)) (both_later (marks_in ls) (marks_in ms) a b)

-- no further load
pub stays : (v : PassView) → v.calling ≡ true → (scan_of v).answer ≡ None → GoesOn v v []
stays v calling none-yet = record {
  grows = record {
    number = refl;
    seen = le_refl v.seen;
    turns = sym (append-nil v.turns);
    since = none_since v.seen;
    counters = sym (append-nil v.counters);
    marks = sym (append-nil v.marks);
    aged = none_later;
  };
  ask = refl;
  loads = sym (append-nil v.loads);
  calling = calling ∙ ap undecided (sym none-yet);
  entries = ap (λ o. gained v.entries o (scan_of v).first) (sym none-yet);
}

-- what further loads leave after further loads
grows_on : (a b c : PassView) (ls ms : List Load) → Grows a b ls → Grows b c ms → Grows a c (ls ++ ms)
grows_on a b c ls ms g h = record {
  number = h.number ∙ g.number;
  seen = le_trans g.seen h.seen;
  turns = h.turns ∙ (ap (λ l. l ++ turns_in ms) g.turns
      ∙ (append_assoc a.turns (turns_in ls) (turns_in ms) ∙ ap (λ l. a.turns ++ l) (sym (turns-append ls ms))));
  since = loads_since a.seen b.seen ls ms g.seen g.since h.since;
  counters = h.counters ∙ (ap (λ l. l ++ counters_in ms) g.counters
      ∙ (append_assoc a.counters (counters_in ls) (counters_in ms) ∙ ap (λ l. a.counters ++ l) (sym (counters-append ls ms))));
  marks = h.marks ∙ (ap (λ l. l ++ marks_in ms) g.marks
      ∙ (append_assoc a.marks (marks_in ls) (marks_in ms) ∙ ap (λ l. a.marks ++ l) (sym (marks-append ls ms))));
  aged = loads_later ls ms g.aged h.aged;
}

-- further loads after further loads
pub on_and_on : (a b c : PassView) (ls ms : List Load)
    → GoesOn a b ls → (scan_of b).answer ≡ None → GoesOn b c ms → GoesOn a c (ls ++ ms)
on_and_on a b c ls ms g none-yet h = record {
  grows = grows_on a b c ls ms g.grows h.grows;
  ask = h.ask ∙ g.ask;
  loads = h.loads ∙ (ap (λ l. l ++ ms) g.loads ∙ append_assoc a.loads ls ms);
  calling = h.calling;
  entries = h.entries ∙ ap (λ l. gained l (scan_of c).answer (scan_of c).first)
      (g.entries ∙ ap (λ o. gained a.entries o (scan_of b).first) none-yet);
}

-- one load
one_on : (v : PassView) (seen : ℕ) (turns counters : List ℕ) (marks : List MarkLoad) (l : Load) → v.seen ≤ seen → AllSince v.seen (turns_in (l ∷ []))
    → turns ≡ v.turns ++ turns_in (l ∷ []) → counters ≡ v.counters ++ counters_in (l ∷ []) → marks ≡ v.marks ++ marks_in (l ∷ [])
    → AreLater (marks_in (l ∷ [])) → GoesOn v (settled v seen turns counters marks l (after v.ask (scan_of v) l)) (l ∷ [])
one_on v seen turns counters marks l up since t c m later =
    let is : after v.ask (scan_of v) l ≡ run v.ask fresh (v.loads ++ l ∷ []) = sym (run-snoc v.ask fresh v.loads l) in record {
      grows = record { number = refl; seen = up; turns = t; since = since; counters = c; marks = m; aged = later };
      ask = refl;
      loads = refl;
      calling = ap (λ (s : Scan). undecided s.answer) is;
      entries = ap (λ (s : Scan). gained v.entries s.answer s.first) is;
    }

pub field_on : (v : PassView) (f x : ℕ) → GoesOn v (field_loaded f x v) (Field (scan_of v).tick f x ∷ [])
field_on v f x = one_on v v.seen v.turns v.counters v.marks (Field (scan_of v).tick f x) (le_refl v.seen) (none_since v.seen)
    (sym (append-nil v.turns)) (sym (append-nil v.counters)) (sym (append-nil v.marks)) none_later

pub mark_on : (v : PassView) (x : ℕ) → LearnsLater (scan_of v) x → GoesOn v (mark_loaded x v) (Mark (scan_of v).tick x ∷ [])
mark_on v x later = one_on v v.seen v.turns v.counters (v.marks ++ mark_load (scan_of v).tick x ∷ []) (Mark (scan_of v).tick x) (le_refl v.seen)
    (none_since v.seen) (sym (append-nil v.turns)) (sym (append-nil v.counters)) refl (one_later (scan_of v).tick x later)

pub counter_on : (v : PassView) (c : ℕ) → GoesOn v (counter_loaded c v) (Counter c ∷ [])
counter_on v c = one_on v v.seen v.turns (v.counters ++ c ∷ []) v.marks (Counter c) (le_refl v.seen) (none_since v.seen) (sym (append-nil v.turns))
    refl (sym (append-nil v.marks)) none_later

pub turn_on : (v : PassView) (w : ℕ) → 2 * v.seen ≤ w + 2 → GoesOn v (turn_loaded w v) (Turn w ∷ [])
turn_on v w up = one_on v (w / 2 + 1) (v.turns ++ w ∷ []) v.counters v.marks (Turn w) (omega arith) (one_since v.seen w up) refl
    (sym (append-nil v.counters)) (sym (append-nil v.marks)) none_later

-- the first load of a call
pub opened_on : (v : PassView) (ask : Ask) (w : ℕ) → 2 * v.seen ≤ w + 2 → Calls v (turn_loaded w (call_begun ask v)) ask (Turn w ∷ [])
opened_on v ask w up = record {
  grows = record {
    number = refl;
    seen = omega arith;
    turns = refl;
    since = one_since v.seen w up;
    counters = sym (append-nil v.counters);
    marks = sym (append-nil v.marks);
    aged = none_later;
  };
  ask_is = refl;
  loads = refl;
  calling = refl;
  entries = refl;
}

pub call_on : (a b c : PassView) (ask : Ask) (ls ms : List Load)
    → Calls a b ask ls → decided ask ls ≡ None → GoesOn b c ms → Calls a c ask (ls ++ ms)
call_on a b c ask ls ms g none-yet h =
    let scan : scan_of c ≡ run ask fresh (ls ++ ms) = λ i. run ((h.ask ∙ g.ask_is) i) fresh ((h.loads ∙ ap (λ l. l ++ ms) g.loads) i) in record {
      grows = grows_on a b c ls ms g.grows h.grows;
      ask_is = h.ask ∙ g.ask_is;
      loads = h.loads ∙ ap (λ l. l ++ ms) g.loads;
      calling = h.calling ∙ ap (λ (s : Scan). undecided s.answer) scan;
      entries = h.entries ∙ ((λ i. gained (g.entries i) (scan i).answer (scan i).first)
          ∙ ap (λ o. gained (gained a.entries o (run ask fresh ls).first) (decided ask (ls ++ ms)) (run ask fresh (ls ++ ms)).first) none-yet);
    }

-- a look that has loaded some fields
module _ (a b : PassView) (tick : ℕ) (xs : List ℕ) (at : scan_of a ≡ scan_at (scan_of a).first tick false [] []) (g : GoesOn a b (fields_from tick 0 xs)) where
  pub fields_at : scan_of b ≡ scan_at (scan_of a).first tick false xs []
  fields_at = scan_on a b (fields_from tick 0 xs) g ∙ (ap (λ s. run a.ask s (fields_from tick 0 xs)) at ∙ run_fields a.ask (scan_of a).first tick [] xs)

  pub still_calling : b.calling ≡ true
  still_calling = g.calling ∙ ap (λ (s : Scan). undecided s.answer) fields_at

  pub at_tick : tick ≡ (scan_of b).tick
  at_tick = sym (ap (λ (s : Scan). s.tick) fields_at)

  pub one_field : (c : PassView) (f x : ℕ) → f ≡ length xs → c ≡ field_loaded f x b → GoesOn a c (fields_from tick 0 (xs ++ x ∷ []))
  one_field c f x next is = let none-yet : (scan_of b).answer ≡ None = ap (λ (s : Scan). s.answer) fields_at in let place : f ≡ 0 + length xs = omega arith in
      let load : Field (scan_of b).tick f x ∷ [] ≡ Field tick (0 + length xs) x ∷ [] = λ i. Field (sym at_tick i) (place i) x ∷ [] in
      let step : GoesOn b c (Field tick (0 + length xs) x ∷ []) = subst (λ (z : PassView × List Load). GoesOn b z.0 z.1) (λ i. (sym is i, load i))
      (field_on b f x) in
      subst (GoesOn a c) (fields_from-snoc tick 0 xs x) (on_and_on a b c (fields_from tick 0 xs) (Field tick (0 + length xs) x ∷ []) g none-yet step)

  pub the_mark : (c : PassView) (x : ℕ) → c ≡ mark_loaded x b → LearnsLater (scan_of b) x → GoesOn a c (look tick xs x)
  the_mark c x is later = let none-yet : (scan_of b).answer ≡ None = ap (λ (s : Scan). s.answer) fields_at in
      let step : GoesOn b c (Mark tick x ∷ []) = subst (λ (z : PassView × List Load). GoesOn b z.0 z.1)
      (λ i. (sym is i, Mark (sym at_tick i) x ∷ [])) (mark_on b x later) in
      on_and_on a b c (fields_from tick 0 xs) (Mark tick x ∷ []) g none-yet step

  pub learns_look : (x : ℕ) → length xs ≡ 15 → LearnsHands (scan_of b) x → x ≡ full_mark tick → LearnsLook tick xs
  learns_look x long learns full = let l : LearnsHands (scan_at (scan_of a).first tick false xs []) x = subst (λ (s : Scan). LearnsHands s x)
      fields_at learns in l (eq-eqb (length xs) 15 long) full

-- the same in a loop that fills a row
pub one_field_in : (a b c : PassView) (tick f x : ℕ) (row : List ℕ) → scan_of a ≡ scan_at (scan_of a).first tick false [] []
    → GoesOn a b (fields_from tick 0 (take f row)) → f < length row → c ≡ field_loaded f x b → GoesOn a c (fields_from tick 0 (take (f + 1) (set row f x)))
one_field_in a b c tick f x row at g in-row is = let long : f ≡ length (take f row) = sym (length-take-le f row (omega arith)) in
    let longer : take f row ++ x ∷ [] ≡ take (f + 1) (set row f x) = sym (rw add-one (take-suc-set row f x in-row)) in
    subst (λ (l : List ℕ). GoesOn a c (fields_from tick 0 l)) longer (one_field a b tick (take f row) at g c f x long is)
