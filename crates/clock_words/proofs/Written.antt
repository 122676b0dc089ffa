-- The items that words are, and the parts that they are written as.
use Rattle.std.proofs.Common.{◌≡◌, ◌↔◌, ◌&&◌, ◌||◌, ◌==◌, ℕ, suc, ◌+◌, List, [], ◌∷◌, ◌++◌, Bool, true, false, not, Option, Some, None, codes, refl, ap, sym, ◌∙◌, subst, map, drop, take, true≢false, append-nil, append_assoc, is_some, slice_get, arith}
use Rattle.std.specs.List.{AllByRecursion, IsDistinct, before_first, after_first, list_all, position_or_len}
use Rattle.std.specs.Str.{bytes_eq, chars}
use Rattle.std.proofs.lemmas.Bool.{eqb-true}
use Rattle.std.proofs.lemmas.List.{take-append-drop}
use Rattle.std.proofs.lemmas.Slice.Eq.{bytes_eq-Decides}
use Rattle.clock_words.specs.Rows.{Text, Row, Item, has, named, cut_at_equals, is_given, is_value, from_part, items_from, items_in, with_item}
use Rattle.clock_words.specs.Parts.{AreOnce, AreParts, AreWritten, nothing, flag, apart, joined, placed, dashed, dashed_with, has_equals, is_clear}
use Rattle.clock_words.proofs.Bools.{and_true, or_false}

-- ---- the names of a row

not_is : (b : Bool) → not b ≡ true → b ≡ false
not_is true e = absurd (true≢false (sym e))
not_is false e = refl

-- what all names pass, one of them does
all_pass : (test : Text → Bool) (names : List Text) (n : Text) → list_all (λ m. not (test m)) names ≡ true → has names n ≡ true → test n ≡ false
all_pass test [] n a h = absurd (true≢false (sym h))
all_pass test (m ∷ ms) n a h = by_name (bytes_eq m n) refl (all_pass test ms n (and_true _ _ a).1)
  where
    by_name : (b : Bool) → bytes_eq m n ≡ b → (has ms n ≡ true → test n ≡ false) → test n ≡ false
    by_name true e more = subst (λ k. test k ≡ false) ((bytes_eq-Decides m n).0 e) (not_is (test m) (and_true _ _ a).0)
    by_name false e more = more (sym (ap (λ b. b || has ms n) e) ∙ h)

record Clear (row : Row) : Type 0 where
  option : (n : Text) → has row.options n ≡ true → has_equals n ≡ false
  flag : (n : Text) → has row.flags n ≡ true → has_equals n ≡ false
  other : (n : Text) → has row.flags n ≡ true → has row.options n ≡ false

clear : (row : Row) → is_clear row ≡ true → Clear row
clear row e =
    let p = and_true (list_all (λ n. not (has_equals n)) row.options && list_all (λ n. not (has_equals n)) row.flags)
    (list_all (λ n. not (has row.options n)) row.flags) e in
    let q = and_true (list_all (λ n. not (has_equals n)) row.options) (list_all (λ n. not (has_equals n)) row.flags) p.0 in
    record {
      option = λ n h. all_pass has_equals row.options n q.0 h;
      flag = λ n h. all_pass has_equals row.flags n q.1 h;
      other = λ n h. all_pass (has row.options) row.flags n p.1 h;
    }

-- ---- a word, cut at its first `=`

-- how many characters stand before the first `=`
abbrev to_equals : Text → ℕ
to_equals t = position_or_len (λ b. b == 61) t

take_more : (n x : ℕ) (xs : Text) → take (1 + n) (x ∷ xs) ≡ x ∷ take n xs
take_more n x xs = ap (λ k. take k (x ∷ xs)) (let e : 1 + n ≡ suc n = omega arith in e)

drop_more : (n x : ℕ) (xs : Text) → drop (1 + n + 1) (x ∷ xs) ≡ drop (n + 1) xs
drop_more n x xs = ap (λ k. drop k (x ∷ xs)) (let e : 1 + n + 1 ≡ suc (n + 1) = omega arith in e)

cut_none : (t : Text) → has_equals t ≡ false → before_first (λ b. b == 61) t ≡ t
cut_none [] e = refl
cut_none (x ∷ xs) e = let p = or_false (x == 61) (has_equals xs) e in rw (p.0) (take_more (to_equals xs) x xs ∙ ap (λ ys. x ∷ ys) (cut_none xs p.1))

cut_some : (t v : Text) → has_equals t ≡ false → (before_first (λ b. b == 61) (t ++ codes "=" ++ v) ≡ t)
    × (after_first (λ b. b == 61) (t ++ codes "=" ++ v) ≡ v) × (has_equals (t ++ codes "=" ++ v) ≡ true)
cut_some [] v e = (refl, refl, refl)
cut_some (x ∷ xs) v e =
    let p = or_false (x == 61) (has_equals xs) e in
    let q = cut_some xs v p.1 in
    let n = to_equals (xs ++ codes "=" ++ v) in
    (rw (p.0) (take_more n x _ ∙ ap (λ ys. x ∷ ys) q.0), rw (p.0) (drop_more n x _ ∙ q.1), rw (p.0) (q.2))

-- a text with a `=` is what stands before it, the `=`, and what stands behind
cut_is : (t : Text) → has_equals t ≡ true → t ≡ before_first (λ b. b == 61) t ++ codes "=" ++ after_first (λ b. b == 61) t
cut_is [] e = absurd (true≢false (sym e))
cut_is (x ∷ xs) e = by_equals (x == 61) refl (cut_is xs)
  where
    by_equals : (b : Bool) → (x == 61) ≡ b → (has_equals xs ≡ true → xs ≡ before_first (λ b. b == 61) xs ++ codes "="
        ++ after_first (λ b. b == 61) xs) → x ∷ xs ≡ before_first (λ b. b == 61) (x ∷ xs) ++ codes "=" ++ after_first (λ b. b == 61) (x ∷ xs)
    by_equals true f more = rw f (ap (λ k. k ∷ xs) (eqb-true x 61 f))
    by_equals false f more =
        let n = to_equals xs in
        rw f (ap (λ ys. x ∷ ys) (more (sym (ap (λ b. b || has_equals xs) f) ∙ e))
        ∙ sym (ap (λ k. k ++ codes "=" ++ drop (1 + n + 1) (x ∷ xs)) (take_more n x xs) ∙ ap (λ k. (x ∷ take n xs) ++ codes "=" ++ k) (drop_more n x xs)))

-- ---- words `--name` and `--name=value`

named_dashed : (n : Text) → has_equals n ≡ false → named (dashed n) ≡ Some (n, None)
named_dashed n e = rw (e, cut_none n e) refl

named_dashed_with : (n v : Text) → has_equals n ≡ false → named (dashed_with n v) ≡ Some (n, Some v)
named_dashed_with n v e = let p = cut_some n v e in rw (p.0, p.1, p.2) refl

-- what is cut from a text is the text
uncut : (t n : Text) (x : Option Text) → cut_at_equals t ≡ (n, x) → t ≡ elim x as (λ _. Text) [ None ↦ n | Some v ↦ n ++ codes "=" ++ v ]
uncut t n x e = by_equals (has_equals t) refl
  where
    by_equals : (b : Bool) → has_equals t ≡ b → t ≡ elim x as (λ _. Text) [ None ↦ n | Some v ↦ n ++ codes "=" ++ v ]
    by_equals true f =
        let cut : cut_at_equals t ≡ (before_first (λ b. b == 61) t, Some (after_first (λ b. b == 61) t)) = rw f refl in
        let same : (before_first (λ b. b == 61) t, Some (after_first (λ b. b == 61) t)) ≡ (n, x) = sym cut ∙ e in
        subst (λ (p : Text × Option Text). t ≡ elim p.1 as (λ _. Text) [ None ↦ p.0 | Some v ↦ p.0 ++ codes "=" ++ v ]) same (cut_is t f)
    by_equals false f =
        let cut : cut_at_equals t ≡ (before_first (λ b. b == 61) t, None) = rw f refl in
        let same : (before_first (λ b. b == 61) t, None) ≡ (n, x) = sym cut ∙ e in
        subst (λ (p : Text × Option Text). t ≡ elim p.1 as (λ _. Text) [ None ↦ p.0 | Some v ↦ p.0 ++ codes "=" ++ v ]) same (sym (cut_none t f))

-- a word with a name begins with `--`
named_words : (w n : Text) (x : Option Text) → named w ≡ Some (n, x) → w ≡ codes "--" ++ elim x as (λ _. Text) [ None ↦ n | Some v ↦ n ++ codes "=" ++ v ]
named_words w n x e = by_dashes (bytes_eq (take 2 w) (codes "--")) refl
  where
    by_dashes : (b : Bool) → bytes_eq (take 2 w) (codes "--") ≡ b → w ≡ codes "--" ++ elim x as (λ _. Text) [ None ↦ n | Some v ↦ n ++ codes "=" ++ v ]
    by_dashes true f =
        let cut : Some (cut_at_equals (drop 2 w)) ≡ Some (n, x) = sym (rw f refl) ∙ e in
        sym (take-append-drop 2 w) ∙ ap (λ k. k ++ drop 2 w) ((bytes_eq-Decides (take 2 w) (codes "--")).0 f)
        ∙ ap (λ k. codes "--" ++ k) (uncut (drop 2 w) n x (cc))
    by_dashes false f = absurd (let q : None ≡ Some (n, x) = sym (rw f refl) ∙ e in cc)

dash_char : (ys : Text) → is_some (slice_get (chars (45 ∷ ys)) 0) ≡ true
unfolding chars
dash_char [] = refl
dash_char (y ∷ ys) = refl

-- a value is no name
value_named : (w : Text) → is_value w ≡ true → named w ≡ None
unfolding chars
value_named [] e = refl
value_named (x ∷ []) e = by_dash (x == 45) refl
  where
    by_dash : (b : Bool) → (x == 45) ≡ b → named (x ∷ []) ≡ None
    by_dash true f = rw f refl
    by_dash false f = rw f refl
value_named (x ∷ y ∷ ys) e = by_dashes (x == 45) refl (y == 45) refl
  where
    by_dashes : (a : Bool) → (x == 45) ≡ a → (b : Bool) → (y == 45) ≡ b → named (x ∷ y ∷ ys) ≡ None
    by_dashes false f b g = rw f refl
    by_dashes true f false g = rw (f, g) refl
    by_dashes true f true g =
        let no : is_value (x ∷ y ∷ ys) ≡ false = rw f (ap (λ k. not (is_some (slice_get (chars (k ∷ ys)) 0))) (eqb-true y 45 g) ∙ ap not (dash_char ys)) in
        absurd (true≢false (sym e ∙ no))

-- ---- names that are given once

all_middle : (P : Text → Type 0) (xs ys : List Item) (y : Item) → AllByRecursion P (map (λ i. i.0) (xs ++ y ∷ ys)) → P y.0
all_middle P [] ys y a = a.0
all_middle P (x ∷ xs) ys y a = all_middle P xs ys y a.1

all_last : (P : Text → Type 0) (xs : List Item) (y : Item) → AllByRecursion P (map (λ i. i.0) xs) → P y.0 → AllByRecursion P (map (λ i. i.0) (xs ++ y ∷ []))
all_last P [] y a h = (h, tt)
all_last P (x ∷ xs) y a h = (a.0, all_last P xs y a.1 h)

-- a name that is given once was not given before
once_before : (before new : List Item) (n v : Text) → AreOnce (before ++ (n, v) ∷ new) → is_given n before ≡ false
unfolding IsDistinct
once_before [] new n v once = refl
once_before (x ∷ xs) new n v once = rw (all_middle (λ m. bytes_eq x.0 m ≡ false) xs new (n, v) once.0) (once_before xs new n v once.1)

once_more : (before : List Item) (n v : Text) → AreOnce before → is_given n before ≡ false → AreOnce (before ++ (n, v) ∷ [])
unfolding IsDistinct
once_more [] n v once new = (tt, tt)
once_more (x ∷ xs) n v once new =
    let p = or_false (bytes_eq x.0 n) (is_given n xs) new in
    (all_last (λ m. bytes_eq x.0 m ≡ false) xs (n, v) once.0 p.0, once_more xs n v once.1 p.1)

-- ---- from words to parts

record Adds (row : Row) (left words : List Text) (before items : List Item) : Type 0 where
  new : List Item
  is : items ≡ before ++ new
  parts : AreParts row left words new
  once : AreOnce items

abbrev Idles : Row → List Text → Type 0
Idles row words = (left : List Text) (before items : List Item) → AreOnce before → items_from row words left None before ≡ Some items
    → Adds row left words before items

abbrev Waits : Row → List Text → Type 0
Waits row words = (name : Text) (left : List Text) (before items : List Item) → has row.options name ≡ true → AreOnce before
    → items_from row words left (Some name) before ≡ Some items → Adds row left (dashed name ∷ words) before items

-- one more item, and the parts that give it and what follows
added : (row : Row) (words : List Text) → Idles row words → (left more whole : List Text) (n v : Text) (before items : List Item) → AreOnce before
    → with_item n v before (items_from row words left None) ≡ Some items
    → ((new : List Item) → AreParts row left words new → AreParts row more whole ((n, v) ∷ new)) → Adds row more whole before items
added row words idles left more whole n v before items once e parts = by_given (is_given n before) refl
  where
    by_given : (b : Bool) → is_given n before ≡ b → Adds row more whole before items
    by_given true f = absurd (let q : None ≡ Some items = sym (rw f refl) ∙ e in cc)
    by_given false f =
        let rest = idles left (before ++ (n, v) ∷ []) items (once_more before n v once f) (sym (rw f refl) ∙ e) in
        record { new = (n, v) ∷ rest.new; is = rest.is ∙ append_assoc before ((n, v) ∷ []) rest.new; parts = parts rest.new rest.parts; once = rest.once }

-- a value for the next place
from_value : (row : Row) (w : Text) (words : List Text) → Idles row words → (left : List Text) (before items : List Item) → AreOnce before
    → named w ≡ None → items_from row (w ∷ words) left None before ≡ Some items → Adds row left (w ∷ words) before items
unfolding items_from
from_value row w words idles [] before items once n e = absurd (let q : None ≡ Some items = sym (rw n refl) ∙ e in cc)
from_value row w words idles (p ∷ ps) before items once n e = by_value (is_value w) refl
  where
    by_value : (b : Bool) → is_value w ≡ b → Adds row (p ∷ ps) (w ∷ words) before items
    by_value true f = added row words idles ps (p ∷ ps) (w ∷ words) p w before items once (sym (rw (n, f) refl) ∙ e) (λ new h. placed p w ps words new f h)
    by_value false f = absurd (let q : None ≡ Some items = sym (rw (n, f) refl) ∙ e in cc)

from_name : (row : Row) (w : Text) (words : List Text) → Idles row words → Waits row words
    → (left : List Text) (before items : List Item) → AreOnce before → (n : Text) (x : Option Text) → named w ≡ Some (n, x)
    → items_from row (w ∷ words) left None before ≡ Some items → Adds row left (w ∷ words) before items
unfolding items_from
from_name row w words idles awaits left before items once n (Some v) m e = by_option (has row.options n) refl
  where
    by_option : (b : Bool) → has row.options n ≡ b → Adds row left (w ∷ words) before items
    by_option true f = added row words idles left left (w ∷ words) n v before items once (sym (rw (m, f) refl) ∙ e)
        (λ new h. subst (λ (k : Text). AreParts row left (k ∷ words) ((n, v) ∷ new)) (sym (named_words w n (Some v) m)) (joined n v left words new f h))
    by_option false f = absurd (let q : None ≡ Some items = sym (rw (m, f) refl) ∙ e in cc)
from_name row w words idles awaits left before items once n None m e = by_flag (has row.flags n) refl (has row.options n) refl
  where
    by_flag : (a : Bool) → has row.flags n ≡ a → (b : Bool) → has row.options n ≡ b → Adds row left (w ∷ words) before items
    by_flag true f b g = added row words idles left left (w ∷ words) n (codes "true") before items once (sym (rw (m, f) refl) ∙ e)
        (λ new h. subst (λ (k : Text). AreParts row left (k ∷ words) ((n, codes "true") ∷ new)) (sym (named_words w n None m)) (flag n left words new f h))
    by_flag false f true g = subst (λ (k : Text). Adds row left (k ∷ words) before items) (sym (named_words w n None m))
        (awaits n left before items g once (sym (rw (m, f, g) refl) ∙ e))
    by_flag false f false g = absurd (let q : None ≡ Some items = sym (rw (m, f, g) refl) ∙ e in cc)

-- a word that may stand anywhere, and one where an option waits for its value
to_part : (row : Row) (w : Text) (ws : List Text) → Idles row ws × Waits row ws → Idles row (w ∷ ws)
to_part row w ws more left before items once e = by_name (named w) refl
  where
    by_name : (x : Option (Text × Option Text)) → named w ≡ x → Adds row left (w ∷ ws) before items
    by_name None m = from_value row w ws more.0 left before items once m e
    by_name (Some (n, x)) m = from_name row w ws more.0 more.1 left before items once n x m e

to_option : (row : Row) (w : Text) (ws : List Text) → Idles row ws → Waits row (w ∷ ws)
unfolding items_from
to_option row w ws idles name left before items h once e = by_value (is_value w) refl
  where
    by_value : (b : Bool) → is_value w ≡ b → Adds row left (dashed name ∷ w ∷ ws) before items
    by_value true f = added row ws idles left left (dashed name ∷ w ∷ ws) name w before items once (sym (rw f refl) ∙ e)
        (λ new p. apart name w left ws new h f p)
    by_value false f = absurd (let q : None ≡ Some items = sym (rw f refl) ∙ e in cc)

to_parts : (row : Row) (words : List Text) → Idles row words × Waits row words
unfolding items_from
to_parts row [] = (
  λ left before items once e. record {
    new = [];
    is = (let q : items ≡ before = cc in q ∙ sym (append-nil before));
    parts = nothing left;
    once = subst AreOnce (let q : before ≡ items = cc in q) once;
  },
  λ name left before items h once e. absurd (let q : None ≡ Some items = e in cc),
)
to_parts row (w ∷ ws) = let more = to_parts row ws in (to_part row w ws more, to_option row w ws more.0)

-- ---- from parts to words

goes_on : (n v : Text) (before new : List Item) (rest : List Item → Option (List Item)) → AreOnce (before ++ (n, v) ∷ new)
    → ((more : List Item) → AreOnce (more ++ new) → rest more ≡ Some (more ++ new)) → with_item n v before rest ≡ Some (before ++ (n, v) ∷ new)
goes_on n v before new rest once follows =
    let joins : (before ++ (n, v) ∷ []) ++ new ≡ before ++ (n, v) ∷ new = append_assoc before ((n, v) ∷ []) new in
    rw (once_before before new n v once) (follows (before ++ (n, v) ∷ []) (subst AreOnce (sym joins) once) ∙ ap (λ k. Some k) joins)

from_parts : (row : Row) → Clear row → (left words : List Text) (new : List Item) → AreParts row left words new
    → (before : List Item) → AreOnce (before ++ new) → items_from row words left None before ≡ Some (before ++ new)
unfolding items_from
from_parts row is left words new (nothing l) before once = ap (λ k. Some k) (sym (append-nil before))
from_parts row is left words new (flag n l ws items h rest) before once =
    ap (λ (x : Option (Text × Option Text)). from_part row x (dashed n) l before (items_from row ws)) (named_dashed n (is.flag n h))
    ∙ rw h (goes_on n (codes "true") before items (items_from row ws l None) once (λ more o. from_parts row is l ws items rest more o))
from_parts row is left words new (apart n v l ws items h u rest) before once =
    let other : has row.flags n ≡ false = no_flag n h (has row.flags n) refl in
    ap (λ (x : Option (Text × Option Text)). from_part row x (dashed n) l before (items_from row (v ∷ ws))) (named_dashed n (is.option n h))
    ∙ rw (other, h, u) (goes_on n v before items (items_from row ws l None) once (λ more o. from_parts row is l ws items rest more o))
  where
    no_flag : (n : Text) → has row.options n ≡ true → (b : Bool) → has row.flags n ≡ b → b ≡ false
    no_flag n h true f = absurd (true≢false (sym h ∙ is.other n f))
    no_flag n h false f = refl
from_parts row is left words new (joined n v l ws items h rest) before once =
    ap (λ (x : Option (Text × Option Text)). from_part row x (dashed_with n v) l before (items_from row ws)) (named_dashed_with n v (is.option n h))
    ∙ rw h (goes_on n v before items (items_from row ws l None) once (λ more o. from_parts row is l ws items rest more o))
from_parts row is left words new (placed n v l ws items u rest) before once =
    rw (value_named v u, u) (goes_on n v before items (items_from row ws l None) once (λ more o. from_parts row is l ws items rest more o))

-- words are items exactly where they are written as parts that give these
pub written : (row : Row) → is_clear row ≡ true → (words : List Text) (items : List Item) → (items_in row words ≡ Some items) ↔ AreWritten row words items
unfolding items_in IsDistinct
written row is words items = (to, back)
  where
    to : items_in row words ≡ Some items → AreWritten row words items
    to e = by_dashes (has words (codes "--")) refl
      where
        by_dashes : (b : Bool) → has words (codes "--") ≡ b → AreWritten row words items
        by_dashes true d = absurd (let q : None ≡ Some items = sym (rw d refl) ∙ e in cc)
        by_dashes false d =
            let adds = (to_parts row words).0 row.places [] items tt (sym (rw d refl) ∙ e) in
            record { parts = subst (AreParts row row.places words) (sym adds.is) adds.parts; once = adds.once; no_dashes = d }

    back : AreWritten row words items → items_in row words ≡ Some items
    back w = rw (w.no_dashes) (from_parts row (clear row is) row.places words items w.parts [] w.once)
