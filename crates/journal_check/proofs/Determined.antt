-- The text of a report determines it.
use Rattle.std.proofs.Common.{◌≡◌, ℕ, ◌+◌, ◌<◌, leb, Bool, true, false, List, [], ◌∷◌, ◌++◌, length, refl, sym, ap, subst, ◌∙◌, append_assoc, length-append, append-nil, arith}
use Rattle.std.specs.List.{flat_map, AllByRecursion}
use Rattle.std.proofs.lemmas.Bool.{and_parts, leb-true}
use Rattle.std.proofs.lemmas.Option.{same_Some}
use Rattle.ff_hands.specs.declared.hands.Hands.{Hands}
use Rattle.clock_lines.specs.declared.readings.Entry.{Entry}
use Rattle.journal_check.specs.Lines.{line_in, line_text, FitsLine}
use Rattle.journal_check.specs.Reports.{is_plain, Item, estimated, clock_set, leap_second, refusal, Report, item_lines, tick_lines, entry_lines, log_lines, accepted_in, refused_in, entries_in, inner_lines, lines_of, text_of, AreLines, IsShaped}
use Rattle.journal_check.specs.Told.{items_by, ticks_by, entries_by, all_entries}
use Rattle.journal_check.specs.declared.lines.Line.{Line}
use Rattle.journal_check.specs.declared.lines.Line.TheVariants as line
use Rattle.journal_check.specs.declared.lines.Options.{Options}
use Rattle.journal_check.proofs.LineLaws.{line_again}
use Rattle.journal_check.proofs.Sizes.{line_cut}

-- ---- from a text to its lines

pub heads_are : (x y : ℕ) (xs ys : List ℕ) → x ∷ xs ≡ y ∷ ys → (x ≡ y) × (xs ≡ ys)
heads_are x y xs ys e = (cc, cc)

first_cut : (a b x y : List ℕ) → is_plain a ≡ true → is_plain b ≡ true → a ++ 10 ∷ x ≡ b ++ 10 ∷ y → (a ≡ b) × (x ≡ y)
first_cut [] [] x y p q e = (refl, (heads_are 10 10 x y e).1)
first_cut [] (c ∷ b) x y p q e =
    let both = and_parts (leb 32 c) (is_plain b) q in
    absurd (omega (arith, (heads_are 10 c x (b ++ 10 ∷ y) e).0, leb-true 32 c both.0))
first_cut (c ∷ a) [] x y p q e =
    let both = and_parts (leb 32 c) (is_plain a) p in
    absurd (omega (arith, (heads_are c 10 (a ++ 10 ∷ x) y e).0, leb-true 32 c both.0))
first_cut (c ∷ a) (d ∷ b) x y p q e =
    let s = and_parts (leb 32 c) (is_plain a) p in
    let t = and_parts (leb 32 d) (is_plain b) q in
    let h = heads_are c d (a ++ 10 ∷ x) (b ++ 10 ∷ y) e in
    let rest = first_cut a b x y s.1 t.1 h.1 in
    ((λ i. h.0 i ∷ rest.0 i), rest.1)

-- the first lines of a text are one
pub first_line : (l m : Line) (x y : List ℕ) → FitsLine l → FitsLine m → line_text l ++ x ≡ line_text m ++ y → (l ≡ m) × (x ≡ y)
first_line l m x y f g e =
    let c = line_cut l f in
    let d = line_cut m g in
    let here : line_text l ++ x ≡ c.body ++ 10 ∷ x = ap (λ (t : List ℕ). t ++ x) c.split ∙ append_assoc c.body (10 ∷ []) x in
    let there : line_text m ++ y ≡ d.body ++ 10 ∷ y = ap (λ (t : List ℕ). t ++ y) d.split ∙ append_assoc d.body (10 ∷ []) y in
    let both = first_cut c.body d.body x y c.plain d.plain (sym here ∙ e ∙ there) in
    let same : line_text l ≡ line_text m = c.split ∙ ap (λ (t : List ℕ). t ++ 10 ∷ []) both.0 ∙ sym d.split in
    (same_Some l m (sym (line_again l f) ∙ ap line_in same ∙ line_again m g), both.1)

not_empty : (l : Line) (x : List ℕ) → FitsLine l → 0 < length (line_text l ++ x)
not_empty l x fits = let c = line_cut l fits in omega (arith, length-append (line_text l) x, ap length c.split, length-append c.body (10 ∷ []))

pub lines_are : (ls ms : List Line) → AreLines ls → AreLines ms → text_of ls ≡ text_of ms → ls ≡ ms
lines_are [] [] f g e = refl
lines_are [] (m ∷ ms) f g e = absurd (omega (arith, ap length e, not_empty m (text_of ms) g.0))
lines_are (l ∷ ls) [] f g e = absurd (omega (arith, ap length e, not_empty l (text_of ls) f.0))
lines_are (l ∷ ls) (m ∷ ms) f g e =
    let h = first_line l m (text_of ls) (text_of ms) f.0 g.0 e in
    let rest = lines_are ls ms f.1 g.1 h.1 in
    λ i. h.0 i ∷ rest i

-- ---- from lines to what they tell

-- what lines tell, part by part
told-append : {A : Type 0} (by : Line → List A) (xs ys : List Line) → flat_map by (xs ++ ys) ≡ flat_map by xs ++ flat_map by ys
told-append by [] ys = refl
told-append by (x ∷ xs) ys = ap (λ (t : List _). by x ++ t) (told-append by xs ys) ∙ sym (append_assoc (by x) (flat_map by xs) (flat_map by ys))

items_of_items : (second : Bool) (i : ℕ) (q : List Item) → flat_map items_by (item_lines second i q) ≡ q
items_of_items second i [] = refl
items_of_items true i (estimated f ∷ q) = ap (λ (t : List Item). estimated f ∷ t) (items_of_items true (i + 1) q)
items_of_items false i (estimated f ∷ q) = ap (λ (t : List Item). estimated f ∷ t) (items_of_items false (i + 1) q)
items_of_items second i (clock_set count at ∷ q) = ap (λ (t : List Item). clock_set count at ∷ t) (items_of_items second i q)
items_of_items second i (leap_second count leap ∷ q) = ap (λ (t : List Item). leap_second count leap ∷ t) (items_of_items second i q)
items_of_items second i (refusal n why ∷ q) = ap (λ (t : List Item). refusal n why ∷ t) (items_of_items second i q)

ticks_of_items : (second : Bool) (i : ℕ) (q : List Item) → flat_map ticks_by (item_lines second i q) ≡ []
ticks_of_items second i [] = refl
ticks_of_items true i (estimated f ∷ q) = ticks_of_items true (i + 1) q
ticks_of_items false i (estimated f ∷ q) = ticks_of_items false (i + 1) q
ticks_of_items second i (clock_set count at ∷ q) = ticks_of_items second i q
ticks_of_items second i (leap_second count leap ∷ q) = ticks_of_items second i q
ticks_of_items second i (refusal n why ∷ q) = ticks_of_items second i q

entries_of_items : (second : Bool) (i : ℕ) (q : List Item) → flat_map entries_by (item_lines second i q) ≡ []
entries_of_items second i [] = refl
entries_of_items true i (estimated f ∷ q) = entries_of_items true (i + 1) q
entries_of_items false i (estimated f ∷ q) = entries_of_items false (i + 1) q
entries_of_items second i (clock_set count at ∷ q) = entries_of_items second i q
entries_of_items second i (leap_second count leap ∷ q) = entries_of_items second i q
entries_of_items second i (refusal n why ∷ q) = entries_of_items second i q

items_of_ticks : (n : ℕ) (hs : List Hands) → flat_map items_by (tick_lines n hs) ≡ []
items_of_ticks n [] = refl
items_of_ticks n (h ∷ hs) = items_of_ticks (n + 1) hs

ticks_of_ticks : (n : ℕ) (hs : List Hands) → flat_map ticks_by (tick_lines n hs) ≡ hs
ticks_of_ticks n [] = refl
ticks_of_ticks n (h ∷ hs) = ap (λ (t : List Hands). h ∷ t) (ticks_of_ticks (n + 1) hs)

entries_of_ticks : (n : ℕ) (hs : List Hands) → flat_map entries_by (tick_lines n hs) ≡ []
entries_of_ticks n [] = refl
entries_of_ticks n (h ∷ hs) = entries_of_ticks (n + 1) hs

items_of_log : (reader k : ℕ) (es : List Entry) → flat_map items_by (entry_lines reader k es) ≡ []
items_of_log reader k [] = refl
items_of_log reader k (e ∷ es) = items_of_log reader (k + 1) es

ticks_of_log : (reader k : ℕ) (es : List Entry) → flat_map ticks_by (entry_lines reader k es) ≡ []
ticks_of_log reader k [] = refl
ticks_of_log reader k (e ∷ es) = ticks_of_log reader (k + 1) es

entries_of_log : (reader k : ℕ) (es : List Entry) → flat_map entries_by (entry_lines reader k es) ≡ es
entries_of_log reader k [] = refl
entries_of_log reader k (e ∷ es) = ap (λ (t : List Entry). e ∷ t) (entries_of_log reader (k + 1) es)

items_of_logs : (reader : ℕ) (logs : List (List Entry)) → flat_map items_by (log_lines reader logs) ≡ []
items_of_logs reader [] = refl
items_of_logs reader (es ∷ logs) = told-append items_by (entry_lines reader 0 es) (log_lines (reader + 1) logs) ∙ (λ i. items_of_log reader 0 es i ++ items_of_logs (reader + 1) logs i)

ticks_of_logs : (reader : ℕ) (logs : List (List Entry)) → flat_map ticks_by (log_lines reader logs) ≡ []
ticks_of_logs reader [] = refl
ticks_of_logs reader (es ∷ logs) = told-append ticks_by (entry_lines reader 0 es) (log_lines (reader + 1) logs) ∙ (λ i. ticks_of_log reader 0 es i ++ ticks_of_logs (reader + 1) logs i)

entries_of_logs : (reader : ℕ) (logs : List (List Entry)) → flat_map entries_by (log_lines reader logs) ≡ all_entries logs
entries_of_logs reader [] = refl
entries_of_logs reader (es ∷ logs) = told-append entries_by (entry_lines reader 0 es) (log_lines (reader + 1) logs) ∙ (λ i. entries_of_log reader 0 es i ++ entries_of_logs (reader + 1) logs i)

-- what the lines of a report tell
told_by : {A : Type 0} (by : Line → List A) → ((freq : ℕ) (o : Options) → by (line.Head freq o) ≡ []) → ((a b c d : ℕ) → by (line.End a b c d) ≡ []) → (r : Report) → flat_map by (lines_of r) ≡ flat_map by (item_lines r.options.second 0 r.items) ++ (flat_map by (tick_lines 0 r.ticks) ++ flat_map by (log_lines 0 r.logs))
unfolding lines_of
told_by {A} by head end r =
    let inner = inner_lines r in
    let last = line.End (accepted_in r.items) (refused_in r.items) (length r.ticks) (entries_in r.logs) in
    ap (λ (t : List A). t ++ flat_map by (inner ++ last ∷ [])) (head r.freq r.options)
    ∙ told-append by inner (last ∷ [])
    ∙ ap (λ (t : List A). flat_map by inner ++ (t ++ [])) (end (accepted_in r.items) (refused_in r.items) (length r.ticks) (entries_in r.logs))
    ∙ append-nil (flat_map by inner)
    ∙ told-append by (item_lines r.options.second 0 r.items) (tick_lines 0 r.ticks ++ log_lines 0 r.logs)
    ∙ ap (λ (t : List A). flat_map by (item_lines r.options.second 0 r.items) ++ t) (told-append by (tick_lines 0 r.ticks) (log_lines 0 r.logs))

items_told : (r : Report) → flat_map items_by (lines_of r) ≡ r.items
items_told r = told_by items_by (λ freq o. refl) (λ a b c d. refl) r ∙ (λ i. items_of_items r.options.second 0 r.items i ++ (items_of_ticks 0 r.ticks i ++ items_of_logs 0 r.logs i)) ∙ append-nil r.items

pub ticks_told : (r : Report) → flat_map ticks_by (lines_of r) ≡ r.ticks
ticks_told r = told_by ticks_by (λ freq o. refl) (λ a b c d. refl) r ∙ (λ i. ticks_of_items r.options.second 0 r.items i ++ (ticks_of_ticks 0 r.ticks i ++ ticks_of_logs 0 r.logs i)) ∙ append-nil r.ticks

pub entries_told : (r : Report) → flat_map entries_by (lines_of r) ≡ all_entries r.logs
entries_told r = told_by entries_by (λ freq o. refl) (λ a b c d. refl) r ∙ (λ i. entries_of_items r.options.second 0 r.items i ++ (entries_of_ticks 0 r.ticks i ++ entries_of_logs 0 r.logs i))

-- entries in logs of one length
fronts_are : (xs ys x y : List Entry) → length xs ≡ length ys → xs ++ x ≡ ys ++ y → (xs ≡ ys) × (x ≡ y)
fronts_are [] [] x y n e = (refl, e)
fronts_are [] (b ∷ ys) x y n e = absurd (omega arith)
fronts_are (a ∷ xs) [] x y n e = absurd (omega arith)
fronts_are (a ∷ xs) (b ∷ ys) x y n e =
    let first : a ≡ b = cc in
    let behind : xs ++ x ≡ ys ++ y = cc in
    let rest = fronts_are xs ys x y (omega arith) behind in
    ((λ i. first i ∷ rest.0 i), rest.1)

logs_are : (n : ℕ) (cs bs : List (List Entry)) → length cs ≡ length bs → AllByRecursion (λ (es : List Entry). length es ≡ n) cs → AllByRecursion (λ (es : List Entry). length es ≡ n) bs → all_entries cs ≡ all_entries bs → cs ≡ bs
logs_are n [] [] many f g e = refl
logs_are n [] (b ∷ bs) many f g e = absurd (omega arith)
logs_are n (a ∷ cs) [] many f g e = absurd (omega arith)
logs_are n (a ∷ cs) (b ∷ bs) many f g e =
    let h = fronts_are a b (all_entries cs) (all_entries bs) (f.0 ∙ sym g.0) e in
    let rest = logs_are n cs bs (omega arith) f.1 g.1 h.1 in
    λ i. h.0 i ∷ rest i

-- ---- the report

freq_by : List Line → ℕ
freq_by (line.Head freq o ∷ ls) = freq
freq_by _ = 0

options_by : Options → List Line → Options
options_by other (line.Head freq o ∷ ls) = o
options_by other _ = other

pub report_is : (r s : Report) → IsShaped r → IsShaped s → AreLines (lines_of r) → AreLines (lines_of s) → text_of (lines_of r) ≡ text_of (lines_of s) → r ≡ s
unfolding lines_of freq_by options_by
report_is r s f g a b e =
    let lines = lines_are (lines_of r) (lines_of s) a b e in
    let freq : r.freq ≡ s.freq = ap freq_by lines in
    let options : r.options ≡ s.options = ap (options_by r.options) lines in
    let items : r.items ≡ s.items = sym (items_told r) ∙ ap (flat_map items_by) lines ∙ items_told s in
    let ticks : r.ticks ≡ s.ticks = sym (ticks_told r) ∙ ap (flat_map ticks_by) lines ∙ ticks_told s in
    let entries : all_entries r.logs ≡ all_entries s.logs = sym (entries_told r) ∙ ap (flat_map entries_by) lines ∙ entries_told s in
    let many : length r.logs ≡ length s.logs = f.readers ∙ ap (λ (o : Options). o.readers) options ∙ sym g.readers in
    let reads : AllByRecursion (λ (es : List Entry). length es ≡ r.options.reads) s.logs = subst (λ (o : Options). AllByRecursion (λ (es : List Entry). length es ≡ o.reads) s.logs) (sym options) g.reads in
    let logs = logs_are r.options.reads r.logs s.logs many f.reads reads entries in
    λ i. record { freq = freq i; options = options i; items = items i; ticks = ticks i; logs = logs i }
