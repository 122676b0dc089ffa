-- What a text gives, and what it gives with more bytes.
use Rattle.std.proofs.Common.{◌≡◌, ℕ, ◌+◌, ◌≤◌, Bool, true, false, cond, eqb, ltb, List, [], ◌∷◌, ◌++◌, Option, None, Some, Result, Ok, Err, length, refl, sym, ap, ◌∙◌, arith, length-append, append-nil, append_assoc}
use Rattle.std.proofs.lemmas.Bool.Decides.{nat_tests}
use Rattle.stamp_text.specs.declared.lines.Head.{Head}
use Rattle.stamp_text.specs.declared.lines.Line.{Line}
use Rattle.stamp_text.specs.declared.lines.Line.TheVariants as gives
use Rattle.stamp_text.specs.declared.lines.LineFault.{LineFault}
use Rattle.stamp_text.specs.declared.lines.Why.{Why}
use Rattle.stamp_text.specs.declared.lines.Why.TheVariants as why
use Rattle.stamp_text.specs.Cut.{ended_lines, open_line, with_last, file_lines, without_return}
use Rattle.stamp_text.specs.Grammar.{version_of, second_of, faults, gives_all, line_says, freq_in, head_of, given_from, given_on, fault_from, fault_on, first_fault, fault_so_far, given, missing, fault_of_file, given_of_file}
use Rattle.stamp_text.proofs.CutLaws.{ended_lines-feed, ended_lines-more}
use Rattle.stamp_text.proofs.GrammarLaws.{first_none, faults-push, gives_all-push}
use Rattle.stamp_text.proofs.FeedLaws.{fault-feed, by_feed, fault-stays}

-- lines behind others add to what is given
given_from-more : (second : Bool) (n : ℕ) (lines more : List (List ℕ)) → (xs : List Line)
    × (given_from second n (lines ++ more) ≡ given_from second n lines ++ xs)
given_from-more second n [] more = (given_from second n more, refl)
given_from-more second n (l ∷ ls) more =
    let rest = given_from-more second (n + 1) ls more in
    elim (line_says second n l) as (λ r. (xs : List Line) × (given_on r (given_from second (n + 1) (ls ++ more)) ≡ given_on r
    (given_from second (n + 1) ls) ++ xs)) [
      | Ok o ↦ elim o as (λ o. (xs : List Line) × (given_on (Ok o) (given_from second (n + 1) (ls ++ more)) ≡ given_on (Ok o)
          (given_from second (n + 1) ls) ++ xs)) [ None ↦ rest | Some x ↦ (rest.0, ap (λ (ys : List Line). x ∷ ys) rest.1) ]
      | Err w ↦ ([], refl)
    ]

-- a line behind a fault adds nothing
given_from-faulty : (second : Bool) (n : ℕ) (lines : List (List ℕ)) (line : List ℕ) (f : LineFault) → fault_from second n lines ≡ Some f
    → given_from second n (lines ++ line ∷ []) ≡ given_from second n lines
given_from-faulty second n [] line f h = absurd (cc)
given_from-faulty second n (l ∷ ls) line f h =
    let step : (r : Result (Option Line) Why) → fault_on n r (fault_from second (n + 1) ls) ≡ Some f
    → given_on r (given_from second (n + 1) (ls ++ line ∷ [])) ≡ given_on r (given_from second (n + 1) ls) =
    elim [
      | Ok o ↦ elim o as (λ o. fault_on n (Ok o) (fault_from second (n + 1) ls) ≡ Some f
          → given_on (Ok o) (given_from second (n + 1) (ls ++ line ∷ [])) ≡ given_on (Ok o)
          (given_from second (n + 1) ls)) [
            | None ↦ λ g. given_from-faulty second (n + 1) ls line f g
            | Some x ↦ λ g. ap (λ (xs : List Line). x ∷ xs)
                (given_from-faulty second (n + 1) ls line f g)
          ]
      | Err w ↦ λ g. refl
    ] in
    step (line_says second n l) h

-- so it is of the lines of a file, whose version the first of them says
gives_all-more : (lines more : List (List ℕ)) → (xs : List Line) × (gives_all (lines ++ more) ≡ gives_all lines ++ xs)
gives_all-more [] more = (gives_all more, refl)
gives_all-more (l ∷ ls) more = given_from-more (second_of (l ∷ ls)) 1 (l ∷ ls) more

gives_all-faulty : (lines : List (List ℕ)) (line : List ℕ) (f : LineFault) → faults lines ≡ Some f → gives_all (lines ++ line ∷ []) ≡ gives_all lines
gives_all-faulty [] line f h = absurd (cc)
gives_all-faulty (l ∷ ls) line f h = given_from-faulty (second_of (l ∷ ls)) 1 (l ∷ ls) line f h

-- a line that is refused gives nothing
given_on-faulty : (m : ℕ) (r : Result (Option Line) Why) (f : LineFault) → fault_on m r None ≡ Some f → given_on r [] ≡ []
given_on-faulty m (Ok o) f h = absurd (cc)
given_on-faulty m (Err w) f h = refl

-- a faulty line behind others gives nothing
given_from-last : (lines : List (List ℕ)) (line : List ℕ) (m : ℕ) (f : LineFault) → m ≡ 1 + length lines
    → first_fault (faults lines) (fault_on m (line_says (second_of lines) m line) None) ≡ Some f → gives_all (lines ++ line ∷ []) ≡ gives_all lines
given_from-last lines line m f e h =
    let split : (v : Option LineFault) → faults lines ≡ v → first_fault v (fault_on m (line_says (second_of lines) m line) None) ≡ Some f
    → gives_all (lines ++ line ∷ []) ≡ gives_all lines =
    elim [
      | None ↦ λ none g. gives_all-push lines line m e none ∙ ap (λ (xs : List Line). gives_all lines ++ xs)
          (given_on-faulty m (line_says (second_of lines) m line) f g) ∙ append-nil (gives_all lines)
      | Some v ↦ λ found g. gives_all-faulty lines line v found
    ] in
    split (faults lines) refl h

-- a byte at which there is a fault gives nothing
given-faulty-feed : (text : List ℕ) (f : LineFault) → fault_so_far (text ++ 10 ∷ []) ≡ Some f → given (text ++ 10 ∷ []) ≡ given text
unfolding given
given-faulty-feed text f h =
    let m = 1 + length (ended_lines text) in
    ap gives_all (ended_lines-feed text) ∙ given_from-last (ended_lines text) (open_line text) m f refl (sym (fault-feed text m refl) ∙ h)

given-more-byte : (text : List ℕ) (x : ℕ) → eqb x 10 ≡ false → given (text ++ x ∷ []) ≡ given text
unfolding given
given-more-byte text x other = ap gives_all (ended_lines-more text x other)

pub given-faulty : (text : List ℕ) (x : ℕ) (f : LineFault) → fault_so_far (text ++ x ∷ []) ≡ Some f → given (text ++ x ∷ []) ≡ given text
given-faulty text x f = by_feed (λ x. fault_so_far (text ++ x ∷ []) ≡ Some f → given (text ++ x ∷ []) ≡ given text) x (given-faulty-feed text f)
    (λ other h. given-more-byte text x other)

-- nothing is given behind a fault
pub given-frozen : (text more : List ℕ) (f : LineFault) → fault_so_far text ≡ Some f → given (text ++ more) ≡ given text
given-frozen text [] f h = ap given (append-nil text)
given-frozen text (x ∷ more) f h =
    let found = fault-stays text x f h in
    ap given (sym (append_assoc text (x ∷ []) more)) ∙ given-frozen (text ++ x ∷ []) more f found ∙ given-faulty text x f found

-- more bytes add to what is given
given-byte : (text : List ℕ) (x : ℕ) → (xs : List Line) × (given (text ++ x ∷ []) ≡ given text ++ xs)
unfolding given
given-byte text x = by_feed (λ x. (xs : List Line) × (given (text ++ x ∷ []) ≡ given text ++ xs)) x
    (let more = gives_all-more (ended_lines text) (open_line text ∷ []) in (more.0, ap gives_all (ended_lines-feed text) ∙ more.1))
    (λ other. ([], given-more-byte text x other ∙ sym (append-nil (given text))))

pub given-more : (text more : List ℕ) → (xs : List Line) × (given (text ++ more) ≡ given text ++ xs)
given-more text [] = ([], ap given (append-nil text) ∙ sym (append-nil (given text)))
given-more text (x ∷ more) =
    let first = given-byte text x in
    let rest = given-more (text ++ x ∷ []) more in (
      first.0 ++ rest.0,
      ap given (sym (append_assoc text (x ∷ []) more)) ∙ rest.1 ∙ ap (λ (xs : List Line). xs ++ rest.0) first.1
          ∙ append_assoc (given text) first.0 rest.0,
    )

-- the end adds to what is given
given_by-end : (lines : List (List ℕ)) (r : List ℕ) → (xs : List Line) × (gives_all (with_last lines r) ≡ gives_all lines ++ xs)
given_by-end lines [] = ([], sym (append-nil (gives_all lines)))
given_by-end lines (b ∷ bs) = gives_all-more lines ((b ∷ bs) ∷ [])

pub given-end : (text : List ℕ) → (xs : List Line) × (given_of_file text ≡ given text ++ xs)
unfolding given given_of_file
given-end text = given_by-end (ended_lines text) (open_line text)

-- the first line gives nothing
first-gives-nothing : (second : Bool) (line : List ℕ) (o : Option Line) → line_says second 1 line ≡ Ok o → o ≡ None
first-gives-nothing second line o =
    let split : (long same : Bool) → cond long (Err why.LongLine) (cond same (Ok None) (Err why.Head)) ≡ Ok o → o ≡ None =
    elim [ true ↦ λ same e. absurd (cc) | false ↦ elim [ true ↦ λ e. cc | false ↦ λ e. absurd (cc) ] ] in
    split _ _

-- a file that ends too early has one line at most
missing-few : (m : ℕ) (f : LineFault) → missing m ≡ Some f → m ≤ 1
missing-few m f h = grind (arith, nat_tests)

-- a last line that has no fault, in a file that ends too early, gives nothing
early-end : (lines : List (List ℕ)) (line : List ℕ) (f : LineFault) → faults (lines ++ line ∷ []) ≡ None
    → missing (length (lines ++ line ∷ [])) ≡ Some f → gives_all (lines ++ line ∷ []) ≡ gives_all lines
early-end [] line f none h =
    let split : (r : Result (Option Line) Why) → line_says false 1 line ≡ r → fault_on 1 r None ≡ None → given_on r [] ≡ [] =
    elim [ Ok o ↦ λ e n. ap (λ o. given_on (Ok o) []) (first-gives-nothing false line o e) | Err w ↦ λ e n. absurd (cc) ] in
    split (line_says false 1 line) refl none
early-end (l ∷ ls) line f none h = absurd (omega (arith, missing-few (length (l ∷ ls ++ line ∷ [])) f h, length-append ls (line ∷ [])))

given-end-faulty-by : (lines : List (List ℕ)) (r : List ℕ) (f : LineFault) → first_fault (faults (with_last lines r))
    (missing (length (with_last lines r))) ≡ Some f → gives_all (with_last lines r) ≡ gives_all lines
given-end-faulty-by lines [] f h = refl
given-end-faulty-by lines (b ∷ bs) f h =
    let line = b ∷ bs in
    let m = 1 + length lines in
    let split : (v : Option LineFault) → faults (lines ++ line ∷ []) ≡ v → first_fault v (missing (length (lines ++ line ∷ []))) ≡ Some f
    → gives_all (lines ++ line ∷ []) ≡ gives_all lines =
    elim [
      | None ↦ λ none g. early-end lines line f none g
      | Some v ↦ λ found g. given_from-last lines line m v refl (sym (faults-push lines line m refl) ∙ found)
    ] in
    split (faults (lines ++ line ∷ [])) refl h

-- where the end is refused, it gives nothing
pub given-end-faulty : (text : List ℕ) (f : LineFault) → fault_of_file text ≡ Some f → given_of_file text ≡ given text
unfolding given fault_of_file given_of_file
given-end-faulty text f h = given-end-faulty-by (ended_lines text) (open_line text) f h

-- a second line without a fault gives a head
second-gives-head : (second : Bool) (line : List ℕ) (o : Option Line) → line_says second 2 line ≡ Ok o → (h : Head) × (o ≡ Some (gives.Head h))
second-gives-head second line o =
    let split : (long : Bool) (f : Option ℕ) → cond long (Err why.LongLine) (head_of second f) ≡ Ok o → (h : Head) × (o ≡ Some (gives.Head h)) =
    elim [ true ↦ λ f e. absurd (cc) | false ↦ elim [ None ↦ λ e. absurd (cc) | Some n ↦ λ e. (record { version = version_of second; freq = n }, cc) ] ] in
    split (ltb 255 (length line)) (freq_in (without_return line))

-- what a line says that has no fault
said : (n : ℕ) (r : Result (Option Line) Why) (later : Option LineFault) → fault_on n r later ≡ None → (o : Option Line) × (r ≡ Ok o) × (later ≡ None)
said n (Ok o) later h = (o, refl, h)
said n (Err w) later h = absurd (cc)

two-lines : (v : Bool) (a b : List ℕ) (more : List Line) (later : Option LineFault) → fault_on 1 (line_says v 1 a)
    (fault_on 2 (line_says v 2 b) later) ≡ None → (h : Head) × (given_on (line_says v 1 a) (given_on (line_says v 2 b) more) ≡ gives.Head h ∷ more)
two-lines v a b more later h =
    let first = said 1 (line_says v 1 a) (fault_on 2 (line_says v 2 b) later) h in
    let second = said 2 (line_says v 2 b) later first.2 in
    let none = first-gives-nothing v a first.0 first.1 in
    let some = second-gives-head v b second.0 second.1 in (
      some.0,
      ap (λ r. given_on r (given_on (line_says v 2 b) more)) (first.1 ∙ ap (λ o. Ok o) none)
          ∙ ap (λ r. given_on r more) (second.1 ∙ ap (λ o. Ok o) some.1),
    )

head-first-by : (lines : List (List ℕ)) → faults lines ≡ None → missing (length lines) ≡ None → (h : Head) × (more : List Line)
    × (gives_all lines ≡ gives.Head h ∷ more)
head-first-by [] none m = absurd (cc)
head-first-by (a ∷ []) none m = absurd (cc)
head-first-by (a ∷ b ∷ lines) none m =
    let v = second_of (a ∷ b ∷ lines) in
    let two = two-lines v a b (given_from v 3 lines) (fault_from v 3 lines) none in
    (two.0, given_from v 3 lines, two.1)

-- a file in the grammar gives its head first
pub head-first : (text : List ℕ) → fault_of_file text ≡ None → (h : Head) × (more : List Line) × (given_of_file text ≡ gives.Head h ∷ more)
unfolding fault_of_file given_of_file
head-first text none = let both = first_none (faults (file_lines text)) (missing (length (file_lines text))) none in
    head-first-by (file_lines text) both.0 both.1
