-- What a reader answers to the end is what the grammar says of the file.
use Rattle.std.proofs.Common.{◌≡◌, ℕ, Bool, ◌+◌, ◌^◌, ◌<◌, ◌≤◌, true, false, cond, eqb, List, [], ◌∷◌, ◌++◌, Option, None, Some, Result, Ok, Err, IfErr, MatchOption, MatchResult, length, refl, sym, ap, ◌∙◌, subst, arith, length-append, append-nil}
use Rattle.std.specs.Option.{option_to_list}
use Rattle.std.proofs.lemmas.Bool.Decides.{nat_tests}
use Rattle.stamp_text.specs.declared.lines.Line.{Line}
use Rattle.stamp_text.specs.declared.lines.LineFault.{LineFault}
use Rattle.stamp_text.specs.declared.lines.Why.{Why}
use Rattle.stamp_text.specs.declared.lines.Why.TheVariants as why
use Rattle.stamp_text.specs.Cut.{ended_lines, open_line, with_last}
use Rattle.stamp_text.specs.Grammar.{second_of, faults, gives_all, short_says, line_says, given_on, fault_on, early_fault, first_fault, fault_so_far, given, missing, fault_of_file, given_of_file}
use Rattle.stamp_text.specs.Kept.{Kept, IsAt, StandsFor, AnswersByte, AnswersEnd, IsFaultOfAll}
use Rattle.stamp_text.specs.FeedSteps.{line_number, at_line, unless_faulty, step_answer, last_answer, nothing_unless, second_line, sound_end}
use Rattle.stamp_text.proofs.GrammarLaws.{faults-push, gives_all-push, given_on-last}
use Rattle.stamp_text.proofs.FeedLaws.{no_fault, early-short, early-feed, counted, first_fault-later, fault-stays-all, step_answers}

-- a fault of lines and of the open line is that of all of them
end-faulty-by : (lines : List (List ℕ)) (r : List ℕ) (m : ℕ) (later : Option LineFault) (f : LineFault) → m ≡ length lines + 1
    → first_fault (faults lines) (early_fault m r) ≡ Some f → first_fault (faults (with_last lines r)) later ≡ Some f
end-faulty-by lines [] m later f e h = first_fault-later (faults lines) None later f (λ no. absurd (cc)) h
end-faulty-by lines (b ∷ bs) m later f e h =
    let found : faults (lines ++ (b ∷ bs) ∷ []) ≡ Some f = faults-push lines (b ∷ bs) m (omega arith)
    ∙ first_fault-later (faults lines) (early_fault m (b ∷ bs)) _ f (early-feed (second_of lines) m (b ∷ bs) f) h in
    ap (λ x. first_fault x later) found

-- a file in which a fault was found has that fault
pub end-faulty : (text : List ℕ) (f : LineFault) → fault_so_far text ≡ Some f → fault_of_file text ≡ Some f
unfolding fault_so_far fault_of_file
end-faulty text f h = end-faulty-by (ended_lines text) (open_line text) (length (ended_lines text) + 1) _ f refl h

-- no line is left open
end-closed : (first : Option LineFault) (gives : List Line) (v : Option LineFault) → first ≡ None
    → MatchResult (nothing_unless v) (λ o. (first_fault first v ≡ None) × (gives ≡ gives ++ option_to_list o)) (λ f. first_fault first v ≡ Some f)
end-closed first gives None h = (ap (λ x. first_fault x None) h, sym (append-nil gives))
end-closed first gives (Some f) h = ap (λ x. first_fault x (Some f)) h

-- line 2 is missing behind line 1 alone
missing_is : (m : ℕ) → 1 ≤ m → missing m ≡ cond (eqb m 1) (Some (record { line = 2; why = why.Freq })) None
missing_is m h = grind (arith, nat_tests)

-- what the last line says is the answer
end-open : (first : Option LineFault) (gives before : List Line) (m : ℕ) (r : Result (Option Line) Why) → first ≡ fault_on m r None → gives ≡ before
    ++ given_on r [] → MatchResult (second_line m (at_line m r))
    (λ o. (first_fault first (cond (eqb m 1) (Some (record { line = 2; why = why.Freq })) None) ≡ None) × (gives ≡ before ++ option_to_list o))
    (λ f. first_fault first (cond (eqb m 1) (Some (record { line = 2; why = why.Freq })) None) ≡ Some f)
end-open first gives before m (Err w) f g = ap (λ x. first_fault x (cond (eqb m 1) (Some (record { line = 2; why = why.Freq })) None)) f
end-open first gives before m (Ok o) f g =
    elim (eqb m 1) as (λ t. MatchResult (cond t (Err (record { line = 2; why = why.Freq })) (Ok o))
    (λ o. (first_fault first (cond t (Some (record { line = 2; why = why.Freq })) None) ≡ None) × (gives ≡ before ++ option_to_list o))
    (λ f. first_fault first (cond t (Some (record { line = 2; why = why.Freq })) None) ≡ Some f)) [
      | true ↦ ap (λ x. first_fault x (Some (record { line = 2; why = why.Freq }))) f
      | false ↦ (ap (λ x. first_fault x None) f, g ∙ ap (λ (xs : List Line). before ++ xs) (given_on-last o))
    ]

-- the answer to the end, where no fault was found
end-sound : (lines : List (List ℕ)) (line : List ℕ) (m : ℕ) → m ≡ length lines + 1 → faults lines ≡ None → early_fault m line ≡ None
    → MatchResult (sound_end (second_of lines) (length lines) m line)
    (λ o. (first_fault (faults (with_last lines line)) (missing (length (with_last lines line))) ≡ None)
    × (gives_all (with_last lines line) ≡ gives_all lines ++ option_to_list o))
    (λ f. first_fault (faults (with_last lines line)) (missing (length (with_last lines line))) ≡ Some f)
end-sound lines [] m e h early = end-closed (faults lines) (gives_all lines) (missing (length lines)) h
end-sound lines (b ∷ bs) m e h early =
    let line = b ∷ bs in
    let says = early-short (second_of lines) m line early in
    let first : faults (lines ++ line ∷ []) ≡ fault_on m (short_says (second_of lines) m line) None = faults-push lines line m (omega arith)
    ∙ ap (λ f. first_fault f (fault_on m (line_says (second_of lines) m line) None)) h ∙ ap (λ r. fault_on m r None) says in
    let gives : gives_all (lines ++ line ∷ []) ≡ gives_all lines
    ++ given_on (short_says (second_of lines) m line) [] = gives_all-push lines line m (omega arith) h ∙ ap (λ r. gives_all lines ++ given_on r []) says in
    let count : length (lines ++ line ∷ []) ≡ m = omega (arith, length-append lines (line ∷ [])) in
    let late : missing (length (lines ++ line ∷ [])) ≡ cond (eqb m 1) (Some (record { line = 2; why = why.Freq })) None = ap missing count
    ∙ missing_is m (omega arith) in
    subst (λ v. MatchResult (second_line m (at_line m (short_says (second_of lines) m line)))
    (λ o. (first_fault (faults (lines ++ line ∷ [])) v ≡ None) × (gives_all (lines ++ line ∷ []) ≡ gives_all lines ++ option_to_list o))
    (λ f. first_fault (faults (lines ++ line ∷ [])) v ≡ Some f)) (sym late)
    (end-open (faults (lines ++ line ∷ [])) (gives_all (lines ++ line ∷ [])) (gives_all lines) m (short_says (second_of lines) m line) first gives)

-- the answer to the end, by the fault that is kept
end-by : (fault : Option LineFault) (text line : List ℕ) (second : Bool) (ended : ℕ) → length text < 2 ^ 62
    → MatchOption fault (IsAt ended second line text) (λ f. fault_so_far text ≡ Some f)
    → AnswersEnd text (unless_faulty fault (sound_end second ended (line_number ended) line))
unfolding given fault_of_file given_of_file
end-by None text line second ended short at =
    let m = length (ended_lines text) + 1 in
    let known = no_fault text m refl at.sound in
    let here : AnswersEnd text (sound_end (second_of (ended_lines text)) (length (ended_lines text)) m (open_line text)) = end-sound
    (ended_lines text) (open_line text) m refl known.lines known.last in
    subst (λ n. AnswersEnd text (sound_end second ended n line)) (sym (counted text ended short at.lines))
    (subst (λ l. AnswersEnd text (sound_end second ended m l)) (sym at.last)
    (subst (λ k. AnswersEnd text (sound_end second k m (open_line text))) (sym at.lines)
    (subst (λ v. AnswersEnd text (sound_end v (length (ended_lines text)) m (open_line text))) (sym at.version) here)))
end-by (Some f) text line second ended short was = end-faulty text f was

-- the answer to the end is the grammar's
pub last_answers : (k : Kept) (text : List ℕ) → length text < 2 ^ 62 → StandsFor k text → AnswersEnd text (last_answer k)
unfolding last_answer
last_answers k text short at = end-by k.fault text k.line k.second k.ended short at

-- a fault that is kept is answered to the end
pub last_again : (k : Kept) (f : LineFault) → k.fault ≡ Some f → last_answer k ≡ Err f
unfolding last_answer
last_again k f h = ap (λ o. unless_faulty o (sound_end k.second k.ended (line_number k.ended) k.line)) h

-- a fault that is answered to a byte is the fault of each file that goes on from there
pub refused_all : (k : Kept) (x : ℕ) → IfErr (step_answer k x)
    (λ f. (text : List ℕ) → length text < 2 ^ 62 → StandsFor k text → IsFaultOfAll (text ++ x ∷ []) f)
refused_all k x =
    let split : (r : Result (Option Line) LineFault) → ((text : List ℕ) → length text < 2 ^ 62 → StandsFor k text → AnswersByte text x r) → IfErr r
    (λ f. (text : List ℕ) → length text < 2 ^ 62 → StandsFor k text → IsFaultOfAll (text ++ x ∷ []) f) =
    elim [
      | Ok o ↦ λ h. tt
      | Err f ↦ λ h text short at more. end-faulty ((text ++ x ∷ []) ++ more) f
          (fault-stays-all (text ++ x ∷ []) more f (h text short at))
    ] in
    split (step_answer k x) (λ text short at. step_answers k text x short at)
