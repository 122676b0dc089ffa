-- What a reader answers by what it keeps is what the grammar says of the text.
use Rattle.std.proofs.Common.{◌≡◌, ℕ, ◌+◌, ◌^◌, ◌<◌, ◌≤◌, Bool, true, false, cond, eqb, ltb, List, [], ◌∷◌, ◌++◌, Option, None, Some, Result, Ok, Err, MatchOption, length, refl, sym, ap, ◌∙◌, subst, arith, length-append, append-nil, append_assoc}
use Rattle.std.proofs.lemmas.Bool.{eqb-true}
use Rattle.std.proofs.lemmas.Bool.Decides.{nat_tests}
use Rattle.stamp_text.specs.declared.lines.Line.{Line}
use Rattle.stamp_text.specs.declared.lines.LineFault.{LineFault}
use Rattle.stamp_text.specs.declared.lines.Why.{Why}
use Rattle.stamp_text.specs.declared.lines.Why.TheVariants as why
use Rattle.stamp_text.specs.Cut.{ended_lines, open_line}
use Rattle.stamp_text.specs.Grammar.{second_of, faults, gives_all, short_says, line_says, given_on, fault_on, early_fault, first_fault, fault_so_far, given}
use Rattle.stamp_text.specs.Kept.{Kept, IsAt, StandsFor, AnswersByte}
use Rattle.stamp_text.specs.FeedSteps.{line_number, at_line, sound_answer, second_after, unless_faulty, step_answer, step_kept}
use Rattle.stamp_text.proofs.CutLaws.{ended_lines-feed, open_line-feed, ended_lines-more, open_line-more, ended_lines-short}
use Rattle.stamp_text.proofs.GrammarLaws.{first_none, faults-push, gives_all-push, second_of-push, given_on-last}

-- no later fault
pub first_fault-none : (f : Option LineFault) → first_fault f None ≡ f
first_fault-none None = refl
first_fault-none (Some f) = refl

-- the first fault behind a line feed
pub fault-feed : (text : List ℕ) (m : ℕ) → m ≡ 1 + length (ended_lines text)
    → fault_so_far (text ++ 10 ∷ []) ≡ first_fault (faults (ended_lines text)) (fault_on m (line_says (second_of (ended_lines text)) m (open_line text)) None)
unfolding fault_so_far
fault-feed text m e =
    let ends : first_fault (faults (ended_lines (text ++ 10 ∷ [])))
    (early_fault (length (ended_lines (text ++ 10 ∷ [])) + 1) (open_line (text ++ 10 ∷ []))) ≡ first_fault
    (faults (ended_lines text ++ open_line text ∷ [])) None =
    ap (λ (r : List ℕ). first_fault (faults (ended_lines (text ++ 10 ∷ []))) (early_fault (length (ended_lines (text ++ 10 ∷ [])) + 1) r))
    (open_line-feed text) ∙ ap (λ (ls : List (List ℕ)). first_fault (faults ls) None) (ended_lines-feed text) in
    ends ∙ first_fault-none _ ∙ faults-push (ended_lines text) (open_line text) m e

-- the first fault behind another byte
pub fault-more : (text : List ℕ) (x : ℕ) → eqb x 10 ≡ false
    → fault_so_far (text ++ x ∷ []) ≡ first_fault (faults (ended_lines text)) (early_fault (length (ended_lines text) + 1) (open_line text ++ x ∷ []))
unfolding fault_so_far
fault-more text x other = ap (λ (ls : List (List ℕ)). first_fault (faults ls) (early_fault (length ls + 1) (open_line (text ++ x ∷ []))))
    (ended_lines-more text x other) ∙ ap (λ (r : List ℕ). first_fault (faults (ended_lines text)) (early_fault (length (ended_lines text) + 1) r))
    (open_line-more text x other)

-- a line that has not ended, with one more byte
early-push : (m : ℕ) (line : List ℕ) (x : ℕ) → early_fault m (line ++ x ∷ []) ≡ cond (ltb 255 (length line + 1))
    (Some (record { line = m; why = why.LongLine })) None
early-push m line x = ap (λ n. cond (ltb 255 n) (Some (record { line = m; why = why.LongLine })) None) (length-append line (x ∷ []))

-- a fault stays where it is
pub early-feed : (second : Bool) (m : ℕ) (line : List ℕ) (f : LineFault) → early_fault m line ≡ Some f → fault_on m (line_says second m line) None ≡ Some f
early-feed second m line f h =
    let split : (t : Bool) (r : Result (Option Line) Why) → cond t (Some (record { line = m; why = why.LongLine })) None ≡ Some f
    → fault_on m (cond t (Err why.LongLine) r) None ≡ Some f =
    elim [ true ↦ λ r e. e | false ↦ λ r e. absurd (cc) ] in
    split (ltb 255 (length line)) (short_says second m line) h

-- a line that is too long stays so
early-more : (m : ℕ) (line : List ℕ) (x : ℕ) (f : LineFault) → early_fault m line ≡ Some f → early_fault m (line ++ x ∷ []) ≡ Some f
early-more m line x f h = grind (arith, nat_tests, length-append line (x ∷ []))

-- a later fault that stays
pub first_fault-later : (a b c : Option LineFault) (f : LineFault) → (b ≡ Some f → c ≡ Some f) → first_fault a b ≡ Some f → first_fault a c ≡ Some f
first_fault-later None b c f keeps h = keeps h
first_fault-later (Some g) b c f keeps h = h

-- a fault stays behind a line feed
fault-stays-feed : (text : List ℕ) (f : LineFault) → fault_so_far text ≡ Some f → fault_so_far (text ++ 10 ∷ []) ≡ Some f
unfolding fault_so_far
fault-stays-feed text f h =
    let m = length (ended_lines text) + 1 in
    fault-feed text m (omega arith) ∙ first_fault-later (faults (ended_lines text)) (early_fault m (open_line text)) _ f
    (early-feed (second_of (ended_lines text)) m (open_line text) f) h

-- a fault stays behind another byte
fault-stays-more : (text : List ℕ) (x : ℕ) (f : LineFault) → eqb x 10 ≡ false → fault_so_far text ≡ Some f → fault_so_far (text ++ x ∷ []) ≡ Some f
unfolding fault_so_far
fault-stays-more text x f other h =
    let m = length (ended_lines text) + 1 in
    fault-more text x other ∙ first_fault-later (faults (ended_lines text)) (early_fault m (open_line text)) _ f (early-more m (open_line text) x f) h

-- a byte is a line feed, or it is not
pub by_feed : (P : ℕ → Type 0) (x : ℕ) → P 10 → (eqb x 10 ≡ false → P x) → P x
by_feed P x feed more =
    let split : (t : Bool) → eqb x 10 ≡ t → P x = elim [ true ↦ λ e. subst P (sym (eqb-true x 10 e)) feed | false ↦ more ] in
    split (eqb x 10) refl

-- a fault of a text is that of each text that goes on from it
pub fault-stays : (text : List ℕ) (x : ℕ) (f : LineFault) → fault_so_far text ≡ Some f → fault_so_far (text ++ x ∷ []) ≡ Some f
fault-stays text x f h = by_feed (λ x. fault_so_far (text ++ x ∷ []) ≡ Some f) x (fault-stays-feed text f h) (λ other. fault-stays-more text x f other h)

-- what is known of a text without a fault
pub record NoFault (text : List ℕ) (m : ℕ) : Type 0 where
  pub lines : faults (ended_lines text) ≡ None
  pub last : early_fault m (open_line text) ≡ None

-- neither its lines nor its open line have a fault
pub no_fault : (text : List ℕ) (m : ℕ) → m ≡ length (ended_lines text) + 1 → fault_so_far text ≡ None → NoFault text m
unfolding fault_so_far
no_fault text m e h =
    let both = first_none (faults (ended_lines text)) (early_fault (length (ended_lines text) + 1) (open_line text)) h in
    record { lines = both.0; last = ap (λ k. early_fault k (open_line text)) e ∙ both.1 }

-- a line without an early fault says what a short one does
pub early-short : (second : Bool) (m : ℕ) (line : List ℕ) → early_fault m line ≡ None → line_says second m line ≡ short_says second m line
early-short second m line h =
    let split : (t : Bool) (r : Result (Option Line) Why) → cond {A = Option LineFault} t (Some (record { line = m; why = why.LongLine })) None
    ≡ None → cond {A = Result (Option Line) Why} t (Err why.LongLine) r ≡ r =
    elim [ true ↦ λ r e. absurd (cc) | false ↦ λ r e. refl ] in
    split (ltb 255 (length line)) (short_says second m line) h

-- the answer to a line feed
answer-feed : (text : List ℕ) (m : ℕ) → m ≡ length (ended_lines text) + 1 → fault_so_far text ≡ None
    → AnswersByte text 10 (at_line m (short_says (second_of (ended_lines text)) m (open_line text)))
unfolding given
answer-feed text m e h =
    let known = no_fault text m e h in
    let says = early-short (second_of (ended_lines text)) m (open_line text) known.last in
    let first : fault_so_far (text ++ 10 ∷ []) ≡ fault_on m (short_says (second_of (ended_lines text)) m (open_line text)) None = fault-feed text m
    (omega arith) ∙ ap (λ f. first_fault f (fault_on m (line_says (second_of (ended_lines text)) m (open_line text)) None)) known.lines
    ∙ ap (λ r. fault_on m r None) says in
    let gives : gives_all (ended_lines (text ++ 10 ∷ [])) ≡ gives_all (ended_lines text)
    ++ given_on (short_says (second_of (ended_lines text)) m (open_line text)) [] = ap gives_all (ended_lines-feed text)
    ∙ gives_all-push (ended_lines text) (open_line text) m (omega arith) known.lines ∙ ap (λ r. gives_all (ended_lines text) ++ given_on r []) says in
    let split : (r : Result (Option Line) Why) → fault_so_far (text ++ 10 ∷ []) ≡ fault_on m r None
    → gives_all (ended_lines (text ++ 10 ∷ [])) ≡ gives_all (ended_lines text) ++ given_on r [] → AnswersByte text 10 (at_line m r) =
    elim [ Ok o ↦ λ f g. (f, g ∙ ap (λ (xs : List Line). gives_all (ended_lines text) ++ xs) (given_on-last o)) | Err w ↦ λ f g. f ] in
    split (short_says (second_of (ended_lines text)) m (open_line text)) first gives

-- a line that is not too long
early-length : (m : ℕ) (line : List ℕ) → early_fault m line ≡ None → length line ≤ 255
early-length m line h = grind (arith, nat_tests)

-- the answer to another byte
answer-more : (text : List ℕ) (m : ℕ) (x : ℕ) → eqb x 10 ≡ false → m ≡ length (ended_lines text) + 1 → fault_so_far text ≡ None
    → AnswersByte text x (sound_answer (second_of (ended_lines text)) m (open_line text) x)
unfolding given
answer-more text m x other e h =
    let known = no_fault text m e h in
    let first : fault_so_far (text ++ x ∷ []) ≡ early_fault m (open_line text ++ x ∷ []) = fault-more text x other
    ∙ ap (λ f. first_fault f (early_fault (length (ended_lines text) + 1) (open_line text ++ x ∷ []))) known.lines
    ∙ ap (λ k. early_fault k (open_line text ++ x ∷ [])) (sym e) in
    let push = early-push m (open_line text) x in
    let few = early-length m (open_line text) known.last in
    let full : ltb 255 (length (open_line text) + 1) ≡ eqb (length (open_line text)) 255 = grind (arith, nat_tests) in
    let same : gives_all (ended_lines (text ++ x ∷ [])) ≡ gives_all (ended_lines text) ++ [] = ap gives_all (ended_lines-more text x other)
    ∙ sym (append-nil (gives_all (ended_lines text))) in
    let split : (b : Bool) → fault_so_far (text ++ x ∷ []) ≡ cond b (Some (record { line = m; why = why.LongLine })) None
    → AnswersByte text x (cond b (Err (record { line = m; why = why.LongLine })) (Ok None)) =
    elim [ true ↦ λ f. f | false ↦ λ f. (f, same) ] in
    let not_feed : sound_answer (second_of (ended_lines text)) m (open_line text) x ≡ cond (eqb (length (open_line text)) 255)
    (Err (record { line = m; why = why.LongLine })) (Ok None) =
    ap (λ t. cond t (at_line m (short_says (second_of (ended_lines text)) m (open_line text)))
    (cond (eqb (length (open_line text)) 255) (Err (record { line = m; why = why.LongLine })) (Ok None))) other in
    subst (AnswersByte text x) (sym not_feed) (split (eqb (length (open_line text)) 255)
    (first ∙ push ∙ ap (λ t. cond t (Some (record { line = m; why = why.LongLine })) None) full))

-- the number that the reader counts is the line's
pub counted : (text : List ℕ) (ended : ℕ) → length text < 2 ^ 62 → ended ≡ length (ended_lines text) → line_number ended ≡ length (ended_lines text) + 1
counted text ended short e = omega (arith, ended_lines-short text)

-- the answer to a byte, where no fault was found
answer-sound : (text line : List ℕ) (second : Bool) (ended x : ℕ) → length text < 2 ^ 62 → IsAt ended second line text
    → AnswersByte text x (sound_answer second (line_number ended) line x)
answer-sound text line second ended x short at =
    let m = length (ended_lines text) + 1 in
    let e = counted text ended short at.lines in
    let here : AnswersByte text x (sound_answer (second_of (ended_lines text)) m (open_line text) x) = by_feed
    (λ x. AnswersByte text x (sound_answer (second_of (ended_lines text)) m (open_line text) x)) x (answer-feed text m refl at.sound)
    (λ other. answer-more text m x other refl at.sound) in
    subst (λ n. AnswersByte text x (sound_answer second n line x)) (sym e)
    (subst (λ l. AnswersByte text x (sound_answer second m l x)) (sym at.last)
    (subst (λ v. AnswersByte text x (sound_answer v m (open_line text) x)) (sym at.version) here))

-- the answer to a byte, by the fault that is kept
answer-by : (fault : Option LineFault) (text line : List ℕ) (second : Bool) (ended x : ℕ) → length text < 2 ^ 62
    → MatchOption fault (IsAt ended second line text) (λ f. fault_so_far text ≡ Some f)
    → AnswersByte text x (unless_faulty fault (sound_answer second (line_number ended) line x))
answer-by None text line second ended x short at = answer-sound text line second ended x short at
answer-by (Some f) text line second ended x short was = fault-stays text x f was

-- the answer to a byte is the grammar's
pub step_answers : (k : Kept) (text : List ℕ) (x : ℕ) → length text < 2 ^ 62 → StandsFor k text → AnswersByte text x (step_answer k x)
unfolding step_answer
step_answers k text x short at = answer-by k.fault text k.line k.second k.ended x short at

-- the version behind a line feed
second-feed : (text line : List ℕ) (second : Bool) (ended : ℕ) → IsAt ended second line text
    → second_after ended second line ≡ second_of (ended_lines (text ++ 10 ∷ []))
second-feed text line second ended at =
    ap (λ n. second_after n second line) at.lines
    ∙ ap (λ v. second_after (length (ended_lines text)) v line) at.version
    ∙ ap (second_after (length (ended_lines text)) (second_of (ended_lines text))) at.last
    ∙ sym (second_of-push (ended_lines text) (open_line text))
    ∙ ap second_of (sym (ended_lines-feed text))

-- after a byte the reader stands for the text with it
kept-by : (r : Result (Option Line) LineFault) (fault : Option LineFault) (text line : List ℕ) (second : Bool) (ended x : ℕ) → length text < 2 ^ 62
    → MatchOption fault (IsAt ended second line text) (λ f. fault_so_far text ≡ Some f)
    → r ≡ unless_faulty fault (sound_answer second (line_number ended) line x) → AnswersByte text x r
    → StandsFor (step_kept (record { ended = ended; second = second; line = line; fault = fault }) x r) (text ++ x ∷ [])
kept-by (Err f) fault text line second ended x short was e a = a
kept-by (Ok o) (Some f) text line second ended x short was e a = absurd (cc)
kept-by (Ok o) None text line second ended x short at e a =
    by_feed (λ x. fault_so_far (text ++ x ∷ []) ≡ None → StandsFor
    (step_kept (record { ended = ended; second = second; line = line; fault = None }) x (Ok o)) (text ++ x ∷ [])) x
    (λ sound. record {
      sound = sound;
      lines = counted text ended short at.lines
          ∙ sym (ap length (ended_lines-feed text) ∙ length-append (ended_lines text) (open_line text ∷ []));
      version =
          second-feed text line second ended at;
      last = sym (open_line-feed text);
    })
    (λ other sound. subst (λ t. StandsFor (cond t (record {
      ended = line_number ended;
      second = second_after ended second line;
      line = [];
      fault = None;
    }) (record { ended = ended; second = second; line = line ++ x ∷ []; fault = None })) (text ++ x ∷ [])) (sym other)
    (record {
      sound = sound;
      lines = at.lines ∙ ap length (sym (ended_lines-more text x other));
      version = at.version
          ∙ ap second_of (sym (ended_lines-more text x other));
      last = ap (λ (l : List ℕ). l ++ x ∷ []) at.last ∙ sym (open_line-more text x other);
    })) a.0

-- the reader stands for the text with the byte that it took
pub step_stands : (k : Kept) (text : List ℕ) (x : ℕ) → length text < 2 ^ 62 → StandsFor k text → StandsFor (step_kept k x (step_answer k x)) (text ++ x ∷ [])
unfolding step_answer
step_stands k text x short at = kept-by (unless_faulty k.fault (sound_answer k.second (line_number k.ended) k.line x)) k.fault text k.line k.second
    k.ended x short at refl (answer-by k.fault text k.line k.second k.ended x short at)

-- a fault of a text is that of each text that begins with it
pub fault-stays-all : (text more : List ℕ) (f : LineFault) → fault_so_far text ≡ Some f → fault_so_far (text ++ more) ≡ Some f
fault-stays-all text [] f h = ap fault_so_far (append-nil text) ∙ h
fault-stays-all text (x ∷ more) f h = ap fault_so_far (sym (append_assoc text (x ∷ []) more)) ∙ fault-stays-all (text ++ x ∷ []) more f (fault-stays text x f h)

-- a fault that is kept is answered again
pub step_again : (k : Kept) (x : ℕ) (f : LineFault) → k.fault ≡ Some f → (step_answer k x ≡ Err f) × (step_kept k x (step_answer k x) ≡ k)
unfolding step_answer
step_again k x f h =
    let same : step_answer k x ≡ Err f = ap (λ o. unless_faulty o (sound_answer k.second (line_number k.ended) k.line x)) h in
    (same, ap (step_kept k x) same ∙ ap (λ o. record { ended = k.ended; second = k.second; line = k.line; fault = o }) (sym h))
