-- Bytes that are given in turn, and the text that they go on with.
use Rattle.std.proofs.Common.{◌≡◌, ◌≢◌, ℕ, Bool, ◌+◌, ◌^◌, ◌<◌, ◌≤◌, false, cond, eqb, List, [], ◌∷◌, ◌++◌, Option, None, Some, Result, Ok, Err, IfErr, MatchOption, length, sym, ap, ◌∙◌, subst, arith, inl, inr, length-append, append-nil, append_assoc, suc, take, get_or, length-take}
use Rattle.std.proofs.lemmas.Bool.Decides.{nat_tests}
use Rattle.std.proofs.lemmas.List.{take_more}
use Rattle.std.specs.List.{All}
use Rattle.std.specs.Option.{option_to_list}
use Rattle.stamp_text.specs.declared.lines.Line.{Line}
use Rattle.stamp_text.specs.declared.lines.Line.TheVariants as gives
use Rattle.stamp_text.specs.declared.lines.LineFault.{LineFault}
use Rattle.stamp_text.specs.declared.lines.Stamp.{Stamp}
use Rattle.stamp_text.specs.declared.lines.Why.TheVariants as why
use Rattle.stamp_text.specs.Cut.{without_return}
use Rattle.stamp_text.specs.Grammar.{freq_says, is_second, short_says, version_says, fault_so_far, given}
use Rattle.stamp_text.specs.Kept.{Kept, IsAt, StandsFor, AnswersByte, AnswersBytes, IsFaultOfAll}
use Rattle.stamp_text.specs.FeedSteps.{line_number, at_line, sound_answer, unless_faulty, step_answer, second_after, step_kept}
use Rattle.stamp_text.specs.Pieces.{BeginsWithLine}
use Rattle.stamp_text.specs.Turns.{TakesSilently, AnswersInTurn}
use Rattle.stamp_text.proofs.FeedLaws.{step_answers, step_stands, fault-stays-all}
use Rattle.stamp_text.proofs.EndLaws.{end-faulty}
use Rattle.stamp_text.proofs.GivenLaws.{given-faulty}
use Rattle.stamp_text.proofs.RangeLaws.{GivesInRange, step-in-range}

-- what is known behind bytes to which nothing was answered
pub record Passed (new : Kept) (text bytes : List ℕ) : Type 0 where
  pub stands : StandsFor new (text ++ bytes)
  pub same : given (text ++ bytes) ≡ given text

-- bytes that are taken silently give nothing, and the reader stands for the text with them
pub silent-stands : (old new : Kept) (bytes text : List ℕ) → length text + length bytes < 2 ^ 62 → StandsFor old text → TakesSilently old bytes new
    → Passed new text bytes
silent-stands old new [] text short at same = record {
  stands = subst (StandsFor new) (sym (append-nil text)) (subst (λ k. StandsFor k text) (sym same) at);
  same = ap given (append-nil text);
}
silent-stands old new (b ∷ bs) text short at p =
    let few : length text < 2 ^ 62 = omega arith in
    let mid = step_kept old b (Ok None) in
    let one : AnswersByte text b (Ok None) = subst (AnswersByte text b) p.0 (step_answers old text b few at) in
    let here : StandsFor mid (text ++ b ∷ []) = subst (λ r. StandsFor (step_kept old b r) (text ++ b ∷ [])) p.0 (step_stands old text b few at) in
    let rest = silent-stands mid new bs (text ++ b ∷ []) (omega (arith, length-append text (b ∷ []))) here p.1 in
    let e : (text ++ b ∷ []) ++ bs ≡ text ++ (b ∷ bs) = append_assoc text (b ∷ []) bs in
    record {
      stands = subst (StandsFor new) e rest.stands;
      same = ap given (sym e) ∙ rest.same ∙ one.1 ∙ append-nil (given text);
    }

-- the answer to such bytes
passed-answers : (fault : Option LineFault) (ended : ℕ) (second : Bool) (line text bytes : List ℕ) → MatchOption fault
    (IsAt ended second line (text ++ bytes)) (λ f. fault_so_far (text ++ bytes) ≡ Some f) → given (text ++ bytes) ≡ given text
    → AnswersBytes text bytes (unless_faulty fault (Ok None))
passed-answers None ended second line text bytes at same = (at.sound, same ∙ sym (append-nil (given text)))
passed-answers (Some f) ended second line text bytes found same = (found, same)

-- the answer to a last byte
last-answers : (text front : List ℕ) (b : ℕ) (r : Result (Option Line) LineFault) → given (text ++ front) ≡ given text
    → AnswersByte (text ++ front) b r → AnswersBytes text (front ++ b ∷ []) r
last-answers text front b (Ok o) same a =
    let e : (text ++ front) ++ b ∷ [] ≡ text ++ (front ++ b ∷ []) = append_assoc text front (b ∷ []) in
    (ap fault_so_far (sym e) ∙ a.0, ap given (sym e) ∙ a.1 ∙ ap (λ (xs : List Line). xs ++ option_to_list o) same)
last-answers text front b (Err f) same a =
    let e : (text ++ front) ++ b ∷ [] ≡ text ++ (front ++ b ∷ []) = append_assoc text front (b ∷ []) in
    (ap fault_so_far (sym e) ∙ a, ap given (sym e) ∙ given-faulty (text ++ front) b f a ∙ same)

-- what is known behind bytes that are answered
pub record Turned (new : Kept) (text bytes : List ℕ) (r : Result (Option Line) LineFault) : Type 0 where
  pub answer : AnswersBytes text bytes r
  pub stands : StandsFor new (text ++ bytes)

-- the answer to bytes in turn is the grammar's
pub turn_answers : (old new : Kept) (bytes : List ℕ) (r : Result (Option Line) LineFault) (text : List ℕ) → length text + length bytes < 2 ^ 62
    → StandsFor old text → AnswersInTurn old bytes r new → Turned new text bytes r
turn_answers old new bytes r text short at (inl p) =
    let passed = silent-stands old new bytes text short at p.0 in
    record {
      answer = subst (AnswersBytes text bytes) (sym p.1) (passed-answers new.fault new.ended new.second new.line text bytes passed.stands passed.same);
      stands = passed.stands;
    }
turn_answers old new bytes r text short at (inr e) =
    let size : length bytes ≡ length e.front + 1 = ap length e.split ∙ length-append e.front (e.last ∷ []) in
    let passed = silent-stands old e.mid e.front text (omega arith) at e.silent in
    let few : length (text ++ e.front) < 2 ^ 62 = omega (arith, length-append text e.front) in
    let one : AnswersByte (text ++ e.front) e.last r = subst (AnswersByte (text ++ e.front) e.last) (sym e.answer)
    (step_answers e.mid (text ++ e.front) e.last few passed.stands) in
    let here : StandsFor (step_kept e.mid e.last r) ((text ++ e.front) ++ e.last ∷ []) = subst
    (λ r. StandsFor (step_kept e.mid e.last r) ((text ++ e.front) ++ e.last ∷ [])) (sym e.answer)
    (step_stands e.mid (text ++ e.front) e.last few passed.stands) in
    record {
      answer = subst (λ bs. AnswersBytes text bs r) (sym e.split) (last-answers text e.front e.last r passed.same one);
      stands = subst (λ k. StandsFor k (text ++ bytes)) (sym e.after)
          (subst (StandsFor (step_kept e.mid e.last r)) (append_assoc text e.front (e.last ∷ []) ∙ ap (λ (bs : List ℕ). text ++ bs) (sym e.split)) here);
    }

-- a fault that is answered is the fault of each file that goes on from there
pub turn_refused : (old new : Kept) (bytes : List ℕ) (r : Result (Option Line) LineFault) (most : ℕ) → length bytes ≤ most
    → AnswersInTurn old bytes r new → IfErr r (λ f. (text : List ℕ) → length text + most < 2 ^ 62 → StandsFor old text → IsFaultOfAll (text ++ bytes) f)
turn_refused old new bytes (Ok o) most few t = tt
turn_refused old new bytes (Err f) most few t = λ text short at more. end-faulty ((text ++ bytes) ++ more) f
    (fault-stays-all (text ++ bytes) more f (turn_answers old new bytes (Err f) text (omega arith) at t).answer.0)

nothing-in-range : (fault : Option LineFault) → GivesInRange (unless_faulty fault (Ok None))
nothing-in-range None = tt
nothing-in-range (Some f) = tt

-- what is answered to bytes in turn is in range
pub turn-in-range : (old new : Kept) (bytes : List ℕ) (r : Result (Option Line) LineFault) → AnswersInTurn old bytes r new → GivesInRange r
turn-in-range old new bytes r (inl p) = subst GivesInRange (sym p.1) (nothing-in-range new.fault)
turn-in-range old new bytes r (inr e) = subst GivesInRange (sym e.answer) (step-in-range e.mid e.last)

nothing-kept : (fault : Option LineFault) (f : LineFault) → Err f ≡ unless_faulty fault (Ok None) → fault ≡ Some f
nothing-kept None f e = absurd (cc)
nothing-kept (Some g) f e = cc

-- a fault that is answered is kept
pub turn_kept : (old new : Kept) (bytes : List ℕ) (r : Result (Option Line) LineFault) → AnswersInTurn old bytes r new → IfErr r (λ f. new.fault ≡ Some f)
turn_kept old new bytes (Ok o) t = tt
turn_kept old new bytes (Err f) (inl p) = nothing-kept new.fault f p.1
turn_kept old new bytes (Err f) (inr e) = ap (λ k. k.fault) e.after

-- a byte that is no line feed, where the line has room
plain_byte : (k : Kept) (b : ℕ) → k.fault ≡ None → b ≢ 10 → length k.line < 255 → step_answer k b ≡ Ok None
unfolding step_answer
plain_byte k b none other room =
    let not_feed : eqb b 10 ≡ false = grind (arith, nat_tests) in
    let not_full : eqb (length k.line) 255 ≡ false = grind (arith, nat_tests) in
    let m = line_number k.ended in
    let long : Result (Option Line) LineFault = Err (record { line = m; why = why.LongLine }) in
    ap (λ f. unless_faulty f (sound_answer k.second m k.line b)) none
    ∙ ap (λ t. cond t (at_line m (short_says k.second m k.line)) (cond (eqb (length k.line) 255) long (Ok None))) not_feed
    ∙ ap (λ t. cond t long (Ok None)) not_full

-- nothing is answered to bytes that are no line feeds, where the line has room for them
pub plain_silent : (k : Kept) (bs : List ℕ) → k.fault ≡ None → All (λ b. b ≢ 10) bs → length k.line + length bs ≤ 255
    → TakesSilently k bs (record k { line = k.line ++ bs })
plain_silent k [] none all room = ap (λ l. record k { line = l }) (append-nil k.line)
plain_silent k (b ∷ bs) none all room =
    let not_feed : eqb b 10 ≡ false = let other : b ≢ 10 = all 0 0 (omega arith) in grind (arith, nat_tests) in
    let step : step_kept k b (Ok None) ≡ record k { line = k.line ++ b ∷ [] } = ap
    (λ t. cond t (record { ended = line_number k.ended; second = second_after k.ended k.second k.line; line = []; fault = k.fault })
    (record k { line = k.line ++ b ∷ [] })) not_feed in
    let mid : Kept = record k { line = k.line ++ b ∷ [] } in
    let rest = plain_silent mid bs none (λ j d h. all (suc j) d (omega arith)) (omega (arith, length-append k.line (b ∷ []))) in
    let whole : TakesSilently mid bs (record k { line = k.line ++ (b ∷ bs) }) = subst (λ l. TakesSilently mid bs (record k { line = l }))
    (append_assoc k.line (b ∷ []) bs) rest in
    (plain_byte k b none (all 0 0 (omega arith)) (omega arith), subst (λ m. TakesSilently m bs (record k { line = k.line ++ (b ∷ bs) })) (sym step) whole)

-- what is known behind bytes that were added
pub record Added (old : Kept) (bytes : List ℕ) (new : Kept) : Type 0 where
  pub silent : TakesSilently old bytes new
  pub sound : new.fault ≡ None

-- the first bytes of more, which are no line feeds, were added
pub plain_front : (old new : Kept) (more : List ℕ) (n : ℕ) → old.fault ≡ None → n ≤ length more → length old.line + n ≤ 255
    → All (λ b. b ≢ 10) (take n more) → new ≡ record old { line = old.line ++ take n more } → Added old (take n more) new
plain_front old new more n none within room plain is = record {
  silent = subst (TakesSilently old (take n more)) (sym is) (plain_silent old (take n more) none plain (omega (arith, length-take n more)));
  sound = ap (λ k. k.fault) is ∙ none;
}

-- the answer to a whole line and its line feed, where no line was open
pub whole_turn : (old new : Kept) (more : List ℕ) (n : ℕ) (r : Result (Option Line) LineFault) → old.fault ≡ None → old.line ≡ [] → n < length more
    → get_or more n 0 ≡ 10 → length old.line + n ≤ 255 → All (λ b. b ≢ 10) (take n more) → r ≡ step_answer (record old { line = take n more }) 10
    → new ≡ step_kept (record old { line = take n more }) 10 r → AnswersInTurn old (take (n + 1) more) r new
whole_turn old new more n r none empty within feed room plain answer after = inr (record {
  front = take n more;
  last = 10;
  mid = record old { line = take n more };
  split = take_more more n 0 within ∙ ap (λ b. take n more ++ b ∷ []) feed;
  silent = subst (λ (l : List ℕ). TakesSilently old (take n more) (record old { line = l ++ take n more })) empty
      (plain_silent old (take n more) none plain (omega (arith, room, length-take n more)));
  answer = answer;
  after = after;
})

-- a byte of a line is no line feed
above_feed : (xs : List ℕ) → All (λ b. 32 ≤ b) xs → All (λ b. b ≢ 10) xs
above_feed xs inner k d l = let high : 32 ≤ get_or xs k d = inner k d l in omega arith

-- behind the first line the version stays
pub second-stays : (ended : ℕ) (second : Bool) (line : List ℕ) → 0 < ended → second_after ended second line ≡ second
second-stays ended second line late =
    let other : eqb ended 0 ≡ false = grind (arith, nat_tests) in
    ap (λ t. cond t (is_second (without_return line)) second) other

-- the answer to a line that gives this and its line feed, where no line was open
said_turn : (old new : Kept) (more : List ℕ) (n k : ℕ) (o : Option Line) → old.fault ≡ None → old.line ≡ [] → 2 ≤ old.ended → n < length more
    → get_or more n 0 ≡ 10 → n ≤ 255 → All (λ b. b ≢ 10) (take n more) → k ≡ line_number old.ended → short_says old.second k (take n more) ≡ Ok o
    → new ≡ record old { ended = k } → AnswersInTurn old (take (n + 1) more) (Ok o) new
unfolding step_answer
said_turn old new more n k o none empty late within feed room plain is says after =
    let bytes : List ℕ = take n more in
    let answer : Ok o ≡ unless_faulty old.fault (at_line (line_number old.ended) (short_says old.second (line_number old.ended) bytes)) =
    sym (ap (λ f. unless_faulty f (at_line (line_number old.ended) (short_says old.second (line_number old.ended) bytes))) none
    ∙ ap (λ j. at_line j (short_says old.second j bytes)) (sym is) ∙ ap (at_line k) says) in
    let same : second_after old.ended old.second bytes ≡ old.second = second-stays old.ended old.second bytes (omega arith) in
    let kept : new ≡ record { ended = line_number old.ended; second = second_after old.ended old.second bytes; line = []; fault = old.fault } = after
    ∙ ap (λ j. record old { ended = j }) is ∙ ap (λ (l : List ℕ). record {
      ended = line_number old.ended;
      second = old.second;
      line = l;
      fault = old.fault;
    }) empty ∙ ap (λ v. record { ended = line_number old.ended; second = v; line = []; fault = old.fault }) (sym same) in
    whole_turn old new more n (Ok o) none empty within feed (omega (arith, ap length empty)) plain answer kept

-- the answer to a stamp line and its line feed, where no line was open
pub stamp_turn : (old new : Kept) (more : List ℕ) (n k : ℕ) (s : Stamp) → old.fault ≡ None → old.line ≡ [] → 2 ≤ old.ended → n < length more
    → get_or more n 0 ≡ 10 → BeginsWithLine old.second more (Ok s) n → k ≡ line_number old.ended → new ≡ record old { ended = k }
    → AnswersInTurn old (take (n + 1) more) (Ok (Some (gives.Stamp k s))) new
stamp_turn old new more n k s none empty late within feed line is after = said_turn old new more n k (Some (gives.Stamp k s)) none empty late within
    feed line.room (above_feed (take n more) line.inner) is (line.says k (omega arith)) after

-- an empty line from 3 on gives nothing
empty-says : (second : Bool) (k : ℕ) → 2 < k → short_says second k [] ≡ Ok None
empty-says second k late =
    let not_first : eqb k 1 ≡ false = grind (arith, nat_tests) in
    let not_next : eqb k 2 ≡ false = grind (arith, nat_tests) in
    ap (λ t. cond t (version_says []) (cond (eqb k 2) (freq_says second []) (Ok None))) not_first
    ∙ ap (λ t. cond t (freq_says second []) (Ok None)) not_next

-- the answer to the line feed of an empty line
pub empty_turn : (old new : Kept) (more : List ℕ) (k : ℕ) → old.fault ≡ None → old.line ≡ [] → 2 ≤ old.ended → 0 < length more
    → get_or more 0 0 ≡ 10 → k ≡ line_number old.ended → new ≡ record old { ended = k } → AnswersInTurn old (take 1 more) (Ok None) new
empty_turn old new more k none empty late some feed is after =
    said_turn old new more 0 k None none empty late some feed (omega arith) (λ j d l. absurd (omega arith)) is
    (empty-says old.second k (omega arith)) after
