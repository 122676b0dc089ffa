-- Bytes that are taken at once.
use Rattle.std.proofs.Common.{◌≡◌, ⊎_elim, ℕ, ◌+◌, ◌<◌, ◌≤◌, Bool, true, false, cond, ltb, MatchOption, IfErr, Option, None, Some, Result, Ok, Err, List, [], ◌∷◌, ◌++◌, length, take, drop, refl, sym, ap, subst, ◌∙◌, arith, length-append, length-take}
use Rattle.std.proofs.lemmas.Bool.{cases_lt}
use Rattle.std.proofs.lemmas.Bool.Decides.{nat_tests}
use Rattle.std.proofs.lemmas.List.{append-nil, nil_from_length, take-append-drop}
use Rattle.ntp_capture.specs.Cut.{size_of, units_of}
use Rattle.ntp_capture.specs.Grammar.{refusal_in, fault_at, piece_in, place_of, fault_so_far, given}
use Rattle.ntp_capture.specs.Kept.{Kept, IsAt, StandsFor, AnswersBytes, AreSilent, IsTurn, IsFaultOfAll}
use Rattle.ntp_capture.specs.Steps.{field_end, with_bytes, sound_answer, unless_faulty, answer_of, kept_behind}
use Rattle.ntp_capture.specs.declared.pieces.CapFault.{CapFault}
use Rattle.ntp_capture.specs.declared.pieces.Piece.{Piece}
use Rattle.ntp_capture.proofs.FieldLaws.{size-some, size-long, refusal-quiet, refusal-front, refusal-long, piece-long, sound-packet, at-front}
use Rattle.ntp_capture.proofs.CutLaws.{last-is-open, bytes-of}
use Rattle.ntp_capture.proofs.GrammarLaws.{IsSound, sound-by, grown, in_head, open-fault, open-given}
use Rattle.ntp_capture.proofs.ReaderLaws.{Answered, kept_of, kept-more, turn}
use Rattle.ntp_capture.proofs.StayLaws.{refused-stays, fault-of-all}

-- bytes that do not end the unit, which is not refused
pub silent : (t v : List ℕ) → IsSound t → refusal_in (in_head t) (grown t v) ≡ None → length (grown t v) < size_of (in_head t) (grown t v) → AreSilent t v
silent t v sound none short =
    (open-fault t v sound short ∙ ap (fault_at (place_of (units_of t))) none, open-given t v short ∙ sym (append-nil (given t)))

size-first : (u : List ℕ) → length u < 11 → size_of false u ≡ 11
unfolding size_of
size-first u few = grind (arith, nat_tests)

size-head : (u : List ℕ) → size_of true u ≡ 16
unfolding size_of
size-head u = refl

-- bytes within a field leave the unit within its size
pub within-field : (h : Bool) (u v : List ℕ) → length u < size_of h u → length u + length v ≤ field_end h (length u) (size_of h u)
    → length (u ++ v) ≤ size_of h (u ++ v)
within-field true u v inner field =
    let n = length-append u v in
    let a = size-head u in
    let b = size-head (u ++ v) in
    grind (arith, nat_tests)
within-field false u v inner field =
    let n = length-append u v in
    let some = size-some false (u ++ v) in
    ⊎_elim
    (λ few. let a = size-first u few in let low : field_end false (length u) (size_of false u) ≤ 11 = grind (arith, nat_tests) in omega arith)
    (λ many. let a = size-long false u v many in let low : field_end false (length u) (size_of false u) ≤ size_of false u =
    grind (arith, nat_tests) in omega arith)
    (cases_lt (length u) 11)

pub inside-field : (h : Bool) (u v : List ℕ) → length u < size_of h u → length u + length v < field_end h (length u) (size_of h u)
    → length (u ++ v) < size_of h (u ++ v)
inside-field true u v inner field =
    let n = length-append u v in
    let a = size-head u in
    let b = size-head (u ++ v) in
    grind (arith, nat_tests)
inside-field false u v inner field =
    let n = length-append u v in
    let some = size-some false (u ++ v) in
    ⊎_elim
    (λ few. let a = size-first u few in let low : field_end false (length u) (size_of false u) ≤ 11 = grind (arith, nat_tests) in omega arith)
    (λ many. let a = size-long false u v many in let low : field_end false (length u) (size_of false u) ≤ size_of false u =
    grind (arith, nat_tests) in omega arith)
    (cases_lt (length u) 11)

-- bytes inside a field are silent
pub silent-inside : (t v : List ℕ) → IsSound t → length (units_of t).last + length v < field_end (in_head t) (length (units_of t).last)
    (size_of (in_head t) (units_of t).last) → AreSilent t v
silent-inside t v sound inside =
    silent t v sound (refusal-quiet (in_head t) (units_of t).last v inside ∙ sound.last) (inside-field (in_head t) (units_of t).last v (last-is-open t) inside)

-- a reader without a fault
pub at-by : (k : Kept) (t : List ℕ) → k.fault ≡ None → StandsFor k t → IsAt k t
at-by k t none stands = subst (λ f. MatchOption f (IsAt k t) (λ f. fault_so_far t ≡ Some f)) none stands

-- bytes of the next field are taken
pub part_turn : (old mid new : Kept) (t more : List ℕ) (n : ℕ) (r : Result (Option Piece) CapFault) → old.fault ≡ None → StandsFor old t
    → n ≤ length more → (old.seen < size_of old.is_head old.front → old.seen + n ≤ field_end old.is_head old.seen (size_of old.is_head old.front))
    → mid ≡ with_bytes old (take n more) → r ≡ answer_of mid → new ≡ kept_behind mid r → IsTurn t (take n more) r new
part_turn old mid new t more n r none stands here field mid-is r-is new-is =
    let at = at-by old t none stands in
    let sound = sound-by t at.sound in
    let v = take n more in
    let last = (units_of t).last in
    let h = in_head t in
    let count : length v ≡ n = omega (arith, length-take n more) in
    let size : size_of old.is_head old.front ≡ size_of h last = ap (λ h. size_of h old.front) at.head ∙ ap (size_of h) at.front
    ∙ at-front (size_of h) (λ a b long. size-long h a b (omega arith)) last in
    let P : ℕ → Bool → ℕ → Type 0 = λ seen h size. seen < size → seen + n ≤ field_end h seen size in
    let same : P (length last) h (size_of h last) = subst (λ s. P s h (size_of h last)) at.seen
    (subst (λ h'. P old.seen h' (size_of h last)) at.head (subst (P old.seen old.is_head) size field)) in
    let inner = last-is-open t in
    let ends : length last + length v ≤ field_end h (length last) (size_of h last) =
    subst (λ n. length last + n ≤ field_end h (length last) (size_of h last)) (sym count) (same inner) in
    let done = turn t v sound (within-field h last v inner ends) in
    let kept : mid ≡ kept_of t v = mid-is ∙ kept-more old t v none at in
    let r-kept : answer_of (kept_of t v) ≡ r = sym (r-is ∙ ap answer_of kept) in
    let new-kept : kept_behind (kept_of t v) (answer_of (kept_of t v)) ≡ new = ap (kept_behind (kept_of t v)) r-kept
    ∙ ap (λ k. kept_behind k r) (sym kept) ∙ sym new-is in
    record {
      answer = subst (AnswersBytes t v) r-kept done.answers;
      silent = λ j below. silent-inside t (take j v) sound (let m : length (take j v) ≡ j = omega (arith, length-take j v) in omega arith);
      after = subst (λ k. StandsFor k (t ++ v)) new-kept done.stands;
    }

-- a whole record is taken, where no unit is open
pub record_turn : (old new : Kept) (t more : List ℕ) (size : ℕ) (p : Piece) → old.fault ≡ None → StandsFor old t → old.is_head ≡ false → old.seen ≡ 0
    → 11 ≤ length more → size ≡ size_of false more → size ≤ length more → refusal_in false more ≡ None → p ≡ piece_in false more
    → new ≡ record old { place = old.place + size } → IsTurn t (take size more) (Ok (Some p)) new
record_turn old new t more size p none stands record-at nothing long size-is here sound-more p-is new-is =
    let at = at-by old t none stands in
    let sound = sound-by t at.sound in
    let v = take size more in
    let us = units_of t in
    let h = in_head t in
    let empty : us.last ≡ [] = nil_from_length us.last (sym at.seen ∙ nothing) in
    let is : grown t v ≡ v = ap (λ (l : List ℕ). l ++ v) empty in
    let head : h ≡ false = sym at.head ∙ record-at in
    let parts : v ++ drop size more ≡ more = take-append-drop size more in
    let enough = sound-packet more sound-more long in
    let count : length v ≡ size = omega (arith, length-take size more) in
    let sized : size_of false v ≡ size = sym (size-long false v (drop size more) (omega arith)) ∙ ap (size_of false) parts ∙ sym size-is in
    let unrefused : refusal_in false v ≡ None = refusal-front false v (drop size more) (ap (refusal_in false) parts ∙ sound-more) in
    let piece : piece_in false v ≡ p = sym (piece-long false v (drop size more) (omega arith)) ∙ ap (piece_in false) parts ∙ sym p-is in
    let whole : length (grown t v) ≤ size_of h (grown t v) =
    subst (λ u. length u ≤ size_of h u) (sym is) (subst (λ h. length v ≤ size_of h v) (sym head) (omega arith)) in
    let done = turn t v sound whole in
    let kept : Kept = record { place = place_of us; is_head = false; seen = size; front = take 59 v; fault = None } in
    let kept-is : kept_of t v ≡ kept =
    ap (λ (u : List ℕ). record { place = place_of us; is_head = h; seen = length u; front = take 59 u; fault = None }) is
    ∙ ap (λ h. record { place = place_of us; is_head = h; seen = length v; front = take 59 v; fault = None }) head
    ∙ ap (λ n. record { place = place_of us; is_head = false; seen = n; front = take 59 v; fault = None }) count in
    let front-refusal : refusal_in false (take 59 v) ≡ None = at-front (refusal_in false) (λ a b long. refusal-long false a b (omega arith)) v ∙ unrefused in
    let front-size : size_of false (take 59 v) ≡ size = at-front (size_of false) (λ a b long. size-long false a b (omega arith)) v ∙ sized in
    let front-piece : piece_in false (take 59 v) ≡ p = at-front (piece_in false) (λ a b long. piece-long false a b long) v ∙ piece in
    let test : ltb size (size_of false (take 59 v)) ≡ false = grind (arith, nat_tests) in
    let answer : answer_of (kept_of t v) ≡ Ok (Some p) =
    ap answer_of kept-is
    ∙ ap (λ r. unless_faulty (fault_at (place_of us) r) (sound_answer kept)) front-refusal
    ∙ ap (λ b. cond b (Ok None) (Ok (Some (piece_in false (take 59 v))))) test
    ∙ ap (λ p. Ok (Some p)) front-piece in
    let behind : kept_behind (kept_of t v) (answer_of (kept_of t v)) ≡ new =
    ap (kept_behind (kept_of t v)) answer ∙ ap (λ k. kept_behind k (Ok (Some p))) kept-is
    ∙ (let front : old.front ≡ [] = at.front ∙ ap (take 59) empty in let place : place_of us + size ≡ old.place + size =
    ap (λ n. n + size) (sym at.place) in cc) in
    record {
      answer = subst (AnswersBytes t v) answer done.answers;
      silent = λ j below.
          let u = take j v in
          let w = drop j v in
          let split : u ++ w ≡ v = take-append-drop j v in
          let short : length u ≡ j = omega (arith, length-take j v) in
          let fine : refusal_in false u ≡ None = refusal-front false u w (ap (refusal_in false) split ∙ unrefused) in
          let inner : length u < size_of false u = ⊎_elim
          (λ few. omega (arith, size-some false u))
          (λ many. let same : size_of false u ≡ size = sym (size-long false u w many) ∙ ap (size_of false) split ∙ sized in omega arith)
          (cases_lt (length u) 11) in
          let grows : grown t u ≡ u = ap (λ (l : List ℕ). l ++ u) empty in
          silent t u sound
          (ap (refusal_in h) grows ∙ ap (λ h. refusal_in h u) head ∙ fine)
          (subst (λ x. length x < size_of h x) (sym grows) (subst (λ h. length u < size_of h u) (sym head) inner));
      after = subst (λ k. StandsFor k (t ++ v)) behind done.stands;
    }

-- a fault is told again
pub fault_turn : (old : Kept) (t : List ℕ) (f : CapFault) → old.fault ≡ Some f → StandsFor old t → IsTurn t [] (Err f) old
fault_turn old t f is stands =
    let fault : fault_so_far t ≡ Some f = subst (λ o. MatchOption o (IsAt old t) (λ f. fault_so_far t ≡ Some f)) is stands in
    let stays = refused-stays t [] f fault in
    record { answer = (stays.fault, stays.given); silent = λ n below. absurd (omega arith); after = subst (StandsFor old) (sym (append-nil t)) stands }

-- one byte
pub byte_turn : (old new : Kept) (t : List ℕ) (b n : ℕ) (r : Result (Option Piece) CapFault) → StandsFor old t → n ≤ 1 → (old.fault ≡ None → 0 < n)
    → ((f : CapFault) → old.fault ≡ Some f → (r ≡ Err f) × (new ≡ old)) → IsTurn t (take n (b ∷ [])) r new → Answered t (b ∷ []) r new
byte_turn old new t b n r stands few some again turn =
    let split : (o : Option CapFault) → old.fault ≡ o → Answered t (b ∷ []) r new =
    elim [
      | None ↦ λ none.
          let one : n ≡ 1 = omega (arith, some none) in
          let bytes : take n (b ∷ []) ≡ b ∷ [] = ap (λ n. take n (b ∷ [])) one in
          record {
            answers = subst (λ (v : List ℕ). AnswersBytes t v r) bytes turn.answer;
            stands =
                subst (λ (v : List ℕ). StandsFor new (t ++ v)) bytes turn.after;
          }
      | Some f ↦ λ is.
          let fault : fault_so_far t ≡ Some f = subst (λ o. MatchOption o (IsAt old t) (λ f. fault_so_far t ≡ Some f)) is stands in
          let stays = refused-stays t (b ∷ []) f fault in
          record {
            answers = subst (AnswersBytes t (b ∷ [])) (sym (again f is).0) (stays.fault, stays.given);
            stands = subst (λ k. StandsFor k (t ++ b ∷ [])) (sym (again f is).1)
                (subst (λ o. MatchOption o (IsAt old (t ++ b ∷ [])) (λ f. fault_so_far (t ++ b ∷ []) ≡ Some f)) (sym is) stays.fault);
          }
    ] in
    split old.fault refl

-- where each text has its answer, a fault that is answered is that of each capture that begins so
pub refused_by : (Short Stands : List ℕ → Type 0) (v : List ℕ) (r : Result (Option Piece) CapFault)
    → ((text : List ℕ) → Short text → Stands text → AnswersBytes text v r)
    → IfErr r (λ f. (text : List ℕ) → Short text → Stands text → IsFaultOfAll (text ++ v) f)
refused_by Short Stands v (Ok o) answers = tt
refused_by Short Stands v (Err f) answers = λ text short stands. fault-of-all (text ++ v) f (answers text short stands).0

-- the bytes of the text
pub read_so_far : (k : Kept) (t : List ℕ) → IsAt k t → k.place + k.seen ≡ length t
read_so_far k t at = omega (arith, bytes-of t, at.place, at.seen)
