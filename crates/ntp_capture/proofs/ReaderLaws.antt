-- What a reader answers by what it keeps is what the grammar says of the text.
use Rattle.std.proofs.Common.{◌≡◌, ℕ, ◌+◌, ◌<◌, ◌≤◌, Bool, true, false, cond, ltb, Option, None, Some, Result, Ok, List, [], ◌∷◌, ◌++◌, length, take, refl, sym, ap, subst, ◌∙◌, ⊎_elim, arith, length-append, length-take}
use Rattle.std.proofs.lemmas.Bool.{cases_lt}
use Rattle.std.proofs.lemmas.Bool.Decides.{nat_tests}
use Rattle.std.proofs.lemmas.List.{append-nil, take-append-le, take-take, take_all}
use Rattle.std.proofs.lemmas.List.Sums.{sum_by_push}
use Rattle.ntp_capture.specs.Cut.{size_of, left_head, units_of}
use Rattle.ntp_capture.specs.Grammar.{refusal_in, fault_at, piece_in, given_on, place_of, given}
use Rattle.ntp_capture.specs.Kept.{Kept, IsAt, StandsFor, AnswersBytes}
use Rattle.ntp_capture.specs.Steps.{with_bytes, sound_answer, unless_faulty, answer_of, kept_behind}
use Rattle.ntp_capture.specs.declared.pieces.CapFault.{CapFault}
use Rattle.ntp_capture.specs.declared.pieces.CapWhy.{CapWhy}
use Rattle.ntp_capture.specs.declared.pieces.Piece.{Piece}
use Rattle.ntp_capture.proofs.FieldLaws.{size-long, refusal-long, piece-long, at-front}
use Rattle.ntp_capture.proofs.CutLaws.{more-open, more-whole}
use Rattle.ntp_capture.proofs.GrammarLaws.{IsSound, grown, in_head, open-fault, open-given, whole-fault, whole-given}

-- the answer to more bytes and what is then kept, where both are right
pub record Answered (t v : List ℕ) (r : Result (Option Piece) CapFault) (new : Kept) : Type 0 where
  pub answers : AnswersBytes t v r
  pub stands : StandsFor new (t ++ v)

-- what a reader keeps that has read a text without a fault, and then bytes of the same unit
abbrev pub kept_of : List ℕ → List ℕ → Kept
kept_of t v = record { place = place_of (units_of t); is_head = in_head t; seen = length (grown t v); front = take 59 (grown t v); fault = None }

front-more : (xs v : List ℕ) → take 59 (take 59 xs ++ v) ≡ take 59 (xs ++ v)
front-more xs v = ⊎_elim
    (λ long. take-append-le 59 (take 59 xs) v (omega (arith, length-take 59 xs)) ∙ take-take 59 59 xs (omega arith)
    ∙ sym (take-append-le 59 xs v (omega arith)))
    (λ short. ap (λ (ys : List ℕ). take 59 (ys ++ v)) (take_all 59 xs short))
    (cases_lt 59 (length xs))

pub kept-more : (k : Kept) (t v : List ℕ) → k.fault ≡ None → IsAt k t → with_bytes k v ≡ kept_of t v
kept-more k t v none at =
    let last = (units_of t).last in
    let seen : k.seen + length v ≡ length (grown t v) = omega (arith, at.seen, length-append last v) in
    let front : take 59 (k.front ++ v) ≡ take 59 (grown t v) = ap (λ (xs : List ℕ). take 59 (xs ++ v)) at.front ∙ front-more last v in
    let place : k.place ≡ place_of (units_of t) = at.place in
    let head : k.is_head ≡ in_head t = at.head in
    cc

head-behind : (h : Bool) (es : List (List ℕ)) (u : List ℕ) → left_head h (es ++ u ∷ []) ≡ false
head-behind h [] u = refl
head-behind h (e ∷ es) u = refl

-- bytes behind a text that end the unit at most
pub turn : (t v : List ℕ) → IsSound t → length (grown t v) ≤ size_of (in_head t) (grown t v)
    → Answered t v (answer_of (kept_of t v)) (kept_behind (kept_of t v) (answer_of (kept_of t v)))
turn t v sound within =
    let us = units_of t in
    let u = grown t v in
    let h = in_head t in
    let place = place_of us in
    let A : Result (Option Piece) CapFault → Type 0 = λ r. Answered t v r (kept_behind (kept_of t v) r) in
    let refused : refusal_in h (take 59 u) ≡ refusal_in h u = at-front (refusal_in h) (λ a b long. refusal-long h a b (omega arith)) u in
    let sized : size_of h (take 59 u) ≡ size_of h u = at-front (size_of h) (λ a b long. size-long h a b (omega arith)) u in
    let said : piece_in h (take 59 u) ≡ piece_in h u = at-front (piece_in h) (λ a b long. piece-long h a b long) u in
    let by : (r : Option (ℕ × CapWhy)) → refusal_in h u ≡ r → (b : Bool) → ltb (length u) (size_of h u) ≡ b
    → A (unless_faulty (fault_at place r) (cond b (Ok None) (Ok (Some (piece_in h u))))) =
    elim [
      | Some (n, w) ↦ λ e. elim [
        | true ↦ λ test.
            let short : length u < size_of h u = grind (arith, nat_tests) in
            let f = open-fault t v sound short ∙ ap (fault_at place) e in
            record { answers = (f, open-given t v short); stands = f }
        | false ↦ λ test.
            let is : length u ≡ size_of h u = grind (arith, nat_tests) in
            let f = whole-fault t v sound is ∙ ap (fault_at place) e in
            record { answers = (f, whole-given t v sound is ∙ ap (λ r. given t ++ given_on r (piece_in h u) []) e ∙ append-nil (given t)); stands = f }
      ]
      | None ↦ λ e. elim [
        | true ↦ λ test.
            let short : length u < size_of h u = grind (arith, nat_tests) in
            let f = open-fault t v sound short ∙ ap (fault_at place) e in
            let more = more-open t v short in
            record {
              answers = (f, open-given t v short ∙ sym (append-nil (given t)));
              stands = record {
                sound = f;
                place = ap place_of (sym more);
                head = ap (λ us. left_head true us.ended) (sym more);
                seen =
                    ap (λ us. length us.last) (sym more);
                front = ap (λ us. take 59 us.last) (sym more);
              };
            }
        | false ↦ λ test.
            let is : length u ≡ size_of h u = grind (arith, nat_tests) in
            let f = whole-fault t v sound is ∙ ap (fault_at place) e in
            let more = more-whole t v is in
            record {
              answers = (f, whole-given t v sound is ∙ ap (λ r. given t ++ given_on r (piece_in h u) []) e);
              stands = record {
                sound = f;
                place = sym (sum_by_push length us.ended u) ∙ ap place_of (sym more);
                head =
                    sym (head-behind true us.ended u) ∙ ap (λ us. left_head true us.ended) (sym more);
                seen =
                    ap (λ us. length us.last) (sym more);
                front = ap (λ us. take 59 us.last) (sym more);
              };
            }
      ]
    ] in
    let whole = by (refusal_in h u) refl (ltb (length u) (size_of h u)) refl in
    subst A (ap (λ n. unless_faulty (fault_at place (refusal_in h u)) (cond (ltb (length u) n) (Ok None) (Ok (Some (piece_in h u))))) (sym sized)
    ∙ ap (λ p. unless_faulty (fault_at place (refusal_in h u)) (cond (ltb (length u) (size_of h (take 59 u))) (Ok None) (Ok (Some p)))) (sym said)
    ∙ ap (λ r. unless_faulty (fault_at place r) (sound_answer (kept_of t v))) (sym refused)) whole
