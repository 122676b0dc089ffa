-- What units say behind others.
use Rattle.std.proofs.Common.{◌≡◌, ℕ, ◌+◌, ◌<◌, Bool, true, false, Option, None, Some, List, [], ◌∷◌, ◌++◌, length, refl, sym, ap, ◌∙◌, arith, add-zero, add_assoc}
use Rattle.std.specs.List.{sum_by}
use Rattle.std.proofs.lemmas.List.Sums.{sum_by-cons}
use Rattle.ntp_capture.specs.Cut.{Units, size_of, left_head, units_of}
use Rattle.ntp_capture.specs.Grammar.{refusal_in, fault_at, first_fault, fault_from, piece_in, given_on, given_from, place_of, all_units, fault_so_far, given}
use Rattle.ntp_capture.specs.declared.pieces.CapFault.{CapFault}
use Rattle.ntp_capture.specs.declared.pieces.CapWhy.{CapWhy}
use Rattle.ntp_capture.specs.declared.pieces.Piece.{Piece}
use Rattle.ntp_capture.proofs.CutLaws.{left_head-false, more-open, more-whole}

first-first : (a b c : Option CapFault) → first_fault a (first_fault b c) ≡ first_fault (first_fault a b) c
first-first None b c = refl
first-first (Some f) b c = refl

pub first-none : (a : Option CapFault) → first_fault a None ≡ a
first-none None = refl
first-none (Some f) = refl

pub fault-append : (place : ℕ) (h : Bool) (xs ys : List (List ℕ))
    → fault_from place h (xs ++ ys) ≡ first_fault (fault_from place h xs) (fault_from (place + sum_by length xs) (left_head h xs) ys)
fault-append place h [] ys = ap (λ n. fault_from n h ys) (sym (add-zero place))
fault-append place h (x ∷ xs) ys =
    let a = fault_at place (refusal_in h x) in
    ap (first_fault a) (fault-append (place + length x) false xs ys)
    ∙ ap (λ h. first_fault a (first_fault (fault_from (place + length x) false xs) (fault_from (place + length x + sum_by length xs) h ys)))
    (left_head-false xs)
    ∙ ap (λ n. first_fault a (first_fault (fault_from (place + length x) false xs) (fault_from n false ys)))
    (add_assoc place (length x) (sum_by length xs) ∙ ap (λ n. place + n) (sym (sum_by-cons length x xs)))
    ∙ first-first a (fault_from (place + length x) false xs) (fault_from (place + sum_by length (x ∷ xs)) false ys)

-- neither of two faults
neither : (a b : Option CapFault) → first_fault a b ≡ None → (a ≡ None) × (b ≡ None)
neither None b e = (refl, e)
neither (Some f) b e = absurd (cc)

pub not-refused : (place : ℕ) (r : Option (ℕ × CapWhy)) → fault_at place r ≡ None → r ≡ None
not-refused place None e = refl
not-refused place (Some r) e = absurd (cc)

pub given-append : (place : ℕ) (h : Bool) (xs ys : List (List ℕ)) → fault_from place h xs ≡ None
    → given_from h (xs ++ ys) ≡ given_from h xs ++ given_from (left_head h xs) ys
given-append place h [] ys none = refl
given-append place h (x ∷ xs) ys none =
    let both = neither (fault_at place (refusal_in h x)) (fault_from (place + length x) false xs) none in
    let sound = not-refused place (refusal_in h x) both.0 in
    let rest = given-append (place + length x) false xs ys both.1 in
    ap (λ r. given_on r (piece_in h x) (given_from false (xs ++ ys))) sound
    ∙ ap (λ (ps : List Piece). piece_in h x ∷ ps) (rest ∙ ap (λ h. given_from false xs ++ given_from h ys) (left_head-false xs))
    ∙ sym (ap (λ r. given_on r (piece_in h x) (given_from false xs) ++ given_from false ys) sound)

-- in a text without a fault, no unit is refused
pub record IsSound (t : List ℕ) : Type 0 where
  pub ended : fault_from 0 true (units_of t).ended ≡ None
  pub last : refusal_in (left_head true (units_of t).ended) (units_of t).last ≡ None

pub fault-last : (us : Units) → fault_from 0 true (all_units us)
    ≡ first_fault (fault_from 0 true us.ended) (fault_at (place_of us) (refusal_in (left_head true us.ended) us.last))
fault-last us =
    fault-append 0 true us.ended (us.last ∷ [])
    ∙ ap (first_fault (fault_from 0 true us.ended)) (first-none (fault_at (0 + place_of us) (refusal_in (left_head true us.ended) us.last))
    ∙ ap (λ n. fault_at n (refusal_in (left_head true us.ended) us.last)) (let n : 0 + place_of us ≡ place_of us = omega arith in n))

pub sound-by : (t : List ℕ) → fault_so_far t ≡ None → IsSound t
unfolding fault_so_far
sound-by t none =
    let us = units_of t in
    let both = neither (fault_from 0 true us.ended) (fault_at (place_of us) (refusal_in (left_head true us.ended) us.last)) (sym (fault-last us) ∙ none) in
    record { ended = both.0; last = not-refused (place_of us) (refusal_in (left_head true us.ended) us.last) both.1 }

-- the unit that has not ended, and more
abbrev pub grown : List ℕ → List ℕ → List ℕ
grown t v = (units_of t).last ++ v

abbrev pub in_head : List ℕ → Bool
in_head t = left_head true (units_of t).ended

refusal-nil : (h : Bool) → refusal_in h [] ≡ None
unfolding refusal_in
refusal-nil true = refl
refusal-nil false = refl

-- more bytes that do not end the unit
pub open-fault : (t v : List ℕ) → IsSound t → length (grown t v) < size_of (in_head t) (grown t v)
    → fault_so_far (t ++ v) ≡ fault_at (place_of (units_of t)) (refusal_in (in_head t) (grown t v))
unfolding fault_so_far
open-fault t v sound short =
    let es = (units_of t).ended in
    let us : Units = record { ended = es; last = grown t v } in
    ap (λ us. fault_from 0 true (all_units us)) (more-open t v short)
    ∙ fault-last us
    ∙ ap (λ f. first_fault f (fault_at (place_of us) (refusal_in (in_head t) (grown t v)))) sound.ended

pub open-given : (t v : List ℕ) → length (grown t v) < size_of (in_head t) (grown t v) → given (t ++ v) ≡ given t
unfolding given
open-given t v short = ap (λ us. given_from true us.ended) (more-open t v short)

-- more bytes with which the unit ends
pub whole-fault : (t v : List ℕ) → IsSound t → length (grown t v) ≡ size_of (in_head t) (grown t v)
    → fault_so_far (t ++ v) ≡ fault_at (place_of (units_of t)) (refusal_in (in_head t) (grown t v))
unfolding fault_so_far
whole-fault t v sound is =
    let es = (units_of t).ended in
    let us : Units = record { ended = es; last = grown t v } in
    let all : Units = record { ended = es ++ grown t v ∷ []; last = [] } in
    ap (λ us. fault_from 0 true (all_units us)) (more-whole t v is)
    ∙ fault-last all
    ∙ ap (λ r. first_fault (fault_from 0 true (es ++ grown t v ∷ [])) (fault_at (place_of all) r)) (refusal-nil (left_head true (es ++ grown t v ∷ [])))
    ∙ first-none (fault_from 0 true (es ++ grown t v ∷ []))
    ∙ fault-last us
    ∙ ap (λ f. first_fault f (fault_at (place_of us) (refusal_in (in_head t) (grown t v)))) sound.ended

pub whole-given : (t v : List ℕ) → IsSound t → length (grown t v) ≡ size_of (in_head t) (grown t v)
    → given (t ++ v) ≡ given t ++ given_on (refusal_in (in_head t) (grown t v)) (piece_in (in_head t) (grown t v)) []
unfolding given
whole-given t v sound is =
    ap (λ us. given_from true us.ended) (more-whole t v is) ∙ given-append 0 true (units_of t).ended (grown t v ∷ []) sound.ended
