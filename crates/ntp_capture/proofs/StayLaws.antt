-- What is refused stays refused, whatever comes behind.
use Rattle.std.proofs.Common.{◌≡◌, ⊎_elim, ℕ, zero, suc, ◌+◌, ◌-◌, ◌<◌, ◌≤◌, Bool, true, false, Option, None, Some, List, [], ◌∷◌, ◌++◌, length, take, drop, refl, sym, ap, subst, ◌∙◌, arith}
use Rattle.std.specs.List.{sum_by}
use Rattle.std.proofs.Math.Seq.{take-append-add}
use Rattle.std.proofs.lemmas.Bool.{cases_lt}
use Rattle.std.proofs.lemmas.List.{append-nil, append_assoc}
use Rattle.ntp_capture.specs.Cut.{Units, size_of, left_head, units_from, units_of}
use Rattle.ntp_capture.specs.Grammar.{refusal_in, fault_at, first_fault, fault_from, piece_in, given_on, given_from, place_of, all_units, fault_so_far, given, cut_off, fault_of_capture}
use Rattle.ntp_capture.specs.Kept.{IsFaultOfAll}
use Rattle.ntp_capture.specs.declared.pieces.CapFault.{CapFault}
use Rattle.ntp_capture.specs.declared.pieces.CapWhy.{CapWhy}
use Rattle.ntp_capture.specs.declared.pieces.Piece.{Piece}
use Rattle.ntp_capture.proofs.FieldLaws.{size-some, size-long, refusal-stays}
use Rattle.ntp_capture.proofs.CutLaws.{behind, units-open, cut-first, units-more, last-is-open}
use Rattle.ntp_capture.proofs.GrammarLaws.{fault-append, fault-last, given-append}

-- what a text says whose first unit is refused, whatever it is cut into
record IsRefused (place : ℕ) (h : Bool) (us : Units) (f : CapFault) : Type 0 where
  fault : fault_from place h (all_units us) ≡ Some f
  given : given_from h us.ended ≡ []

-- the cut of a unit that is refused, and more
refused-more : (k place : ℕ) (h : Bool) (u v : List ℕ) (n : ℕ) (w : CapWhy) → length u < size_of h u → refusal_in h u ≡ Some (n, w)
    → IsRefused place h (units_from k h (u ++ v)) (record { at = place + n; why = w })
refused-more zero place h u v n w inner refused =
    record { fault = ap (λ r. first_fault (fault_at place r) None) (refusal-stays h u v (n, w) refused); given = refl }
refused-more (suc k) place h u v n w inner refused =
    let t = u ++ v in
    ⊎_elim
    (λ short. subst (λ us. IsRefused place h us (record { at = place + n; why = w })) (sym (units-open (suc k) h t short))
    (record { fault = ap (λ r. first_fault (fault_at place r) None) (refusal-stays h u v (n, w) refused); given = refl }))
    (λ long.
    let s = size_of h t in
    let room : length u ≤ s = ⊎_elim (λ few. omega (arith, size-some h t)) (λ many. omega (arith, inner, size-long h u v many))
    (cases_lt (length u) 11) in
    let rest = s - length u in
    let first : take s t ≡ u ++ take rest v = ap (λ n. take n t) (let n : s ≡ length u + rest = omega arith in n) ∙ take-append-add u v rest in
    let no : refusal_in h (take s t) ≡ Some (n, w) = ap (refusal_in h) first ∙ refusal-stays h u (take rest v) (n, w) refused in
    let more = units_from k false (drop s t) in
    subst (λ us. IsRefused place h us (record { at = place + n; why = w })) (sym (cut-first k h t long)) (record {
      fault = ap (λ r. first_fault (fault_at place r) (fault_from (place + length (take s t)) false (more.ended ++ more.last ∷ []))) no;
      given = ap (λ r. given_on r (piece_in h (take s t)) (given_from false more.ended)) no;
    }))
    (cases_lt (length t) (size_of h t))

-- behind units of which one is refused, nothing is said
given-refused : (place : ℕ) (h : Bool) (xs ys : List (List ℕ)) (f : CapFault) → fault_from place h xs ≡ Some f → given_from h (xs ++ ys) ≡ given_from h xs
given-refused place h [] ys f e = absurd (cc)
given-refused place h (x ∷ xs) ys f e =
    let split : (r : Option (ℕ × CapWhy)) → refusal_in h x ≡ r → first_fault (fault_at place r) (fault_from (place + length x) false xs) ≡ Some f
    → given_on r (piece_in h x) (given_from false (xs ++ ys)) ≡ given_on r (piece_in h x) (given_from false xs) =
    elim [
      | None ↦ λ is e. ap (λ (ps : List Piece). piece_in h x ∷ ps) (given-refused (place + length x) false xs ys f e)
      | Some r ↦ λ is e. refl
    ] in
    split (refusal_in h x) refl e

-- what is said of a text that is refused stays, whatever comes behind
pub record Stays (t v : List ℕ) (f : CapFault) : Type 0 where
  pub fault : fault_so_far (t ++ v) ≡ Some f
  pub given : given (t ++ v) ≡ given t

pub refused-stays : (t v : List ℕ) (f : CapFault) → fault_so_far t ≡ Some f → Stays t v f
unfolding fault_so_far given
refused-stays t v f e =
    let us = units_of t in
    let es = us.ended in
    let h = left_head true es in
    let x = units_from (length t + length v) h (us.last ++ v) in
    let is : units_of (t ++ v) ≡ behind es x = units-more t v in
    let faults : fault_from 0 true (all_units (behind es x))
    ≡ first_fault (fault_from 0 true es) (fault_from (0 + sum_by length es) h (all_units x)) =
    ap (fault_from 0 true) (append_assoc es x.ended (x.last ∷ [])) ∙ fault-append 0 true es (all_units x) in
    let split : (a : Option CapFault) → fault_from 0 true es ≡ a → (r : Option (ℕ × CapWhy)) → refusal_in h us.last ≡ r
    → first_fault a (fault_at (place_of us) r) ≡ Some f → Stays t v f =
    elim [
      | Some g ↦ λ a r re e.
          record {
            fault = ap (λ us. fault_from 0 true (all_units us)) is ∙ faults ∙ ap (λ a. first_fault a (fault_from (0 + sum_by length es) h (all_units x))) a ∙ e;
            given = ap (λ us. given_from true us.ended) is ∙ given-refused 0 true es x.ended g a;
          }
      | None ↦ λ a. elim [
        | None ↦ λ re e. absurd (cc)
        | Some (n, w) ↦ λ re e.
            let no = refused-more (length t + length v) (0 + sum_by length es) h us.last v n w (last-is-open t) re in
            let place : 0 + sum_by length es ≡ place_of us = omega arith in
            record {
              fault = ap (λ us. fault_from 0 true (all_units us)) is ∙ faults
                  ∙ ap (λ a. first_fault a (fault_from (0 + sum_by length es) h (all_units x))) a ∙ no.fault
                  ∙ ap (λ p. Some (record { at = p + n; why = w })) place ∙ e;
              given = ap (λ us. given_from true us.ended) is ∙ given-append 0 true es x.ended a
                  ∙ ap (λ (ps : List Piece). given_from true es ++ ps) no.given ∙ append-nil (given_from true es);
            }
      ]
    ] in
    split (fault_from 0 true es) refl (refusal_in h us.last) refl (sym (fault-last us) ∙ e)

pub fault-of-all : (t : List ℕ) (f : CapFault) → fault_so_far t ≡ Some f → IsFaultOfAll t f
unfolding fault_of_capture
fault-of-all t f e more =
    let us = units_of (t ++ more) in
    ap (λ a. first_fault a (cut_off us.ended us.last (place_of us))) (refused-stays t more f e).fault
