-- The end of a capture.
use Rattle.std.proofs.Common.{◌≡◌, ◌⊎◌, inl, inr, ℕ, ◌<◌, true, false, MatchOption, None, Some, List, [], ◌∷◌, length, refl, sym, ap, subst, ◌∙◌, arith}
use Rattle.std.proofs.lemmas.List.{nil_from_length}
use Rattle.ntp_capture.specs.Cut.{left_head, units_of}
use Rattle.ntp_capture.specs.Grammar.{first_fault, place_of, fault_so_far, cut_off, fault_of_capture}
use Rattle.ntp_capture.specs.Kept.{Kept, IsAt, StandsFor}
use Rattle.ntp_capture.specs.declared.pieces.CapFault.{CapFault}
use Rattle.ntp_capture.specs.declared.pieces.CapWhy.TheVariants as why

-- a fault that was found
pub end_refused : (k : Kept) (t : List ℕ) (f : CapFault) → k.fault ≡ Some f → StandsFor k t → fault_of_capture t ≡ Some f
unfolding fault_of_capture
end_refused k t f is stands =
    let fault : fault_so_far t ≡ Some f = subst (λ o. MatchOption o (IsAt k t) (λ f. fault_so_far t ≡ Some f)) is stands in
    ap (λ a. first_fault a (cut_off (units_of t).ended (units_of t).last (place_of (units_of t)))) fault

cut-first-off : (es : List (List ℕ)) (last : List ℕ) (place : ℕ) → (left_head true es ≡ true) ⊎ (0 < length last)
    → cut_off es last place ≡ Some (record { at = place; why = why.Cut })
cut-first-off [] last place either = refl
cut-first-off (e ∷ es) [] place either = elim either as (λ _. cut_off (e ∷ es) [] place ≡ Some (record { at = place; why = why.Cut })) [
  | inl head ↦ absurd (cc)
  | inr some ↦ absurd (omega arith)
]
cut-first-off (e ∷ es) (b ∷ bs) place either = refl

not-cut : (es : List (List ℕ)) (last : List ℕ) (place : ℕ) → left_head true es ≡ false → last ≡ [] → cut_off es last place ≡ None
not-cut [] last place head none = absurd (cc)
not-cut (e ∷ es) [] place head none = refl
not-cut (e ∷ es) (b ∷ bs) place head none = absurd (cc)

-- the head or a record is cut off
pub end_cut : (k : Kept) (t : List ℕ) → IsAt k t → (k.is_head ≡ true) ⊎ (0 < k.seen) → fault_of_capture t ≡ Some (record { at = k.place; why = why.Cut })
unfolding fault_of_capture
end_cut k t at either =
    let us = units_of t in
    let now : (left_head true us.ended ≡ true) ⊎ (0 < length us.last) =
    subst (λ n. (left_head true us.ended ≡ true) ⊎ (0 < n)) at.seen (subst (λ h. (h ≡ true) ⊎ (0 < k.seen)) at.head either) in
    ap (λ a. first_fault a (cut_off us.ended us.last (place_of us))) at.sound
    ∙ cut-first-off us.ended us.last (place_of us) now
    ∙ ap (λ n. Some (record { at = n; why = why.Cut })) (sym at.place)

-- nothing is cut off
pub end_sound : (k : Kept) (t : List ℕ) → IsAt k t → k.is_head ≡ false → k.seen ≡ 0 → fault_of_capture t ≡ None
unfolding fault_of_capture
end_sound k t at head none =
    let us = units_of t in
    ap (λ a. first_fault a (cut_off us.ended us.last (place_of us))) at.sound
    ∙ not-cut us.ended us.last (place_of us) (sym at.head ∙ head) (nil_from_length us.last (sym at.seen ∙ none))
