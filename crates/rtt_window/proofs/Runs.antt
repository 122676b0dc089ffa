-- The kept stamps from a place on, as two runs.
use Rattle.std.proofs.Common.{◌≡◌, ℕ, ◌-◌, List, [], ◌∷◌, ◌++◌, length, take, drop, min, zero, suc, sym, ap, ap₂, ◌∙◌, subst, arith, length-drop}
use Rattle.std.specs.List.{All}
use Rattle.std.proofs.lemmas.List.{drop_min, take_all}
use Rattle.std.proofs.lemmas.List.Elements.{All-drop, All-take}
use Rattle.std.proofs.Math.Seq.{drop-append_seam, take-append_seam}

-- the rest of two lists is what is left of both
drop_both : {X : Type 0} (n : ℕ) (xs ys : List X) → drop n (xs ++ ys) ≡ drop n xs ++ drop (n - length xs) ys
drop_both zero xs ys =
    let none : 0 ≡ 0 - length xs = omega arith in
    ap (λ k. xs ++ drop k ys) none
drop_both (suc n) [] ys =
    let whole : suc n ≡ suc n - 0 = omega arith in
    ap (λ k. drop k ys) whole
drop_both (suc n) (x ∷ xs) ys =
    let less : n - length xs ≡ suc n - suc (length xs) = omega arith in
    drop_both n xs ys ∙ ap (λ k. drop n xs ++ drop k ys) less

-- all that is left behind some
rest_of : {X : Type 0} (n : ℕ) (xs : List X) → take (length xs - n) (drop n xs) ≡ drop n xs
rest_of n xs = take_all (length xs - n) (drop n xs) (omega (arith, length-drop n xs))

-- both runs
pub runs_from : {X : Type 0} (from first rest : ℕ) (front back all : List X) → front ++ back ≡ all
    → first ≡ min from (length front) → rest ≡ min (from - first) (length back)
    → take (length front - first) (drop first front) ++ take (length back - rest) (drop rest back) ≡ drop from all
runs_from {X = X} from first rest front back all whole one two =
    let older : take (length front - first) (drop first front) ≡ drop from front =
    rest_of first front ∙ ap (λ n. drop n front) one ∙ drop_min from front in
    let over : from - first ≡ from - length front = omega (arith, one) in
    let newer : take (length back - rest) (drop rest back) ≡ drop (from - length front) back =
    rest_of rest back ∙ ap (λ n. drop n back) (two ∙ ap (λ n. min n (length back)) over) ∙ drop_min (from - length front) back in
    ap₂ (λ (xs ys : List X). xs ++ ys) older newer ∙ sym (drop_both from front back) ∙ ap (drop from) whole

-- what holds of all of two runs holds of what is left of each
pub rests_have : {X : Type 0} (P : X → Type 0) (first rest : ℕ) (front back all : List X) → front ++ back ≡ all → All P all
    → All P (take (length front - first) (drop first front)) × All P (take (length back - rest) (drop rest back))
rests_have P first rest front back all whole each =
    let both = subst (All P) (sym whole) each in
    let older : All P front = subst (All P) (take-append_seam front back) (All-take P (length front) (front ++ back) both) in
    let newer : All P back = subst (All P) (drop-append_seam front back) (All-drop P (length front) (front ++ back) both) in
    (subst (All P) (sym (rest_of first front)) (All-drop P first front older), subst (All P) (sym (rest_of rest back)) (All-drop P rest back newer))
