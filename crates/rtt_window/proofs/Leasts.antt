-- The least of a range of numbers.
use Rattle.std.proofs.Common.{◌≡◌, ℕ, ◌+◌, ◌-◌, ◌<◌, ◌≤◌, List, [], ◌∷◌, ◌++◌, length, min, take, drop, slice_range, get_or, ap, ◌∙◌, arith, length-drop, get_or-drop}
use Rattle.std.proofs.lemmas.List.{take_more}
use Rattle.std.proofs.lemmas.List.Sums.{fold-append}
use Rattle.rtt_window.specs.Bases.{least_of}

pub least_of-push : (ns : List ℕ) (n : ℕ) → 0 < length ns → least_of (ns ++ n ∷ []) ≡ min (least_of ns) n
least_of-push [] n some = absurd (omega arith)
least_of-push (m ∷ ns) n some = fold-append min m ns (n ∷ [])

-- one more element at the end of a range
pub range_more : {X : Type 0} (xs : List X) (from i : ℕ) (d : X) → from ≤ i → i < length xs → slice_range xs from (i + 1) ≡ slice_range xs from i
    ++ get_or xs i d ∷ []
range_more xs from i d before here =
    let many : i + 1 - from ≡ i - from + 1 = omega arith in
    let place : from + (i - from) ≡ i = omega arith in
    ap (λ n. take n (drop from xs)) many
    ∙ take_more (drop from xs) (i - from) d (omega (arith, length-drop from xs))
    ∙ ap (λ x. slice_range xs from i ++ x ∷ []) (get_or-drop from xs (i - from) d ∙ ap (λ n. get_or xs n d) place)
