-- What is said of a stamp stays, whatever stamps come behind it.
use Rattle.std.proofs.Common.{◌≡◌, ℕ, zero, suc, ◌+◌, ◌-◌, ◌<◌, ◌≤◌, max, cond, List, ◌++◌, length, map, take, drop, slice_index, slice_range, refl, ap, ap₂, ◌∙◌, arith, length-drop}
use Rattle.std.proofs.lemmas.List.{take-append-le, drop-append-le, map-append, length-map, get_or_append_left}
use Rattle.stamp_text.specs.declared.lines.Stamp.{Stamp}
use Rattle.rtt_window.specs.Bases.{base_at}
use Rattle.rtt_window.specs.Pairs.{pair_of}
use Rattle.rtt_window.specs.declared.bases.Base.{Base}
use Rattle.rtt_window.proofs.Prefixes.{base_at-append, base_at-start}
use Rattle.rate_pair.specs.declared.rates.Rate.{Rate}
use Rattle.offset_weights.specs.Means.{mean_of}
use Rattle.ff_estimator.specs.Rates.{rate_by, rate_over, global_rate, uses_local, is_local, rate_in_use}
use Rattle.ff_estimator.specs.Terms.{term_of}
use Rattle.ff_estimator.specs.Means.{count_at, mean_at}
use Rattle.ff_estimator.specs.Choices.{chosen, predicted_by, count_before, taken_after, taken_before, taken_at}
use Rattle.ff_estimator.specs.Estimates.{full_of, full_at}
use Rattle.ff_estimator.specs.declared.choices.Taken.{Taken}

rate_over-append : (reach freq : ℕ) (xs ys : List Stamp) (i : ℕ) → i < length xs → rate_over reach freq (xs ++ ys) i ≡ rate_over reach freq xs i
unfolding rate_over
rate_over-append reach freq xs ys i here = ap (λ (zs : List Stamp). rate_by freq (pair_of reach zs)) (take-append-le (i + 1) xs ys (omega arith))

count_at-append : (xs ys : List Stamp) (i : ℕ) → i < length xs → count_at (xs ++ ys) i ≡ count_at xs i
count_at-append xs ys i here =
    ap (λ ns. slice_index ns i) (map-append (λ s. s.tf) xs ys)
    ∙ get_or_append_left (map (λ s. s.tf) xs) (map (λ s. s.tf) ys) 0 i (omega (arith, length-map xs (λ s. s.tf)))

pub count_before-append : (xs ys : List Stamp) (i : ℕ) → i ≤ length xs → count_before (xs ++ ys) i ≡ count_before xs i
count_before-append xs ys zero here = refl
count_before-append xs ys (suc i) here = count_at-append xs ys i here

range-append : (xs ys : List Stamp) (from to : ℕ) → from ≤ to → to ≤ length xs → slice_range (xs ++ ys) from to ≡ slice_range xs from to
range-append xs ys from to order here =
    ap (take (to - from)) (drop-append-le from xs ys (omega arith))
    ∙ take-append-le (to - from) (drop from xs) ys (omega (arith, length-drop from xs))

rate_in_use-append : (freq : ℕ) (xs ys : List Stamp) (i : ℕ) → i < length xs → rate_in_use freq (xs ++ ys) i ≡ rate_in_use freq xs i
rate_in_use-append freq xs ys i here = ap₂ (λ local global. cond (uses_local i local global) local global) (rate_over-append 64 freq xs ys i here)
    (rate_over-append 1024 freq xs ys i here)

mean_at-append : (freq : ℕ) (xs ys : List Stamp) (i : ℕ) → i < length xs → mean_at freq (xs ++ ys) i ≡ mean_at freq xs i
unfolding mean_at
mean_at-append freq xs ys i here =
    let base : Base = base_at freq xs i in
    let from : ℕ = max base.start (i - 31) in
    let early = base_at-start freq xs i in
    ap (λ (b : Base). mean_of (map (term_of freq b.base (rate_in_use freq (xs ++ ys) i) (count_at (xs ++ ys) i))
    (slice_range (xs ++ ys) (max b.start (i - 31)) (i + 1)))) (base_at-append freq xs ys i here)
    ∙ ap₂ (λ (rate : Rate) now. mean_of (map (term_of freq base.base rate now) (slice_range (xs ++ ys) from (i + 1))))
    (rate_in_use-append freq xs ys i here) (count_at-append xs ys i here)
    ∙ ap (λ (zs : List Stamp). mean_of (map (term_of freq base.base (rate_in_use freq xs i) (count_at xs i)) zs))
    (range-append xs ys from (i + 1) (omega arith) (omega arith))

-- what is taken at a stamp, given what was taken before it
pub taken_after-append : (freq : ℕ) (xs ys : List Stamp) (i : ℕ) (before : Taken) → i < length xs
    → taken_after freq (xs ++ ys) i before ≡ taken_after freq xs i before
taken_after-append freq xs ys i before here =
    let counts : count_at (xs ++ ys) i - count_before (xs ++ ys) i ≡ count_at xs i - count_before xs i = ap₂ (λ m n. m - n)
    (count_at-append xs ys i here) (count_before-append xs ys i (omega arith)) in
    ap₂ (chosen i before.run) (ap₂ (λ (rate : Rate) n. predicted_by rate n before) (rate_over-append 1024 freq xs ys i here) counts)
    (mean_at-append freq xs ys i here)

pub taken_before-append : (freq : ℕ) (xs ys : List Stamp) (i : ℕ) → i ≤ length xs → taken_before freq (xs ++ ys) i ≡ taken_before freq xs i
unfolding taken_before
taken_before-append freq xs ys zero here = refl
taken_before-append freq xs ys (suc i) here = taken_after-append freq xs ys i (taken_before freq (xs ++ ys) i) here
    ∙ ap (taken_after freq xs i) (taken_before-append freq xs ys i (omega arith))

pub full_at-append : (freq : ℕ) (xs ys : List Stamp) (i : ℕ) → i < length xs → full_at freq (xs ++ ys) i ≡ full_at freq xs i
unfolding full_at
full_at-append freq xs ys i here =
    let all : List Stamp = xs ++ ys in
    ap₂ (λ count (rate : Rate). full_of i count rate (base_at freq all i).shifted (is_local freq all i) (taken_at freq all i))
    (count_at-append xs ys i here) (rate_over-append 1024 freq xs ys i here)
    ∙ ap₂ (λ (b : Base) local. full_of i (count_at xs i) (global_rate freq xs i) b.shifted local (taken_at freq all i))
    (base_at-append freq xs ys i here) (ap₂ (uses_local i) (rate_over-append 64 freq xs ys i here) (rate_over-append 1024 freq xs ys i here))
    ∙ ap (full_of i (count_at xs i) (global_rate freq xs i) (base_at freq xs i).shifted (is_local freq xs i))
    (taken_before-append freq xs ys (suc i) (omega arith))
