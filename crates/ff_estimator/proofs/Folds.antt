-- All that is said of accepted stamps.
use Rattle.std.proofs.Common.{◌≡◌, ℕ, zero, suc, ◌+◌, ◌<◌, ◌≤◌, List, [], ◌∷◌, ◌++◌, length, map, get_or, slice_get, Some, refl, sym, ap, ap₂, ◌∙◌, subst, arith}
use Rattle.std.specs.List.{All, range_with_len}
use Rattle.std.proofs.lemmas.List.{length_push, length-map, get_or-map, ext_get_or}
use Rattle.std.proofs.lemmas.Option.{slice_get-get_or}
use Rattle.std.proofs.lemmas.List.FromFn.{length-map-range_with_len, get_or-map-range_with_len, map-range_with_len_more}
use Rattle.stamp_text.specs.Accepted.{AreAccepted}
use Rattle.stamp_text.specs.declared.lines.Stamp.{Stamp}
use Rattle.rate_pair.specs.Rates.{IsRate}
use Rattle.ff_estimator.specs.Means.{count_at}
use Rattle.ff_estimator.specs.Estimates.{full_at}
use Rattle.ff_estimator.specs.declared.fulls.Full.{Full}
use Rattle.ff_estimator.proofs.Prefixes.{full_at-append}
use Rattle.ff_estimator.specs.Folds.{fold_of}
use Rattle.ff_estimator.proofs.Sane.{rate-over}

-- what is said of the first stamps stays, whatever stamps come behind them
fulls-append : (freq : ℕ) (xs ys : List Stamp) (a n : ℕ) → a + n ≤ length xs
    → map (full_at freq (xs ++ ys)) (range_with_len a n) ≡ map (full_at freq xs) (range_with_len a n)
fulls-append freq xs ys a zero within = refl
fulls-append freq xs ys a (suc n) within = ap₂ (λ f fs. f ∷ fs) (full_at-append freq xs ys a (omega arith)) (fulls-append freq xs ys (a + 1) n (omega arith))

-- one more stamp
pub fold_of-push : (freq : ℕ) (all : List Stamp) (s : Stamp) → fold_of freq (all ++ s ∷ []) ≡ fold_of freq all ++ full_at freq (all ++ s ∷ []) (length all) ∷ []
unfolding fold_of
fold_of-push freq all s =
    let full : ℕ → Full = full_at freq (all ++ s ∷ []) in
    ap (λ n. map full (range_with_len 0 n)) (length_push all s)
    ∙ map-range_with_len_more full 0 (length all) (length all) (omega arith)
    ∙ ap (λ fs. fs ++ full (length all) ∷ []) (fulls-append freq all (s ∷ []) 0 (length all) (omega arith))

pub length-fold_of : (freq : ℕ) (all : List Stamp) → length (fold_of freq all) ≡ length all
unfolding fold_of
length-fold_of freq all = length-map-range_with_len (full_at freq all) 0 (length all)

pub get_or-fold_of : (freq : ℕ) (all : List Stamp) (i : ℕ) (d : Full) → i < length all → get_or (fold_of freq all) i d ≡ full_at freq all i
unfolding fold_of
get_or-fold_of freq all i d here = get_or-map-range_with_len (full_at freq all) 0 (length all) i i d here (omega arith)

-- what holds at each stamp holds of each estimate
pub fold-all : (P : Full → Type 0) (freq : ℕ) (all : List Stamp) → ((i : ℕ) → i < length all → P (full_at freq all i)) → All P (fold_of freq all)
fold-all P freq all each k d within =
    let here : k < length all = omega (arith, length-fold_of freq all) in
    subst P (sym (get_or-fold_of freq all k d here)) (each k here)

-- the rate that is said is the global one
full-rate : (freq : ℕ) (all : List Stamp) (i : ℕ) → AreAccepted freq all → IsRate freq (full_at freq all i).rate
unfolding full_at
full-rate freq all i are = rate-over 1024 freq all i are

pub fold-rates : (freq : ℕ) (all : List Stamp) → AreAccepted freq all → All (λ f. IsRate freq f.rate) (fold_of freq all)
fold-rates freq all are = fold-all (λ f. IsRate freq f.rate) freq all (λ i here. full-rate freq all i are)

-- the count that is said is that of the stamp's reply
full-count : (freq : ℕ) (all : List Stamp) (i : ℕ) → (full_at freq all i).est.update_ffcount ≡ count_at all i
unfolding full_at
full-count freq all i = refl

-- one for each stamp, by its count
pub fold-counts : (freq : ℕ) (all : List Stamp) → map (λ f. f.est.update_ffcount) (fold_of freq all) ≡ map (λ s. s.tf) all
fold-counts freq all =
    let many = length-map (fold_of freq all) (λ (f : Full). f.est.update_ffcount) in
    let others = length-map all (λ (s : Stamp). s.tf) in
    let whole = length-fold_of freq all in
    ext_get_or 0 _ _ (omega arith) (λ i within. (
    let here : i < length all = omega arith in
    let d : Full = full_at freq all i in
    get_or-map (λ (f : Full). f.est.update_ffcount) (fold_of freq all) i d 0 (omega arith)
    ∙ ap (λ (f : Full). f.est.update_ffcount) (get_or-fold_of freq all i d here) ∙ full-count freq all i
    ))

pub fold-at : (freq : ℕ) (all : List Stamp) (i : ℕ) → i < length all → slice_get (fold_of freq all) i ≡ Some (full_at freq all i)
fold-at freq all i here =
    let d : Full = full_at freq all i in
    slice_get-get_or (fold_of freq all) i d (omega (arith, length-fold_of freq all)) ∙ ap Some (get_or-fold_of freq all i d here)
