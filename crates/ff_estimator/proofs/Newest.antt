-- What is said of the newest stamp, from what is kept.
use Rattle.std.proofs.Common.{◌≡◌, ℕ, ◌+◌, ◌-◌, ◌≤◌, max, cond, suc, List, [], ◌∷◌, ◌++◌, length, map, drop, slice_index, slice_range, slice_get, refl, sym, ap, ap₂, ◌∙◌, subst, arith}
use Rattle.std.proofs.lemmas.List.{take_all, length_push, map_push, length-map, get_or_push, get_or-map}
use Rattle.std.proofs.lemmas.Option.{slice_get-get_or}
use Rattle.stamp_text.specs.Accepted.{last_of}
use Rattle.stamp_text.specs.declared.lines.Stamp.{Stamp}
use Rattle.rtt_window.specs.Bases.{base_at}
use Rattle.rtt_window.specs.Pairs.{pair_of}
use Rattle.rtt_window.specs.Windows as windows
use Rattle.rtt_window.specs.declared.bases.Base.{Base}
use Rattle.rtt_window.proofs.Keeping.{range-kept, last-kept}
use Rattle.rtt_window.proofs.Pairing.{pair_of-kept}
use Rattle.rtt_window.proofs.Prefixes.{base_at-start}
use Rattle.rate_pair.specs.declared.rates.Rate.{Rate}
use Rattle.offset_weights.specs.Means.{mean_of}
use Rattle.ff_estimator.specs.Rates.{rate_by, rate_over, uses_local, global_rate, local_rate, is_local, rate_in_use}
use Rattle.ff_estimator.specs.Terms.{term_of}
use Rattle.ff_estimator.specs.Means.{count_at, mean_at}
use Rattle.ff_estimator.specs.Choices.{chosen, predicted_by, count_before, taken_after, taken_before, taken_at}
use Rattle.ff_estimator.specs.Estimates.{full_of, full_at}
use Rattle.ff_estimator.specs.Daemons.{AreRates, mean_kept, taken_kept, count_of}
use Rattle.ff_estimator.specs.declared.choices.Taken.{Taken}
use Rattle.ff_estimator.specs.declared.fulls.Full.{Full}
use Rattle.ff_estimator.specs.declared.rates.Rates.{Rates}
use Rattle.ff_estimator.proofs.Prefixes.{count_before-append, taken_before-append}

-- the rate over what is kept
pub rate_over-kept : (w : windows.Kept) (freq reach : ℕ) (all : List Stamp) (i : ℕ) → windows.StandsFor w freq all → reach ≤ 1024 → length all ≡ i
    + 1 → rate_by w.freq (pair_of reach w.stamps) ≡ rate_over reach freq all i
unfolding rate_over
rate_over-kept w freq reach all i stands few many =
    ap₂ (λ f (xs : List Stamp). rate_by f (pair_of reach xs)) stands.at stands.stamps
    ∙ ap (rate_by freq) (pair_of-kept reach all few ∙ ap (pair_of reach) (sym (take_all (i + 1) all (omega arith))))

-- the mean over what is kept
pub mean_at-kept : (w : windows.Kept) (freq : ℕ) (all : List Stamp) (i : ℕ) (base : Base) (rate : Rate) (now : ℕ) → windows.StandsFor w freq all
    → length all ≡ i + 1 → base ≡ base_at freq all i → rate ≡ rate_in_use freq all i → now ≡ count_at all i
    → mean_kept w base rate now ≡ mean_at freq all i
unfolding mean_at
mean_at-kept w freq all i base rate now stands many is_base is_rate is_now =
    let first : ℕ = max base.start (i - 31) in
    let early : base.start ≤ i = subst (λ (b : Base). b.start ≤ i) (sym is_base) (base_at-start freq all i) in
    let counted : w.count ≡ i + 1 = stands.count ∙ many in
    let place : max base.start (w.count - 1 - 31) - (w.count - length w.stamps) ≡ first - (i + 1 - length w.stamps) = omega arith in
    let range : drop (max base.start (w.count - 1 - 31) - (w.count - length w.stamps)) w.stamps ≡ slice_range all first (i + 1) =
    ap (λ n. drop n w.stamps) place
    ∙ ap (λ (xs : List Stamp). drop (first - (i + 1 - length xs)) xs) stands.stamps
    ∙ range-kept all first i many (omega arith) (omega arith) in
    ap (λ (xs : List Stamp). mean_of (map (term_of w.freq base.base rate now) xs)) range
    ∙ ap₂ (λ f (b : Base). mean_of (map (term_of f b.base rate now) (slice_range all (max b.start (i - 31)) (i + 1)))) stands.at is_base
    ∙ ap₂ (λ (r : Rate) n. mean_of (map (term_of freq (base_at freq all i).base r n)
    (slice_range all (max (base_at freq all i).start (i - 31)) (i + 1)))) is_rate is_now

pub count_at-push : (all : List Stamp) (s : Stamp) → count_at (all ++ s ∷ []) (length all) ≡ s.tf
count_at-push all s =
    ap (λ ns. slice_index ns (length all)) (map_push (λ s. s.tf) all s)
    ∙ get_or_push (map (λ s. s.tf) all) s.tf 0 (length all) (length-map all (λ s. s.tf))

-- the count before the next stamp is that of the newest one
pub count_before-next : (all : List Stamp) → count_before all (length all) ≡ count_of (last_of all)
count_before-next [] = refl
count_before-next (s ∷ ss) =
    let all : List Stamp = s ∷ ss in
    let last : length all - 1 ≡ length ss = omega arith in
    get_or-map (λ s. s.tf) all (length ss) s 0 (omega arith) ∙ sym (ap count_of (ap (slice_get all) last ∙ slice_get-get_or all (length ss) s (omega arith)))

-- the rates at one more stamp
pub record AreRatesAt (freq : ℕ) (all : List Stamp) (i : ℕ) (rates : Rates) : Type 0 where
  pub global : rates.global ≡ global_rate freq all i
  pub local : rates.local ≡ is_local freq all i
  pub in_use : rates.in_use ≡ rate_in_use freq all i

pub rates-push : (w : windows.Kept) (freq : ℕ) (all : List Stamp) (i : ℕ) (rates : Rates) → windows.StandsFor w freq all → length all ≡ i + 1
    → AreRates w rates → AreRatesAt freq all i rates
rates-push w freq all i rates stands many are =
    let global : rates.global ≡ global_rate freq all i = are.global ∙ rate_over-kept w freq 1024 all i stands (omega arith) many in
    let near : rate_by w.freq (pair_of 64 w.stamps) ≡ local_rate freq all i = rate_over-kept w freq 64 all i stands (omega arith) many in
    let index : w.count - 1 ≡ i = omega (arith, stands.count) in
    let local : rates.local ≡ is_local freq all i = are.local ∙ ap (λ n. uses_local n (rate_by w.freq (pair_of 64 w.stamps)) rates.global) index
    ∙ ap₂ (uses_local i) near global in
    record {
      global = global;
      local = local;
      in_use = are.in_use ∙ ap (λ b. cond b (rate_by w.freq (pair_of 64 w.stamps)) rates.global) local ∙ ap₂ (cond (is_local freq all i)) near global;
    }

-- what is taken at one more stamp
pub taken-push : (w : windows.Kept) (freq : ℕ) (all : List Stamp) (s : Stamp) (base : Base) (rates : Rates) (before : ℕ)
    (t : Taken) → windows.StandsFor w freq (all ++ s ∷ []) → base ≡ base_at freq (all ++ s ∷ []) (length all) → AreRates w rates
    → before ≡ count_of (last_of all) → t ≡ taken_before freq all (length all)
    → taken_kept w base rates before s.tf t ≡ taken_at freq (all ++ s ∷ []) (length all)
unfolding taken_before
taken-push w freq all s base rates before t stands is_base are is_before was =
    let n : ℕ = length all in
    let all' : List Stamp = all ++ s ∷ [] in
    let are' = rates-push w freq all' n rates stands (length_push all s) are in
    let index : w.count - 1 ≡ n = omega (arith, stands.count, length_push all s) in
    let now : s.tf ≡ count_at all' n = sym (count_at-push all s) in
    let counts : s.tf - before ≡ count_at all' n - count_before all' n = ap₂ (λ a b. a - b) now
    (is_before ∙ sym (count_before-next all) ∙ sym (count_before-append all (s ∷ []) n (omega arith))) in
    let taken : t ≡ taken_before freq all' n = was ∙ sym (taken_before-append freq all (s ∷ []) n (omega arith)) in
    ap₂ (λ i mean. chosen i t.run (predicted_by rates.global (s.tf - before) t) mean) index
    (mean_at-kept w freq all' n base rates.in_use s.tf stands (length_push all s) is_base are'.in_use now)
    ∙ ap₂ (λ (r : Rate) c. chosen n t.run (predicted_by r c t) (mean_at freq all' n)) are'.global counts
    ∙ ap (taken_after freq all' n) taken

-- what is said at one more stamp
pub full-push : (w : windows.Kept) (freq : ℕ) (all : List Stamp) (s : Stamp) (base : Base) (rates : Rates) (t : Taken) → windows.StandsFor w freq
    (all ++ s ∷ []) → base ≡ base_at freq (all ++ s ∷ []) (length all) → AreRates w rates → t ≡ taken_at freq (all ++ s ∷ []) (length all)
    → full_of (w.count - 1) s.tf rates.global base.shifted rates.local t ≡ full_at freq (all ++ s ∷ []) (length all)
unfolding full_at
full-push w freq all s base rates t stands is_base are taken =
    let n : ℕ = length all in
    let are' = rates-push w freq (all ++ s ∷ []) n rates stands (length_push all s) are in
    let index : w.count - 1 ≡ n = omega (arith, stands.count, length_push all s) in
    ap₂ (λ i c. full_of i c rates.global base.shifted rates.local t) index (sym (count_at-push all s))
    ∙ ap₂ (λ (r : Rate) (b : Base). full_of n (count_at (all ++ s ∷ []) n) r b.shifted rates.local t) are'.global is_base
    ∙ ap₂ (λ local (t : Taken). full_of n (count_at (all ++ s ∷ []) n) (global_rate freq (all ++ s ∷ []) n) (base_at freq (all ++ s ∷ []) n).shifted
    local t) are'.local taken

-- what a daemon then keeps, and says
pub taken-stands : (w : windows.Kept) (freq : ℕ) (all : List Stamp) (s : Stamp) (base : Base) (rates : Rates) (before : ℕ)
    (t taken : Taken) → windows.StandsFor w freq (all ++ s ∷ []) → base ≡ base_at freq (all ++ s ∷ []) (length all) → AreRates w rates
    → before ≡ count_of (last_of all) → t ≡ taken_before freq all (length all)
    → taken ≡ taken_kept w base rates before s.tf t → taken ≡ taken_before freq (all ++ s ∷ []) (length (all ++ s ∷ []))
taken-stands w freq all s base rates before t taken stands is_base are is_before was is =
    let many : suc (length all) ≡ length (all ++ s ∷ []) = omega (arith, length_push all s) in
    is ∙ taken-push w freq all s base rates before t stands is_base are is_before was ∙ ap (taken_before freq (all ++ s ∷ [])) many

pub full-stands : (w : windows.Kept) (freq : ℕ) (all : List Stamp) (s : Stamp) (base : Base) (rates : Rates) (taken : Taken) (count : ℕ)
    (full : Full) → windows.StandsFor w freq (all ++ s ∷ []) → base ≡ base_at freq (all ++ s ∷ []) (length all) → AreRates w rates
    → taken ≡ taken_before freq (all ++ s ∷ []) (length (all ++ s ∷ []))
    → count ≡ w.count → full ≡ full_of (count - 1) s.tf rates.global base.shifted rates.local taken → full ≡ full_at freq (all ++ s ∷ []) (length all)
full-stands w freq all s base rates taken count full stands is_base are is_taken is_count is =
    let many : length (all ++ s ∷ []) ≡ suc (length all) = omega (arith, length_push all s) in
    is ∙ ap (λ n. full_of (n - 1) s.tf rates.global base.shifted rates.local taken) is_count
    ∙ full-push w freq all s base rates taken stands is_base are (is_taken ∙ ap (taken_before freq (all ++ s ∷ [])) many)

-- the count of the newest stamp by what is kept
pub newest-count : (w : windows.Kept) (freq : ℕ) (all : List Stamp) → windows.StandsFor w freq all → count_of (last_of w.stamps) ≡ count_of (last_of all)
newest-count w freq all stands = ap (λ (xs : List Stamp). count_of (last_of xs)) stands.stamps ∙ ap count_of (last-kept all)
