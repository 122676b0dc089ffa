-- The estimate at each accepted stamp is sane.
use Rattle.std.proofs.Common.{◌≡◌, inl, ℕ, zero, suc, ◌+◌, ◌-◌, ◌*◌, ◌<◌, ◌≤◌, ◌^◌, Bool, true, false, cond, ℤ, pos, ◌≤ℤ◌, ◌<ℤ◌, max, List, [], ◌∷◌, length, get_or, take, drop, slice_range, sum_by, Option, None, Some, IfSome, refl, arith, length-take}
use Rattle.std.specs.List.{All}
use Rattle.std.proofs.Math.Nat.{mul-le-mul_left}
use Rattle.std.proofs.lemmas.Int.{ints}
use Rattle.std.proofs.lemmas.List.{get_or-map, get_or-take}
use Rattle.std.proofs.lemmas.List.Elements.{All-map, All-take, All-drop}
use Rattle.std.proofs.lemmas.List.Sums.{sum_by-cons}
use Rattle.ff_grain.specs.Grains.{IsTime, grains_of}
use Rattle.ff_grain.specs.declared.bintime.Bintime.{Bintime}
use Rattle.stamp_text.specs.Accepted.{IsInRange, IsPlausible, AreAccepted}
use Rattle.stamp_text.specs.declared.lines.Stamp.{Stamp}
use Rattle.ff_grain.proofs.PeriodLaws.{highest-bounded}
use Rattle.rtt_window.specs.Bases.{base_at}
use Rattle.rtt_window.specs.Pairs.{pair_of}
use Rattle.rtt_window.proofs.Pairing.{pair_of-accepted}
use Rattle.rate_pair.specs.Rates.{IsRate}
use Rattle.rate_pair.specs.declared.rates.Rate.{Rate}
use Rattle.rate_pair.proofs.RateLaws.{pair_is_rate, nominal_is_rate}
use Rattle.offset_weights.specs.Means.{Term, weights_of, times_of, spreads_of, mean_of}
use Rattle.offset_weights.proofs.MeanLaws.{mean_of_none, mean_of_some, mean_below}
use Rattle.ff_hands.specs.Bounds.{IsSane}
use Rattle.ff_hands.specs.Orders.{is_sane_estimate}
use Rattle.ff_hands.specs.Windups.{start_time}
use Rattle.ff_hands.proofs.Winding.{number_of-of_grains}
use Rattle.ff_estimator.specs.Rates.{rate_by, rate_over, global_rate, local_rate, is_local, rate_in_use}
use Rattle.ff_estimator.specs.Terms.{term_of}
use Rattle.ff_estimator.specs.Means.{count_at, terms_at, mean_at}
use Rattle.ff_estimator.specs.Choices.{predicted_by, count_before, taken_before, taken_at}
use Rattle.ff_estimator.specs.Estimates.{full_at}
use Rattle.ff_estimator.specs.Daemons.{IsTakenBounded}
use Rattle.ff_estimator.specs.declared.choices.Taken.{Taken}
use Rattle.ff_estimator.proofs.Bounds.{predicted-within, chosen-bounded}
use Rattle.ff_estimator.proofs.MeanSums.{since_below, spread_below}
use Rattle.ff_estimator.proofs.Taken.{sane-from}

-- what a list is read by
abbrev blank : Stamp
blank = record { ta = 0; tb = start_time; te = start_time; tf = 0; stratum = 0; leap = 0 }

pub count-is : (all : List Stamp) (i : ℕ) (d : Stamp) → i < length all → count_at all i ≡ (get_or all i d).tf
count-is all i d here = get_or-map (λ s. s.tf) all i d 0 here

-- the counts of accepted stamps are below 2^62, above 0, and rise
count-below : (freq : ℕ) (all : List Stamp) (i : ℕ) → AreAccepted freq all → i < length all → count_at all i < 2 ^ 62
count-below freq all i are here = omega (arith, count-is all i blank here, (are.timed i blank here).tf)

pub count-late : (freq : ℕ) (all : List Stamp) (i : ℕ) → AreAccepted freq all → i < length all → 0 < count_at all i
count-late freq all i are here = omega (arith, count-is all i blank here, (are.sound i blank here).counters)

pub counts-rise : (freq : ℕ) (all : List Stamp) (i j : ℕ) → AreAccepted freq all → i < j → j < length all → count_at all i < count_at all j
counts-rise freq all i j are order here =
    omega (arith, count-is all i blank (omega arith), count-is all j blank here, (are.follow i j blank order here).counters, (are.sound j blank here).counters)

pub count-before : (freq : ℕ) (all : List Stamp) (i : ℕ) → AreAccepted freq all → i < length all → count_before all i ≤ count_at all i
count-before freq all zero are here = omega arith
count-before freq all (suc i) are here = (let rises = counts-rise freq all i (suc i) are (omega arith) here in omega arith)

-- the first n accepted stamps
pub accepted-take : (freq n : ℕ) (xs : List Stamp) → AreAccepted freq xs → AreAccepted freq (take n xs)
accepted-take freq n xs are = record {
  timed = All-take IsInRange n xs are.timed;
  sound = All-take (IsPlausible freq) n xs are.sound;
  follow = λ i j d before here. rw (get_or-take n xs i d (omega (arith, length-take n xs)), get_or-take n xs j d (omega (arith, length-take n xs)))
      (are.follow i j d before (omega (arith, length-take n xs)));
}

-- the rates at accepted stamps are among those that are believed
pub rate-over : (reach freq : ℕ) (all : List Stamp) (i : ℕ) → AreAccepted freq all → IsRate freq (rate_over reach freq all i)
unfolding rate_over
rate-over reach freq all i are = by_pair (pair_of reach (take (i + 1) all)) refl
  where
    by_pair : (p : Option (Stamp × Stamp)) → pair_of reach (take (i + 1) all) ≡ p → IsRate freq (rate_by freq p)
    by_pair None e = nominal_is_rate freq
    by_pair (Some (j, k)) e =
        let pair = pair_of-accepted freq reach (take (i + 1) all) j k (accepted-take freq (i + 1) all are) e in
        pair_is_rate j k freq pair.sound_j pair.sound_k pair.follow

pub rate-in_use : (freq : ℕ) (all : List Stamp) (i : ℕ) → AreAccepted freq all → IsRate freq (rate_in_use freq all i)
rate-in_use freq all i are = by_test (is_local freq all i)
  where
    by_test : (b : Bool) → IsRate freq (cond b (local_rate freq all i) (global_rate freq all i))
    by_test true = rate-over 64 freq all i are
    by_test false = rate-over 1024 freq all i are

-- a time below 2^32 s is below 2^96 grains
time-below : (t : Bintime) → IsTime t → grains_of t < 2 ^ 96
time-below t is = omega (arith, ints, is.low, is.high)

-- what is bounded where it has a weight
weighed : (weight x m : ℕ) → (0 < weight → x ≤ m) → weight * x ≤ weight * m
weighed zero x m most = omega arith
weighed (suc w) x m most = mul-le-mul_left (suc w) (most (omega arith))

pub term-time : (freq base now : ℕ) (rate : Rate) (s : Stamp) → 1000000 ≤ freq → IsInRange s → IsPlausible freq s → IsRate freq rate
    → (let t = term_of freq base rate now s in t.weight * t.twice_time ≤ t.weight * (2 ^ 98 - 1))
term-time freq base now rate s low timed sound is =
    weighed _ _ (2 ^ 98 - 1) (λ some. omega (arith, time-below s.tb timed.tb, time-below s.te timed.te, since_below freq base now rate s sound is low some))

pub term-spread : (freq base now : ℕ) (rate : Rate) (s : Stamp) → 1000000 ≤ freq → IsPlausible freq s → IsRate freq rate
    → (let t = term_of freq base rate now s in t.weight * t.twice_spread ≤ t.weight * (2 ^ 98 - 1))
term-spread freq base now rate s low sound is = weighed _ _ (2 ^ 98 - 1) (λ some. omega (arith, spread_below freq base now rate s sound is low some))

-- so are the sums of such terms
sum-below : (f : Term → ℕ) (terms : List Term) → All (λ t. f t ≤ t.weight * (2 ^ 98 - 1)) terms → sum_by f terms ≤ weights_of terms * (2 ^ 98 - 1)
sum-below f [] each = omega arith
sum-below f (t ∷ ts) each =
    let this : f t ≤ t.weight * (2 ^ 98 - 1) = each 0 t (omega arith) in
    let rest = sum-below f ts (λ k d here. each (suc k) d (omega arith)) in
    omega (arith, sum_by-cons f t ts, sum_by-cons (λ t. t.weight) t ts)

-- a mean's time is below 2^97, and its spread at most 2^97 + 1
record IsMean (mean : Option (ℤ × ℕ)) : Type 0 where
  time : IfSome mean (λ m. (pos 0 ≤ℤ m.0) × (m.0 <ℤ pos (2 ^ 97)))
  spread : IfSome mean (λ m. m.1 ≤ 2 ^ 97 + 1)

mean-of : (terms : List Term) → times_of terms ≤ weights_of terms * (2 ^ 98 - 1) → spreads_of terms ≤ weights_of terms * (2 ^ 98 - 1) → IsMean (mean_of terms)
mean-of terms times spreads = by_weight (weights_of terms) refl
  where
    by_weight : (w : ℕ) → weights_of terms ≡ w → IsMean (mean_of terms)
    by_weight zero e = rw (mean_of_none terms e) (record { time = tt; spread = tt })
    by_weight (suc w) e =
        let some : 0 < weights_of terms = omega (arith, e) in
        let time = mean_below (times_of terms) (weights_of terms) some times in
        let spread = mean_below (spreads_of terms) (weights_of terms) some spreads in
        rw (mean_of_some terms some) (record { time = (omega (arith, ints), omega (arith, ints, time)); spread = omega (arith, spread) })

mean-at : (freq : ℕ) (all : List Stamp) (i : ℕ) → 1000000 ≤ freq → AreAccepted freq all → IsMean (mean_at freq all i)
unfolding mean_at
mean-at freq all i low are =
    let base : ℕ = (base_at freq all i).base in
    let from : ℕ = max (base_at freq all i).start (i - 31) in
    let rate : Rate = rate_in_use freq all i in
    let is : IsRate freq rate = rate-in_use freq all i are in
    let now : ℕ = count_at all i in
    let term : Stamp → Term = term_of freq base rate now in
    let Timely : Term → Type 0 = λ t. t.weight * t.twice_time ≤ t.weight * (2 ^ 98 - 1) in
    let Spread : Term → Type 0 = λ t. t.weight * t.twice_spread ≤ t.weight * (2 ^ 98 - 1) in
    let among : (P : Stamp → Type 0) → All P all → All P (slice_range all from (i + 1)) = λ P each. All-take P (i + 1 - from) (drop from all)
    (All-drop P from all each) in
    mean-of (terms_at freq all i)
    (sum-below (λ t. t.weight * t.twice_time) (terms_at freq all i)
    (All-map Timely term (slice_range all from (i + 1)) (among (λ s. Timely (term s))
    (λ k d here. term-time freq base now rate (get_or all k d) low (are.timed k d here) (are.sound k d here) is))))
    (sum-below (λ t. t.weight * t.twice_spread) (terms_at freq all i)
    (All-map Spread term (slice_range all from (i + 1)) (among (λ s. Spread (term s))
    (λ k d here. term-spread freq base now rate (get_or all k d) low (are.sound k d here) is))))

-- what is taken before a stamp is within the bounds of a daemon's
taken-bounded : (freq : ℕ) (all : List Stamp) (i : ℕ) → 1000000 ≤ freq → AreAccepted freq all → i ≤ length all
    → IsTakenBounded (taken_before freq all i) (count_before all i)
unfolding taken_before
taken-bounded freq all zero low are here = record { low = omega (arith, ints); high = omega (arith, ints); spread = omega arith; run = omega arith }
taken-bounded freq all (suc i) low are here =
    let t : Taken = taken_before freq all i in
    let before = taken-bounded freq all i low are (omega arith) in
    let rate : Rate = global_rate freq all i in
    let is : IsRate freq rate = rate-over 1024 freq all i are in
    let most = highest-bounded freq low in
    let mean = mean-at freq all i low are in
    let predicted = predicted-within rate t (count_before all i) (count_at all i) (omega (arith, is.high, is.highest, most))
    (omega (arith, is.highest, most)) (count-before freq all i are (omega arith)) before in
    chosen-bounded i t.run (predicted_by rate (count_at all i - count_before all i) t) (mean_at freq all i) (count_at all i) before.run predicted
    mean.time mean.spread

pub full-sane : (freq : ℕ) (all : List Stamp) (i : ℕ) → 1000000 ≤ freq → AreAccepted freq all → i < length all
    → is_sane_estimate (full_at freq all i).est ≡ true
unfolding full_at
full-sane freq all i low are here =
    let is : IsRate freq (global_rate freq all i) = rate-over 1024 freq all i are in
    let most = highest-bounded freq low in
    let update = count-below freq all i are here in
    let taken : IsTakenBounded (taken_at freq all i) (count_at all i) = taken-bounded freq all (suc i) low are (omega arith) in
    let time = number_of-of_grains (taken_at freq all i).time in
    let sane : IsSane (full_at freq all i).est = record {
      update = update;
      period = omega (arith, is.high, is.highest, most);
      low = rw time taken.low;
      high = rw time (omega (arith, ints, taken.high, update));
    } in
    sane-from (full_at freq all i).est sane (omega arith) (inl refl)
