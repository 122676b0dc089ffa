-- Each estimate is within its spread.
use Rattle.std.proofs.Common.{◌≡◌, ◌⊎◌, inl, inr, ℕ, zero, suc, ◌+◌, ◌-◌, ◌<◌, ◌≤◌, Bool, true, false, cond, ℤ, max, List, [], ◌∷◌, length, get_or, take, drop, slice_range, Option, None, Some, IfSome, IsSome, refl, sym, subst, ◌∙◌, arith, length-take, length-drop, get_or-drop}
use Rattle.std.specs.List.{All}
use Rattle.std.proofs.Math.Nat.{eq-or-lt_of_le}
use Rattle.std.proofs.lemmas.List.{get_or-take}
use Rattle.std.proofs.lemmas.List.Elements.{All-map, All-take}
use Rattle.ff_grain.specs.Grains.{number_of}
use Rattle.stamp_text.specs.Accepted.{AreAccepted}
use Rattle.stamp_text.specs.declared.lines.Stamp.{Stamp}
use Rattle.rtt_window.specs.Bases.{base_at}
use Rattle.rtt_window.specs.Pairs.{pair_of}
use Rattle.rtt_window.proofs.Pairing.{pair_of-accepted, pair_of-both}
use Rattle.rate_pair.specs.declared.rates.Rate.{Rate}
use Rattle.offset_weights.specs.Means.{Term}
use Rattle.ff_hands.proofs.Winding.{number_of-of_grains}
use Rattle.ff_estimator.specs.Rates.{rate_by, rate_over, global_rate, local_rate, is_local, rate_in_use}
use Rattle.ff_estimator.specs.Terms.{term_of}
use Rattle.ff_estimator.specs.Means.{count_at, terms_at, mean_at}
use Rattle.ff_estimator.specs.Choices.{is_doubted, chosen, predicted_by, taken_before, taken_at}
use Rattle.ff_estimator.specs.Estimates.{full_at}
use Rattle.ff_estimator.specs.declared.choices.Taken.{Taken}
use Rattle.ff_estimator.proofs.FirstMeans.{mean_at-first}
use Rattle.ff_estimator.proofs.Sane as sane
use Rattle.world_times.specs.declared.world.World.{World}
use Rattle.world_times.specs.Worlds.{IsFit, LiesIn, distance}
use Rattle.world_laws.specs.Spreads.{Covers, twice_distance}
use Rattle.world_laws.proofs.RatesHold.{pair-covers, nominal-covers}
use Rattle.world_laws.proofs.TimesHold.{term-holds, mean-holds, prediction-holds}

-- no earlier reply came later
reply-before : (freq : ℕ) (all : List Stamp) (k i : ℕ) (d : Stamp) → AreAccepted freq all → k ≤ i → i < length all → (get_or all k d).tf ≤ count_at all i
reply-before freq all k i d are order here = by_order (eq-or-lt_of_le {n = k} {m = i} order)
  where
    by_order : (k ≡ i) ⊎ (k < i) → (get_or all k d).tf ≤ count_at all i
    by_order (inl same) = omega (arith, sane.count-is all i d here, subst (λ n. (get_or all k d).tf ≡ (get_or all n d).tf) same refl)
    by_order (inr below) = omega (arith, sane.count-is all k d (omega arith), sane.counts-rise freq all k i are below here)

-- what holds of each stamp up to one holds of those of a range up to it
among : (P : Stamp → Type 0) (all : List Stamp) (from i : ℕ) → ((k : ℕ) (d : Stamp) → k ≤ i → k < length all → P (get_or all k d)) → All P
    (slice_range all from (i + 1))
among P all from i each k d within =
    let few = length-take (i + 1 - from) (drop from all) in
    let rest = length-drop from all in
    let place : get_or (slice_range all from (i + 1)) k d ≡ get_or all (from + k) d = get_or-take (i + 1 - from) (drop from all) k d (omega arith)
    ∙ get_or-drop from all k d in
    subst P (sym place) (each (from + k) d (omega arith) (omega arith))

-- whichever is taken, where both are within their spreads
chosen-holds : (w : World) (now i run : ℕ) (predicted : ℤ × ℕ) (mean : Option (ℤ × ℕ)) → distance w predicted.0 now ≤ predicted.1
    → IfSome mean (λ m. distance w m.0 now ≤ m.1) → (let t = chosen i run predicted mean in distance w t.time now ≤ t.spread)
chosen-holds w now i run predicted None is means = is
chosen-holds w now i run predicted (Some mean) is means = by_test (is_doubted i run predicted.0 mean.0)
  where
    by_test : (b : Bool) → (let t = cond {A = Taken} b (record { time = predicted.0; spread = predicted.1; predicted = true; run = run + 1 })
        (record { time = mean.0; spread = mean.1; predicted = false; run = 0 }) in distance w t.time now ≤ t.spread)
    by_test true = is
    by_test false = means

-- at stamp 0 the mean is taken
first-holds : (w : World) (now run : ℕ) (predicted : ℤ × ℕ) (mean : Option (ℤ × ℕ)) → IsSome mean → IfSome mean (λ m. distance w m.0 now ≤ m.1)
    → (let t = chosen 0 run predicted mean in distance w t.time now ≤ t.spread)
first-holds w now run predicted None some means = absurd (cc)
first-holds w now run predicted (Some mean) some means = means

has-first : (freq : ℕ) (all : List Stamp) → 0 < length all → IsSome (mean_at freq all 0)
has-first freq [] some = absurd (omega arith)
has-first freq (s ∷ more) some = mean_at-first freq s more

module _ (freq : ℕ) (w : World) (all : List Stamp) (fit : IsFit freq w) (are : AreAccepted freq all) (lie : All (LiesIn w) all) where
  -- the bounds of a rate cover the true period
  pub rate-covers : (reach i : ℕ) → Covers (rate_over reach freq all i) w.period
  unfolding rate_over
  rate-covers reach i = by_pair (pair_of reach (take (i + 1) all)) refl
    where
      by_pair : (p : Option (Stamp × Stamp)) → pair_of reach (take (i + 1) all) ≡ p → Covers (rate_by freq p) w.period
      by_pair None e = nominal-covers freq w fit
      by_pair (Some (j, k)) e =
          let pair = pair_of-accepted freq reach (take (i + 1) all) j k (sane.accepted-take freq (i + 1) all are) e in
          let both = pair_of-both (LiesIn w) reach (take (i + 1) all) j k (All-take (LiesIn w) (i + 1) all lie) e in
          pair-covers freq w j k fit pair both.0 both.1

  in_use-covers : (i : ℕ) → Covers (rate_in_use freq all i) w.period
  in_use-covers i = by_test (is_local freq all i)
    where
      by_test : (b : Bool) → Covers (cond b (local_rate freq all i) (global_rate freq all i)) w.period
      by_test true = rate-covers 64 i
      by_test false = rate-covers 1024 i

  mean-at : (i : ℕ) → i < length all → IfSome (mean_at freq all i) (λ m. distance w m.0 (count_at all i) ≤ m.1)
  unfolding mean_at
  mean-at i here =
      let base : ℕ = (base_at freq all i).base in
      let from : ℕ = max (base_at freq all i).start (i - 31) in
      let rate : Rate = rate_in_use freq all i in
      let now : ℕ = count_at all i in
      let term : Stamp → Term = term_of freq base rate now in
      let Within : Term → Type 0 = λ t. twice_distance w t.twice_time now ≤ t.twice_spread in
      mean-holds freq now w (terms_at freq all i) fit
      (All-map Within term (slice_range all from (i + 1)) (among (λ s. Within (term s)) all from i (λ k d early there.
      term-holds freq base now w rate (get_or all k d) fit (are.timed k d there) (are.sound k d there) (lie k d there)
      (sane.rate-in_use freq all i are) (in_use-covers i) (reply-before freq all k i d are early here))))

  pub taken-holds : (i : ℕ) → i < length all → distance w (taken_at freq all i).time (count_at all i) ≤ (taken_at freq all i).spread
  unfolding taken_before
  taken-holds zero here = first-holds w (count_at all 0) _ _ (mean_at freq all 0) (has-first freq all here) (mean-at 0 here)
  taken-holds (suc i) here =
      let t : Taken = taken_at freq all i in
      let rate : Rate = global_rate freq all (suc i) in
      let now : ℕ = count_at all (suc i) in
      chosen-holds w now (suc i) t.run (predicted_by rate (now - count_at all i) t) (mean_at freq all (suc i))
      (prediction-holds freq (count_at all i) now w rate t (sane.rate-over 1024 freq all (suc i) are) (rate-covers 1024 (suc i))
      (sane.count-before freq all (suc i) are here) (taken-holds i (omega arith)))
      (mean-at (suc i) here)

  pub rate-holds : (i : ℕ) → Covers (full_at freq all i).rate w.period
  unfolding full_at
  rate-holds i = rate-covers 1024 i

  pub spread-holds : (i : ℕ) → i < length all → distance w (number_of (full_at freq all i).est.update_time) (full_at freq all i).est.update_ffcount ≤
      (full_at freq all i).spread
  unfolding full_at
  spread-holds i here = rw (number_of-of_grains (taken_at freq all i).time) (taken-holds i here)
