-- Times are within their spreads.
use Rattle.std.proofs.Common.{◌≡◌, ℕ, zero, suc, ◌+◌, ◌-◌, ◌*◌, ◌/◌, ◌<◌, ◌≤◌, unsigned_abs, List, [], ◌∷◌, IfSome, refl, ap, arith}
use Rattle.std.specs.Int.{div_ceil}
use Rattle.std.specs.List.{All}
use Rattle.std.proofs.Math.Nat.{mul-le-mul_left, mul-le-mul_right, div-mul-le_self, lt-div-mul-add, le_of_mul-le-mul_left}
use Rattle.std.proofs.lemmas.Grind.{div_ceil_times}
use Rattle.std.proofs.lemmas.Int.{ints}
use Rattle.std.proofs.lemmas.List.Sums.{sum_by-cons}
use Rattle.stamp_text.specs.Accepted.{IsInRange, IsPlausible}
use Rattle.stamp_text.specs.declared.lines.Stamp.{Stamp}
use Rattle.rate_pair.specs.Rates.{IsRate, rate_error}
use Rattle.ff_grain.specs.Grains.{grains_of}
use Rattle.rate_pair.specs.declared.rates.Rate.{Rate}
use Rattle.offset_weights.specs.Means.{Term, weights_of, times_of, spreads_of, mean_of}
use Rattle.offset_weights.proofs.MeanLaws.{mean_of_none, mean_of_some}
use Rattle.ff_estimator.specs.Terms.{counts_since, term_of}
use Rattle.ff_estimator.specs.Choices.{predicted_by}
use Rattle.ff_estimator.specs.declared.choices.Taken.{Taken}
use Rattle.world_times.specs.declared.world.World.{World}
use Rattle.world_times.specs.Worlds.{IsFit, LiesIn, distance}
use Rattle.world_laws.specs.Spreads.{Covers, twice_distance}
use Rattle.world_laws.proofs.RatesHold.{IsIn, is-in}

-- two numbers that differ by at most a third
pub record AreNear (a b spread : ℕ) : Type 0 where
  pub above : a ≤ b + spread
  pub below : b ≤ a + spread

-- what counts take at the period of a rate, and what they truly take
pub drift : (freq : ℕ) (rate : Rate) (P g : ℕ) → IsRate freq rate → Covers rate P → AreNear (rate.period * g) (P * g) (rate_error rate * g)
drift freq rate P g is covers =
    let above : rate.period * g ≤ (P + rate_error rate) * g = mul-le-mul_right g (omega (arith, is.low, is.high, covers.low, covers.high)) in
    let below : P * g ≤ (rate.period + rate_error rate) * g = mul-le-mul_right g (omega (arith, is.low, is.high, covers.low, covers.high)) in
    record { above = omega arith; below = omega arith }

-- twice the time that a stamp says, in natural numbers
term-near : (K P high spread ta tb te tf now l : ℕ) → IsIn K P ta tb te tf → tf ≤ now → P ≤ high
    → (let g = (now - ta) + (now - tf) in AreNear (l * g) (P * g) spread
    → AreNear (tb + te + l * g) (2 * (K + P * now)) ((tf - ta) * high + spread))
term-near K P high spread ta tb te tf now l is late most near =
    let x : ℕ = now - ta in
    let y : ℕ = now - tf in
    let R : ℕ = tf - ta in
    let from_request : P * now ≡ P * (ta + x) = ap (λ n. P * n) (omega (arith, is.counters)) in
    let from_reply : P * now ≡ P * (tf + y) = ap (λ n. P * n) (omega arith) in
    let round : P * tf ≡ P * (ta + R) = ap (λ n. P * n) (omega (arith, is.counters)) in
    let noise : R * P ≤ R * high = mul-le-mul_left R most in
    record {
      above = omega (arith, near.above, is.request, is.times, is.reply);
      below = omega (arith, near.below, is.request, is.times, is.reply);
    }

pub term-holds : (freq base now : ℕ) (w : World) (rate : Rate) (s : Stamp) → IsFit freq w → IsInRange s → IsPlausible freq s → LiesIn w s
    → IsRate freq rate → Covers rate w.period → s.tf ≤ now
    → twice_distance w (term_of freq base rate now s).twice_time now ≤ (term_of freq base rate now s).twice_spread
term-holds freq base now w rate s fit timed sound lies is covers late =
    let order : grains_of s.tb ≤ grains_of s.te = omega (arith, ints, timed.tb.low, timed.te.low, sound.times) in
    let at = is-in freq w s fit lies timed.tb timed.te sound.counters order in
    let near = term-near (unsigned_abs w.start) w.period rate.high (rate_error rate * counts_since now s) s.ta (grains_of s.tb) (grains_of s.te) s.tf
    now rate.period at late covers.high (drift freq rate w.period (counts_since now s) is covers) in
    omega (arith, ints, fit.start, near.above, near.below)

-- sums of terms that are near to twice a number
sums-near : (Y : ℕ) (terms : List Term) → All (λ t. AreNear t.twice_time (2 * Y) t.twice_spread) terms
    → AreNear (times_of terms) (2 * Y * weights_of terms) (spreads_of terms)
sums-near Y [] each = record { above = omega arith; below = omega arith }
sums-near Y (t ∷ ts) each =
    let this = each 0 t (omega arith) in
    let rest = sums-near Y ts (λ k d here. each (suc k) d (omega arith)) in
    let above : t.weight * t.twice_time ≤ t.weight * (2 * Y + t.twice_spread) = mul-le-mul_left t.weight this.above in
    let below : t.weight * (2 * Y) ≤ t.weight * (t.twice_time + t.twice_spread) = mul-le-mul_left t.weight this.below in
    let weights : 2 * Y * weights_of (t ∷ ts) ≡ 2 * Y * (t.weight + weights_of ts) = ap (λ n. 2 * Y * n) (sum_by-cons (λ t. t.weight) t ts) in
    let times = sum_by-cons (λ t. t.weight * t.twice_time) t ts in
    let spreads = sum_by-cons (λ t. t.weight * t.twice_spread) t ts in
    record { above = omega (arith, rest.above); below = omega (arith, rest.below) }

-- the mean of such sums: rounded down it loses less than one
mean-near : (Y T S W : ℕ) → 0 < W → AreNear T (2 * Y * W) S → AreNear (T / (2 * W)) Y (div_ceil S (2 * W) + 1)
mean-near Y T S W some near =
    let V : ℕ = 2 * W in
    let q : ℕ = T / V in
    let c : ℕ = div_ceil S V in
    let floor : q * V ≤ T = div-mul-le_self T V in
    let next : T < q * V + V = lt-div-mul-add {a = T} (omega arith) in
    let ceil : S ≤ c * V = (div_ceil_times S V (omega arith)).0 in
    let above : V * q ≤ V * (Y + c) = omega (arith, near.above) in
    let below : V * Y ≤ V * (q + (c + 1)) = omega (arith, near.below) in
    record {
      above = (let less = le_of_mul-le-mul_left above (omega arith) in omega arith);
      below = le_of_mul-le-mul_left below (omega arith);
    }

pub mean-holds : (freq now : ℕ) (w : World) (terms : List Term) → IsFit freq w → All (λ t. twice_distance w t.twice_time now ≤ t.twice_spread) terms
    → IfSome (mean_of terms) (λ m. distance w m.0 now ≤ m.1)
mean-holds freq now w terms fit each = by_weight (weights_of terms) refl
  where
    by_weight : (n : ℕ) → weights_of terms ≡ n → IfSome (mean_of terms) (λ m. distance w m.0 now ≤ m.1)
    by_weight zero e = rw (mean_of_none terms e) tt
    by_weight (suc n) e =
        let some : 0 < weights_of terms = omega (arith, e) in
        let Y : ℕ = unsigned_abs w.start + w.period * now in
        let sums = sums-near Y terms (λ k d here. (let this = each k d here in
        record { above = omega (arith, ints, fit.start, this); below = omega (arith, ints, fit.start, this) })) in
        let near = mean-near Y (times_of terms) (spreads_of terms) (weights_of terms) some sums in
        rw (mean_of_some terms some) (omega (arith, ints, fit.start, near.above, near.below))

pub prediction-holds : (freq before now : ℕ) (w : World) (rate : Rate) (t : Taken) → IsRate freq rate → Covers rate w.period → before ≤ now
    → distance w t.time before ≤ t.spread
    → distance w (predicted_by rate (now - before) t).0 now ≤ (predicted_by rate (now - before) t).1
prediction-holds freq before now w rate t is covers order within =
    let near = drift freq rate w.period (now - before) is covers in
    let on : w.period * now ≡ w.period * (before + (now - before)) = ap (λ n. w.period * n) (omega arith) in
    omega (arith, ints, near.above, near.below, on, within)
