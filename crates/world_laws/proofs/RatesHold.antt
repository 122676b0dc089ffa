-- The bounds of a rate cover the true period.
use Rattle.std.proofs.Common.{◌≡◌, ℕ, ◌+◌, ◌-◌, ◌*◌, ◌/◌, ◌<◌, ◌≤◌, unsigned_abs, ap, arith}
use Rattle.std.specs.Int.{div_ceil}
use Rattle.std.proofs.Math.Nat.{div-le_of_le-mul}
use Rattle.std.proofs.lemmas.Nat.{le-div}
use Rattle.std.proofs.lemmas.Int.{ints}
use Rattle.ff_grain.specs.Periods.{lowest_period, highest_period}
use Rattle.stamp_text.specs.declared.lines.Stamp.{Stamp}
use Rattle.rtt_window.specs.Pairs.{ArePair}
use Rattle.rate_pair.specs.Rates.{nearest_period, rate_of, nominal_rate}
use Rattle.ff_grain.specs.Grains.{IsTime, grains_of}
use Rattle.world_times.specs.declared.world.World.{World}
use Rattle.world_times.specs.Worlds.{IsFit, LiesIn}
use Rattle.world_laws.specs.Spreads.{Covers}

-- a stamp in the world, in natural numbers
pub record IsIn (start period ta tb te tf : ℕ) : Type 0 where
  pub counters : ta < tf
  pub times : tb ≤ te
  pub request : start + period * ta ≤ tb
  pub reply : te ≤ start + period * tf

-- the grains between two stamps, by the counts between them with and without both round trips
record AreCounted (period grains counts trips : ℕ) : Type 0 where
  few : trips < counts
  most : grains ≤ (counts + trips) * period
  least : period * (counts - trips) ≤ grains

counted : (K P ta tb te tf ta' tb' te' tf' : ℕ) → IsIn K P ta tb te tf → IsIn K P ta' tb' te' tf' → tf < ta' → te ≤ tb'
    → AreCounted P ((tb' - tb) + (te' - te)) ((ta' - ta) + (tf' - tf)) ((tf - ta) + (tf' - ta'))
counted K P ta tb te tf ta' tb' te' tf' j k counters times =
    let long : ℕ = tf' - ta in
    let short : ℕ = ta' - tf in
    let C : ℕ = (ta' - ta) + (tf' - tf) in
    let T : ℕ = (tf - ta) + (tf' - ta') in
    let sum : (C + T) * P ≡ (2 * long) * P = ap (λ n. n * P) (omega (arith, j.counters, k.counters)) in
    let rest : P * (C - T) ≡ P * (2 * short) = ap (λ n. P * n) (omega (arith, j.counters, k.counters)) in
    let to_end : P * tf' ≡ P * (ta + long) = ap (λ n. P * n) (omega (arith, j.counters, k.counters)) in
    let to_next : P * ta' ≡ P * (tf + short) = ap (λ n. P * n) (omega arith) in
    record {
      few = omega (arith, j.counters, k.counters);
      most = omega (arith, j.request, j.times, k.times, k.reply);
      least = omega (arith, j.reply, j.times, k.times, k.request);
    }

-- the believed periods that are nearest to the bounds still are bounds
clamped : (freq P grains counts trips : ℕ) → lowest_period freq ≤ P → P ≤ highest_period freq → AreCounted P grains counts trips
    → (nearest_period freq (grains / (counts + trips)) ≤ P) × (P ≤ nearest_period freq (div_ceil grains (counts - trips)))
clamped freq P grains counts trips low high is =
    let below : grains / (counts + trips) ≤ P = div-le_of_le-mul (counts + trips) is.most in
    let above : P ≤ grains / (counts - trips) = le-div P grains (counts - trips) (omega (arith, is.few)) (omega (arith, is.least)) in
    (omega arith, omega arith)

-- a stamp that lies in the world
pub is-in : (freq : ℕ) (w : World) (s : Stamp) → IsFit freq w → LiesIn w s → IsTime s.tb → IsTime s.te → s.ta < s.tf
    → grains_of s.tb ≤ grains_of s.te → IsIn (unsigned_abs w.start) w.period s.ta (grains_of s.tb) (grains_of s.te) s.tf
is-in freq w s fit lies tb te counters times = record {
  counters = counters;
  times = times;
  request = omega (arith, ints, fit.start, lies.request, tb.low);
  reply = omega (arith, ints, fit.start, lies.reply, te.low);
}

pub pair-covers : (freq : ℕ) (w : World) (j k : Stamp) → IsFit freq w → ArePair freq j k → LiesIn w j → LiesIn w k → Covers (rate_of j k freq) w.period
unfolding rate_of
pair-covers freq w j k fit pair in_j in_k =
    let order_j : grains_of j.tb ≤ grains_of j.te = omega (arith, ints, pair.timed_j.tb.low, pair.timed_j.te.low, pair.sound_j.times) in
    let order_k : grains_of k.tb ≤ grains_of k.te = omega (arith, ints, pair.timed_k.tb.low, pair.timed_k.te.low, pair.sound_k.times) in
    let order : grains_of j.te ≤ grains_of k.tb = omega (arith, ints, pair.timed_j.te.low, pair.timed_k.tb.low, pair.follow.times) in
    let at_j = is-in freq w j fit in_j pair.timed_j.tb pair.timed_j.te pair.sound_j.counters order_j in
    let at_k = is-in freq w k fit in_k pair.timed_k.tb pair.timed_k.te pair.sound_k.counters order_k in
    let both = clamped freq w.period _ _ _ fit.lowest fit.highest (counted _ _ _ _ _ _ _ _ _ _ at_j at_k pair.follow.counters order) in
    record { low = both.0; high = both.1 }

pub nominal-covers : (freq : ℕ) (w : World) → IsFit freq w → Covers (nominal_rate freq) w.period
nominal-covers freq w fit = record { low = fit.lowest; high = fit.highest }
