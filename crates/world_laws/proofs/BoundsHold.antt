-- The bounds of the absolute clock cover the truth.
use Rattle.std.proofs.Common.{◌≡◌, ℕ, zero, suc, ◌+◌, ◌-◌, ◌*◌, ◌<◌, ◌≤◌, ◌^◌, Bool, true, false, cond, min, pos, ◌+ℤ◌, ◌-ℤ◌, ◌*ℤ◌, unsigned_abs, List, length, get_or, slice_get, Some, sym, ap, subst, ◌∙◌, arith}
use Rattle.std.specs.Int.{div_ceil}
use Rattle.std.specs.List.{All, Contains}
use Rattle.std.proofs.Math.Nat.{mul-le-mul_left}
use Rattle.std.proofs.lemmas.Bool.{and_parts, or_parts, leb-true, ltb-false}
use Rattle.std.proofs.lemmas.Grind.{div_ceil_times}
use Rattle.std.proofs.lemmas.Int.{ints}
use Rattle.std.proofs.lemmas.List.{get_or-map, length-map}
use Rattle.std.proofs.lemmas.Option.{slice_get_within, slice_get-get_or, get_or_from_slice_get}
use Rattle.ff_grain.specs.Grains.{number_of}
use Rattle.stamp_text.specs.Accepted.{AreAccepted}
use Rattle.stamp_text.specs.declared.lines.Stamp.{Stamp}
use Rattle.rate_pair.specs.Rates.{IsRate, rate_error}
use Rattle.rate_pair.specs.declared.rates.Rate.{Rate}
use Rattle.ff_hands.specs.Journals.{order_of, IsJournal}
use Rattle.ff_hands.specs.Orders.{fits}
use Rattle.ff_hands.specs.Windups.{cold, moved_time, time_of, jumps, take_jump, take_on, wind_of}
use Rattle.ff_hands.specs.declared.estimates.Estimate.{Estimate}
use Rattle.ff_hands.specs.declared.hands.Hands.{Hands}
use Rattle.ff_hands.specs.declared.hands.Order.{Order}
use Rattle.ff_hands.specs.declared.hands.Order.TheVariants as order
use Rattle.ff_hands.proofs.Orders.{fits-on, fits-in_time}
use Rattle.ff_hands.proofs.Winding.{number_of-of_grains}
use Rattle.ff_estimator.specs.Rates.{global_rate}
use Rattle.ff_estimator.specs.Means.{count_at}
use Rattle.ff_estimator.specs.Choices.{taken_at}
use Rattle.ff_estimator.specs.Estimates.{nanos_of, rate_parts, full_at}
use Rattle.ff_estimator.specs.declared.choices.Taken.{Taken}
use Rattle.ff_estimator.specs.declared.fulls.Full.{Full}
use Rattle.ff_estimator.proofs.RateErrors.{period-positive}
use Rattle.ff_estimator.specs.Folds.{fold_of, estimates_of}
use Rattle.ff_estimator.proofs.Folds.{length-fold_of, get_or-fold_of, fold-all}
use Rattle.ff_estimator.proofs.Sane.{rate-over}
use Rattle.clock_lines.specs.Values.{leaps_at, time_bound, rate_bound, value_of, bound_of}
use Rattle.clock_lines.specs.declared.readings.Kind.TheVariants as kind
use Rattle.clock_lines.proofs.Spoken.{utc-is}
use Rattle.world_times.specs.declared.world.World.{World}
use Rattle.world_times.specs.Worlds.{IsFit, LiesIn, distance}
use Rattle.world_laws.specs.Journals.{leapless, GoesBy}
use Rattle.world_laws.specs.Truths.{IsTrueEstimate, IsTrueTick, AreTrueTicks}
use Rattle.world_laws.proofs.TimesHold.{drift}
use Rattle.world_laws.proofs.EstimatesHold.{rate-covers, taken-holds, rate-holds, spread-holds}

-- a spread that was not cut off is covered by its nanoseconds
nanos-cover : (spread : ℕ) → nanos_of spread ≤ 4294967295 → spread ≤ min 4294967295 (nanos_of spread) * 18446744074
nanos-cover spread few =
    let ceil : spread * 1000000000 ≤ nanos_of spread * 18446744073709551616 = (div_ceil_times (spread * 1000000000) 18446744073709551616 (omega arith)).0 in
    omega arith

-- the error of a rate over counts is covered by its parts
parts-cover : (rate : Rate) (n : ℕ) → 0 < rate.period → rate_error rate * n ≤ div_ceil (n * rate.period * rate_parts rate) 1000000000000
parts-cover rate n some =
    let parts : 1000000000000 * rate_error rate ≤ rate_parts rate * rate.period = (div_ceil_times (1000000000000 * rate_error rate) rate.period some).0 in
    let each : n * (1000000000000 * rate_error rate) ≤ n * (rate_parts rate * rate.period) = mul-le-mul_left n parts in
    let ceil : n * rate.period * rate_parts rate ≤ div_ceil (n * rate.period * rate_parts rate)
    1000000000000 * 1000000000000 = (div_ceil_times (n * rate.period * rate_parts rate) 1000000000000 (omega arith)).0 in
    omega arith

-- an estimate's time at a later count
estimate-covers : (freq : ℕ) (w : World) (all : List Stamp) (i count : ℕ) → 1000000 ≤ freq → freq ≤ 16000000000 → IsFit freq w → AreAccepted freq all
    → All (LiesIn w) all → i < length all
    → (let e = (full_at freq all i).est in e.status.unsync ≡ false → e.update_ffcount ≤ count → distance w (time_of e count) count ≤ time_bound e count)
unfolding full_at
estimate-covers freq w all i count low high fit are lie here sync late =
    let rate : Rate = global_rate freq all i in
    let is : IsRate freq rate = rate-over 1024 freq all i are in
    let t : Taken = taken_at freq all i in
    let u : ℕ = count_at all i in
    let n : ℕ = count - u in
    let near = drift freq rate w.period n is (rate-covers freq w all fit are lie 1024 i) in
    let within = taken-holds freq w all fit are lie i here in
    let spread = nanos-cover t.spread (ltb-false _ _ sync) in
    let error = parts-cover rate n (period-positive freq rate low high is) in
    let on : w.period * count ≡ w.period * (u + n) = ap (λ n. w.period * n) (omega arith) in
    let time = number_of-of_grains t.time in
    omega (arith, ints, near.above, near.below, on, within, time)

-- and the length of an interval at its period
interval-covers : (freq : ℕ) (w : World) (all : List Stamp) (i n : ℕ) → 1000000 ≤ freq → freq ≤ 16000000000 → IsFit freq w → AreAccepted freq all
    → All (LiesIn w) all
    → (let e = (full_at freq all i).est in unsigned_abs (pos (n * e.period) -ℤ pos (w.period * n)) ≤ rate_bound e n)
unfolding full_at
interval-covers freq w all i n low high fit are lie =
    let rate : Rate = global_rate freq all i in
    let is : IsRate freq rate = rate-over 1024 freq all i are in
    let near = drift freq rate w.period n is (rate-covers freq w all fit are lie 1024 i) in
    let error = parts-cover rate n (period-positive freq rate low high is) in
    omega (arith, ints, near.above, near.below)

pub estimates-true : (freq : ℕ) (w : World) (all : List Stamp) → 1000000 ≤ freq → freq ≤ 16000000000 → IsFit freq w → AreAccepted freq all
    → All (LiesIn w) all → All (IsTrueEstimate w) (fold_of freq all)
estimates-true freq w all low high fit are lie = fold-all (IsTrueEstimate w) freq all (λ i here. record {
  rate = rate-holds freq w all fit are lie i;
  spread = spread-holds freq w all fit are lie i here;
  later = λ sync count late. estimate-covers freq w all i count low high fit are lie here sync late;
})

-- hands that go by an estimate that was not cut off
record Tells (freq : ℕ) (all : List Stamp) (h : Hands) : Type 0 where
  index : ℕ
  here : index < length all
  is : leapless h.est ≡ (full_at freq all index).est
  sync : h.est.status.unsync ≡ false
  update : h.est.update_ffcount ≤ h.count
  time : number_of h.time ≡ time_of h.est h.count

-- an estimate of the fold is that at one of the stamps
record IsEstimate (freq : ℕ) (all : List Stamp) (e : Estimate) : Type 0 where
  index : ℕ
  here : index < length all
  is : e ≡ (full_at freq all index).est

among-fold : (freq : ℕ) (all : List Stamp) (e : Estimate) → Contains (estimates_of (fold_of freq all)) e → IsEstimate freq all e
among-fold freq all e (k, within, at) =
    let fulls = fold_of freq all in
    let here : k < length all = omega (arith, length-map fulls (λ f. f.est), length-fold_of freq all) in
    let d : Full = full_at freq all k in
    record {
      index = k;
      here = here;
      is = sym at ∙ get_or-map (λ f. f.est) fulls k d e (omega (arith, length-fold_of freq all)) ∙ ap (λ (f : Full). f.est) (get_or-fold_of freq all k d here);
    }

take-tells : (freq : ℕ) (all : List Stamp) (h : Hands) (count : ℕ) (e : Estimate) → IsEstimate freq all (leapless e) → e.update_ffcount ≤ count
    → e.status.unsync ≡ false
    → (b : Bool) → Tells freq all (cond b (take_jump h count e) (take_on h count e))
take-tells freq all h count e of reached sync true = record {
  index = of.index;
  here = of.here;
  is = of.is;
  sync = sync;
  update = reached;
  time = number_of-of_grains (time_of e count);
}
take-tells freq all h count e of reached sync false = record {
  index = of.index;
  here = of.here;
  is = of.is;
  sync = sync;
  update = reached;
  time = number_of-of_grains (time_of e count);
}

take-sync : (h : Hands) (count : ℕ) (e : Estimate) (b : Bool) → (cond b (take_jump h count e) (take_on h count e)).kstatus.unsync ≡ false
    → e.status.unsync ≡ false
take-sync h count e true sync = sync
take-sync h count e false sync = sync

wound-tells : (freq : ℕ) (all : List Stamp) (h : Hands) (count : ℕ) (o : Order) → fits h count o ≡ true → GoesBy freq all o
    → (h.kstatus.unsync ≡ false → Tells freq all h)
    → (wind_of h count o).kstatus.unsync ≡ false → Tells freq all (wind_of h count o)
unfolding wind_of
wound-tells freq all h count order.Plain f by before sync =
    let both = or_parts _ _ sync in
    let tells = before both.0 in
    let on = fits-on h count order.Plain f in
    let moved : (count - h.est.update_ffcount) * h.est.period ≡ (h.count - h.est.update_ffcount + (count - h.count)) * h.est.period = ap
    (λ n. n * h.est.period) (omega (arith, on.later, tells.update)) in
    record {
      index = tells.index;
      here = tells.here;
      is = tells.is;
      sync = tells.sync;
      update = omega (arith, on.later, tells.update);
      time = number_of-of_grains (moved_time h count) ∙ omega (arith, ints, tells.time, moved);
    }
wound-tells freq all h count (order.Take e) f by before sync =
    let reached = leb-true _ _ (and_parts _ _ (fits-in_time h count (order.Take e) f)).0 in
    take-tells freq all h count e (among-fold freq all (leapless e) by) reached (take-sync h count e (jumps h e) sync) (jumps h e)
wound-tells freq all h count (order.Reset e) f by before sync = absurd (cc)

tick-tells : (freq : ℕ) (all : List Stamp) (ticks : List Hands) → IsJournal ticks → All (λ h. GoesBy freq all (order_of h)) ticks
    → (n : ℕ) (h : Hands) → slice_get ticks n ≡ Some h → h.kstatus.unsync ≡ false → Tells freq all h
tick-tells freq all ticks is by zero h here sync =
    let same : cold ≡ h = (let e = sym is.first ∙ here in cc) in
    let clash : true ≡ false = subst (λ (h : Hands). h.kstatus.unsync ≡ false) (sym same) sync in
    absurd (cc)
tick-tells freq all ticks is by (suc n) h here sync =
    let place = slice_get_within ticks (suc n) h here in
    let within : n < length ticks = omega arith in
    let before : Hands = get_or ticks n cold in
    let there : slice_get ticks n ≡ Some before = slice_get-get_or ticks n cold within in
    let next : slice_get ticks (n + 1) ≡ Some h = (let e : n + 1 ≡ suc n = omega arith in ap (slice_get ticks) e ∙ here) in
    let follows = is.next n before h there next in
    let goes : GoesBy freq all (order_of h) = subst (λ (h : Hands). GoesBy freq all (order_of h)) (get_or_from_slice_get ticks (suc n) h h here)
    (by (suc n) h place) in
    subst (Tells freq all) (sym follows.wound)
    (wound-tells freq all before h.count (order_of h) follows.fits goes (tick-tells freq all ticks is by n before there)
    (subst (λ (h : Hands). h.kstatus.unsync ≡ false) follows.wound sync))

pub ticks-true : (freq : ℕ) (w : World) (all : List Stamp) (ticks : List Hands) → 1000000 ≤ freq → freq ≤ 16000000000 → IsFit freq w
    → AreAccepted freq all → All (LiesIn w) all → IsJournal ticks → All (λ h. GoesBy freq all (order_of h)) ticks → AreTrueTicks w ticks
unfolding value_of bound_of
ticks-true freq w all ticks low high fit are lie is by n h here sync = by_kind
  where
    tells : Tells freq all h
    tells = tick-tells freq all ticks is by n h here sync

    covers : (count : ℕ) → h.count ≤ count → distance w (time_of h.est count) count ≤ time_bound h.est count
    covers count late =
        subst (λ (e : Estimate). e.status.unsync ≡ false → e.update_ffcount ≤ count → distance w (time_of e count) count ≤ time_bound e count) (sym tells.is)
        (estimate-covers freq w all tells.index count low high fit are lie tells.here) tells.sync (omega (arith, tells.update))

    absolute : (count : ℕ) → h.count ≤ count → distance w (number_of (value_of h kind.Abs count)) count ≤ time_bound h.est count
    absolute count late =
        let moved : (count - h.est.update_ffcount) * h.est.period ≡ (h.count - h.est.update_ffcount + (count - h.count)) * h.est.period = ap
        (λ n. n * h.est.period) (omega (arith, tells.update)) in
        let time : number_of (value_of h kind.Abs count) ≡ time_of h.est count = number_of-of_grains (moved_time h count)
        ∙ omega (arith, ints, tells.time, moved) in
        rw time (covers count late)

    by_kind : IsTrueTick w h
    by_kind kind.Abs count late = absolute count late
    by_kind kind.Fast count at = subst (λ n. distance w (number_of h.time) n ≤ time_bound h.est n) at (rw tells.time (covers h.count (omega arith)))
    by_kind kind.Diff counts any =
        rw (number_of-of_grains (pos (counts * h.est.period)))
        (subst (λ (e : Estimate). unsigned_abs (pos (counts * e.period) -ℤ pos (w.period * counts)) ≤ rate_bound e counts) (sym tells.is)
        (interval-covers freq w all tells.index counts low high fit are lie))
    by_kind kind.Mono count late = tt
    by_kind kind.Uptime count late = tt
    by_kind kind.Back count late = tt
    by_kind kind.Utc count late =
        let back : number_of (value_of h kind.Utc count) +ℤ leaps_at h.est count *ℤ pos (2 ^ 64) ≡ number_of
        (value_of h kind.Abs count) = (let is = utc-is h count in omega (arith, ints)) in
        rw back (absolute count late)
