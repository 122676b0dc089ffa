-- What a windup keeps.
use Rattle.std.proofs.Common.{◌≡◌, ◌≢◌, ℕ, ◌+◌, ◌-◌, ◌*◌, ◌/◌, ◌<◌, ◌≤◌, Bool, true, false, cond, ℤ, pos, negsuc, ◌+ℤ◌, ◌-ℤ◌, ◌≤ℤ◌, int_lt, unsigned_abs, min, refl, arith, ◌^◌}
use Rattle.std.proofs.Math.Nat.{div-mul-le_self, le_of_mul-le-mul_left, mul-le-mul_left}
use Rattle.std.proofs.lemmas.Bool.{and_parts, ltb-true, leb-true}
use Rattle.std.proofs.lemmas.Int.{ints}
use Rattle.ff_grain.specs.Grains.{number_of, of_grains}
use Rattle.ff_hands.specs.Bounds.{IsBounded, IsSane}
use Rattle.ff_hands.specs.Orders.{fits}
use Rattle.ff_hands.specs.Windups.{cold, moved_time, moved_lerp, time_of, correction, corrected, jumps, plain, take_jump, take_on, take, reset, wind_of}
use Rattle.ff_hands.specs.declared.estimates.Estimate.{Estimate}
use Rattle.ff_hands.specs.declared.hands.Hands.{Hands}
use Rattle.ff_hands.specs.declared.hands.How.TheVariants as how
use Rattle.ff_hands.specs.declared.hands.Order.{Order}
use Rattle.ff_hands.specs.declared.hands.Order.TheVariants as order
use Rattle.ff_hands.specs.Journals.{order_of}
use Rattle.ff_hands.proofs.Orders.{GoesOn, sane-is, fits-on, fits-sane, fits-in_time}

pub number_of-of_grains : (z : ℤ) → number_of (of_grains z) ≡ z
number_of-of_grains (pos a) = omega (arith, ints)
number_of-of_grains (negsuc a) = omega (arith, ints)

-- the correction is at most a two-hundredth of the period
slope : (gap counts period : ℕ) → 0 < counts → 200 * correction gap counts period ≤ period
slope gap counts period some =
    let c : ℕ = correction gap counts period in
    let capped : c * counts ≤ min gap (counts * period / 2 ^ 64 * 5000000 * 18446744073) = div-mul-le_self _ counts in
    let seconds : counts * period / 2 ^ 64 * 2 ^ 64 ≤ counts * period = div-mul-le_self _ (2 ^ 64) in
    let all : counts * (200 * c) ≤ counts * period = omega arith in
    le_of_mul-le-mul_left all some

record IsSloped (period slope : ℕ) : Type 0 where
  low : 199 * period ≤ 200 * slope
  high : 200 * slope ≤ 201 * period

sloped : (forward : Bool) (gap counts period : ℕ) → 0 < counts → IsSloped period (corrected forward gap counts period)
sloped true gap counts period some = let s = slope gap counts period some in record { low = omega arith; high = omega arith }
sloped false gap counts period some = let s = slope gap counts period some in record { low = omega arith; high = omega arith }

-- an estimate's time at a count
record IsTimeOf (e : Estimate) (count : ℕ) : Type 0 where
  low : pos 0 ≤ℤ time_of e count
  high : time_of e count ≤ℤ pos (2 ^ 109 + 2 ^ 46 * count)
  since : time_of e count ≤ℤ (number_of e.update_time +ℤ pos (2 ^ 46 * count))
  not_before : number_of e.update_time ≤ℤ time_of e count

timed : (e : Estimate) (count : ℕ) → IsSane e → IsTimeOf e count
timed e count sane =
    let most : (count - e.update_ffcount) * e.period ≤ (count - e.update_ffcount) * 2 ^ 46 = mul-le-mul_left (count - e.update_ffcount)
    (omega (arith, sane.period)) in
    record { low = omega (arith, ints, sane.low); high = omega (arith, ints, sane.high); since = omega (arith, ints); not_before = omega (arith, ints) }

-- the clocks moved on to a count
record IsMoved (h : Hands) (count : ℕ) : Type 0 where
  time_low : pos 0 ≤ℤ moved_time h count
  time_high : moved_time h count ≤ℤ pos (2 ^ 109 + 2 ^ 46 * count)
  lerp_low : pos 0 ≤ℤ moved_lerp h count
  lerp_high : moved_lerp h count ≤ℤ pos (2 ^ 109 + 2 ^ 46 * count)
  uptime_low : number_of h.boot ≤ℤ moved_lerp h count
  uptime_high : moved_lerp h count ≤ℤ (number_of h.boot +ℤ pos (2 ^ 46 * count))

moves : (h : Hands) (count : ℕ) → IsBounded h → GoesOn h count → IsMoved h count
moves h count is on =
    let time : (count - h.count) * h.est.period ≤ (count - h.count) * 2 ^ 46 = mul-le-mul_left (count - h.count) (omega (arith, is.period)) in
    let lerp : (count - h.count) * h.period_lerp ≤ (count - h.count) * 2 ^ 46 = mul-le-mul_left (count - h.count) (omega (arith, is.period, is.slope_high)) in
    record {
      time_low = omega (arith, ints, is.time_low);
      time_high = omega (arith, ints, is.time_high, on.later);
      lerp_low = omega (arith, ints, is.lerp_low);
      lerp_high = omega (arith, ints, is.lerp_high, on.later);
      uptime_low = omega (arith, ints, is.uptime_low);
      uptime_high = omega (arith, ints, is.uptime_high, on.later);
    }

-- the clocks go on
plain-bounded : (h : Hands) (count : ℕ) → IsBounded h → GoesOn h count → IsBounded (plain h count)
plain-bounded h count is on =
    let m = moves h count is on in
    let time = number_of-of_grains (moved_time h count) in
    let lerp = number_of-of_grains (moved_lerp h count) in
    record {
      count = on.most;
      update = omega (arith, is.update, on.later);
      period = is.period;
      slope_low = is.slope_low;
      slope_high = is.slope_high;
      time_low = rw time m.time_low;
      time_high = rw time m.time_high;
      lerp_low = rw lerp m.lerp_low;
      lerp_high = rw lerp m.lerp_high;
      uptime_low = rw lerp m.uptime_low;
      uptime_high = rw lerp m.uptime_high;
    }

-- the uninterrupted clock goes on behind a new estimate
take_on-bounded : (h : Hands) (count : ℕ) (e : Estimate) → IsBounded h → GoesOn h count → IsSane e → e.update_ffcount ≤ count
    → h.est.update_ffcount < e.update_ffcount → IsBounded (take_on h count e)
take_on-bounded h count e is on sane update newer =
    let m = moves h count is on in
    let t = timed e count sane in
    let time = number_of-of_grains (time_of e count) in
    let lerp = number_of-of_grains (moved_lerp h count) in
    let slope = sloped (int_lt (moved_lerp h count) (time_of e count)) (unsigned_abs (time_of e count -ℤ moved_lerp h count))
    (e.update_ffcount - h.est.update_ffcount) e.period (omega arith) in
    record {
      count = on.most;
      update = update;
      period = sane.period;
      slope_low = slope.low;
      slope_high = slope.high;
      time_low = rw time t.low;
      time_high = rw time t.high;
      lerp_low = rw lerp m.lerp_low;
      lerp_high = rw lerp m.lerp_high;
      uptime_low = rw lerp m.uptime_low;
      uptime_high = rw lerp m.uptime_high;
    }

-- the boot time moves with the uninterrupted clock
take_jump-bounded : (h : Hands) (count : ℕ) (e : Estimate) → IsBounded h → GoesOn h count → IsSane e → e.update_ffcount ≤ count
    → IsBounded (take_jump h count e)
take_jump-bounded h count e is on sane update =
    let m = moves h count is on in
    let t = timed e count sane in
    let time = number_of-of_grains (time_of e count) in
    let boot = number_of-of_grains (number_of h.boot +ℤ (time_of e count -ℤ moved_lerp h count)) in
    record {
      count = on.most;
      update = update;
      period = sane.period;
      slope_low = omega arith;
      slope_high = omega arith;
      time_low = rw time t.low;
      time_high = rw time t.high;
      lerp_low = rw time t.low;
      lerp_high = rw time t.high;
      uptime_low = rw (time, boot) (omega (arith, ints, m.uptime_low));
      uptime_high = rw (time, boot) (omega (arith, ints, m.uptime_high));
    }

-- all clocks begin anew
reset-bounded : (count : ℕ) (e : Estimate) → count < 2 ^ 62 → IsSane e → e.update_ffcount ≤ count → IsBounded (reset count e)
reset-bounded count e most sane update =
    let t = timed e count sane in
    let time = number_of-of_grains (time_of e count) in
    record {
      count = most;
      update = update;
      period = sane.period;
      slope_low = omega arith;
      slope_high = omega arith;
      time_low = rw time t.low;
      time_high = rw time t.high;
      lerp_low = rw time t.low;
      lerp_high = rw time t.high;
      uptime_low = rw time t.not_before;
      uptime_high = rw time t.since;
    }

take-bounded : (h : Hands) (count : ℕ) (e : Estimate) → IsBounded h → GoesOn h count → IsSane e → e.update_ffcount ≤ count
    → h.est.update_ffcount < e.update_ffcount → IsBounded (take h count e)
take-bounded h count e is on sane update newer = by_test (jumps h e)
  where
    by_test : (b : Bool) → IsBounded (cond b (take_jump h count e) (take_on h count e))
    by_test true = take_jump-bounded h count e is on sane update
    by_test false = take_on-bounded h count e is on sane update newer

pub wind-bounded : (h : Hands) (count : ℕ) (o : Order) → IsBounded h → fits h count o ≡ true → IsBounded (wind_of h count o)
unfolding wind_of
wind-bounded h count order.Plain is f = plain-bounded h count is (fits-on h count order.Plain f)
wind-bounded h count (order.Take e) is f =
    let in_time = and_parts _ _ (fits-in_time h count (order.Take e) f) in
    take-bounded h count e is (fits-on h count (order.Take e) f) (sane-is e (fits-sane h count (order.Take e) f)) (leb-true _ _ in_time.0)
    (ltb-true _ _ in_time.1)
wind-bounded h count (order.Reset e) is f =
    let on = fits-on h count (order.Reset e) f in
    reset-bounded count e on.most (sane-is e (fits-sane h count (order.Reset e) f)) (leb-true _ _ (fits-in_time h count (order.Reset e) f))

pub cold-bounded : IsBounded cold
cold-bounded = record {
  count = omega arith;
  update = omega arith;
  period = omega arith;
  slope_low = omega arith;
  slope_high = omega arith;
  time_low = omega (arith, ints);
  time_high = omega (arith, ints);
  lerp_low = omega (arith, ints);
  lerp_high = omega (arith, ints);
  uptime_low = omega (arith, ints);
  uptime_high = omega (arith, ints);
}

-- but for resets and jumps the uninterrupted clock goes on where it is
pub line-goes_on : (h : Hands) (count : ℕ) (o : Order) → (wind_of h count o).how ≢ how.Reset → (wind_of h count o).how ≢ how.Jump
    → number_of (wind_of h count o).lerp ≡ moved_lerp h count
unfolding wind_of
line-goes_on h count order.Plain not_reset not_jump = number_of-of_grains (moved_lerp h count)
line-goes_on h count (order.Take e) not_reset not_jump = by_test (jumps h e) not_jump
  where
    by_test : (b : Bool) → (cond b (take_jump h count e) (take_on h count e)).how ≢ how.Jump
        → number_of (cond b (take_jump h count e) (take_on h count e)).lerp ≡ moved_lerp h count
    by_test true not = absurd (not refl)
    by_test false not = number_of-of_grains (moved_lerp h count)
line-goes_on h count (order.Reset e) not_reset not_jump = absurd (not_reset refl)

-- but for resets the uptime goes on where it is
pub uptime-goes_on : (h : Hands) (count : ℕ) (o : Order) → (wind_of h count o).how ≢ how.Reset
    → number_of (wind_of h count o).lerp -ℤ number_of (wind_of h count o).boot ≡ moved_lerp h count -ℤ number_of h.boot
unfolding wind_of
uptime-goes_on h count order.Plain not_reset = rw (number_of-of_grains (moved_lerp h count))
uptime-goes_on h count (order.Take e) not_reset = by_test (jumps h e)
  where
    by_test : (b : Bool) → number_of (cond b (take_jump h count e) (take_on h count e)).lerp -ℤ number_of
        (cond b (take_jump h count e) (take_on h count e)).boot ≡ moved_lerp h count -ℤ number_of h.boot
    by_test true = rw (number_of-of_grains (time_of e count), number_of-of_grains (number_of h.boot +ℤ (time_of e count -ℤ moved_lerp h count)))
        (omega (arith, ints))
    by_test false = rw (number_of-of_grains (moved_lerp h count))
uptime-goes_on h count (order.Reset e) not_reset = absurd (not_reset refl)

-- hands tell the order that made them
pub order_of-wound : (h : Hands) (count : ℕ) (o : Order) → order_of (wind_of h count o) ≡ o
unfolding wind_of
order_of-wound h count order.Plain = refl
order_of-wound h count (order.Take e) = by_test (jumps h e)
  where
    by_test : (b : Bool) → order_of (cond b (take_jump h count e) (take_on h count e)) ≡ order.Take e
    by_test true = refl
    by_test false = refl
order_of-wound h count (order.Reset e) = refl

pub count-wound : (h : Hands) (count : ℕ) (o : Order) → (wind_of h count o).count ≡ count
unfolding wind_of
count-wound h count order.Plain = refl
count-wound h count (order.Take e) = by_test (jumps h e)
  where
    by_test : (b : Bool) → (cond b (take_jump h count e) (take_on h count e)).count ≡ count
    by_test true = refl
    by_test false = refl
count-wound h count (order.Reset e) = refl
