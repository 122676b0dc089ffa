-- What an order has that fits.
use Rattle.std.proofs.Common.{◌≡◌, ℕ, ◌<◌, ◌≤◌, true, arith, ◌^◌}
use Rattle.std.proofs.lemmas.Bool.{and_parts, ltb-true, leb-true}
use Rattle.std.proofs.lemmas.Int.{ints}
use Rattle.ff_hands.specs.Bounds.{IsSane}
use Rattle.ff_hands.specs.Orders.{is_sane_estimate, is_sane, is_in_time, fits}
use Rattle.ff_hands.specs.declared.estimates.Estimate.{Estimate}
use Rattle.ff_hands.specs.declared.hands.Hands.{Hands}
use Rattle.ff_hands.specs.declared.hands.Order.{Order}

pub sane-is : (e : Estimate) → is_sane_estimate e ≡ true → IsSane e
sane-is e h =
    let high = and_parts _ _ h in
    let low = and_parts _ _ high.0 in
    let leap_high = and_parts _ _ low.0 in
    let leap_low = and_parts _ _ leap_high.0 in
    let period = and_parts _ _ leap_low.0 in
    let update = and_parts _ _ period.0 in
    record {
      update = ltb-true _ _ update.0;
      period = ltb-true _ _ period.1;
      low = omega (arith, ints, low.1);
      high = omega (arith, ints, high.1);
    }

-- the count goes on, and stays below 2^62
pub record GoesOn (h : Hands) (count : ℕ) : Type 0 where
  pub later : h.count ≤ count
  pub most : count < 2 ^ 62

pub fits-on : (h : Hands) (count : ℕ) (o : Order) → fits h count o ≡ true → GoesOn h count
fits-on h count o f =
    let in_time = and_parts _ _ f in
    let most = and_parts _ _ in_time.0 in
    let later = and_parts _ _ most.0 in
    record { later = leb-true _ _ later.1; most = ltb-true _ _ most.1 }

pub fits-sane : (h : Hands) (count : ℕ) (o : Order) → fits h count o ≡ true → is_sane o ≡ true
fits-sane h count o f = (and_parts _ _ (and_parts _ _ (and_parts _ _ f).0).0).0

pub fits-in_time : (h : Hands) (count : ℕ) (o : Order) → fits h count o ≡ true → is_in_time h count o ≡ true
fits-in_time h count o f = (and_parts _ _ f).1
