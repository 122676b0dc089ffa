-- Which orders a clock takes.
use Rattle.std.specs.Prelude.{ℕ, pos, negsuc, int_lt, int_le, Bool, true, ◌&&◌, nat_lt, nat_le, ◌^◌}
use Rattle.ff_grain.specs.Grains.{number_of}
use Rattle.ff_hands.specs.declared.estimates.Estimate.{Estimate}
use Rattle.ff_hands.specs.declared.hands.Hands.{Hands}
use Rattle.ff_hands.specs.declared.hands.Order.{Order}
use Rattle.ff_hands.specs.declared.hands.Order.TheVariants as order

-- counts below 2^62, a period below 2^45, at most one leap second, and a time from 0 to below 2^109
-- grains
abbrev pub is_sane_estimate : Estimate → Bool
is_sane_estimate e =
    nat_lt e.update_ffcount (2 ^ 62) && nat_lt e.leapsec_next (2 ^ 62) && nat_lt e.period (2 ^ 45)
    && int_le (negsuc 0) e.leapsec && int_le e.leapsec (pos 1) && int_le (pos 0) (number_of e.update_time) && int_lt (number_of e.update_time) (pos (2 ^ 109))

abbrev pub is_sane : Order → Bool
is_sane order.Plain = true
is_sane (order.Take e) = is_sane_estimate e
is_sane (order.Reset e) = is_sane_estimate e

-- the estimate of an order is not of a later count, and that of a take is newer than the clock's
abbrev pub is_in_time : Hands → ℕ → Order → Bool
is_in_time h count order.Plain = true
is_in_time h count (order.Take e) = nat_le e.update_ffcount count && nat_lt h.est.update_ffcount e.update_ffcount
is_in_time h count (order.Reset e) = nat_le e.update_ffcount count

-- the order is sane, and the count does not go back
abbrev pub fits : Hands → ℕ → Order → Bool
fits h count o = is_sane o && nat_le h.count count && nat_lt count (2 ^ 62) && is_in_time h count o
