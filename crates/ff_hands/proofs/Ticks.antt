-- What each tick of a journal has.
use Rattle.std.proofs.Common.{◌≡◌, ◌≢◌, ℕ, ◌+◌, ◌-◌, Bool, true, false, cond, List, length, get_or, slice_get, Some, pos, negsuc, int_le, neg_ℤ, ◌-ℤ◌, ◌≤ℤ◌, ◌<◌, ◌^◌, refl, ap, subst, ◌∙◌, arith}
use Rattle.std.proofs.lemmas.Bool.{and_parts, ltb-true}
use Rattle.std.proofs.lemmas.Int.{ints}
use Rattle.std.proofs.lemmas.List.Sorted.{IsNonDecreasingBy-from_all_adjacent}
use Rattle.std.proofs.lemmas.Option.{slice_get-get_or}
use Rattle.std.specs.List.Sorted.{IsNonDecreasingBy}
use Rattle.ff_grain.specs.Grains.{number_of}
use Rattle.ff_hands.specs.Journals.{order_of, Follows, IsJournal, IsSound}
use Rattle.ff_hands.specs.Orders.{is_sane_estimate, fits}
use Rattle.ff_hands.specs.Windups.{jumps, moved_lerp, take_jump, take_on, wind_of}
use Rattle.ff_hands.specs.declared.estimates.Estimate.{Estimate}
use Rattle.ff_hands.specs.declared.hands.Hands.{Hands}
use Rattle.ff_hands.specs.declared.hands.How.TheVariants as how
use Rattle.ff_hands.specs.declared.hands.Order.{Order}
use Rattle.ff_hands.specs.declared.hands.Order.TheVariants as order
use Rattle.ff_hands.proofs.Orders.{fits-on, fits-sane}
use Rattle.ff_hands.proofs.Winding.{line-goes_on, uptime-goes_on}
use Rattle.ff_hands.proofs.Sounding.{by-ticks, cold-sound, sound-wound}

-- each tick of a journal is sound
pub tick-sound : (ticks : List Hands) → IsJournal ticks → (n : ℕ) (h : Hands) → slice_get ticks n ≡ Some h → IsSound h
tick-sound ticks is = by-ticks IsSound ticks is cold-sound sound-wound

-- its estimate is sane
wind-sane : (h : Hands) (count : ℕ) (o : Order) → is_sane_estimate h.est ≡ true → fits h count o ≡ true → is_sane_estimate (wind_of h count o).est ≡ true
unfolding wind_of
wind-sane h count order.Plain is f = is
wind-sane h count (order.Take e) is f = by_test (jumps h e)
  where
    by_test : (b : Bool) → is_sane_estimate (cond b (take_jump h count e) (take_on h count e)).est ≡ true
    by_test true = fits-sane h count (order.Take e) f
    by_test false = fits-sane h count (order.Take e) f
wind-sane h count (order.Reset e) is f = fits-sane h count (order.Reset e) f

pub sound-sane : (h : Hands) → IsSound h → is_sane_estimate h.est ≡ true
sound-sane h is = by-ticks (λ h. is_sane_estimate h.est ≡ true) is.ticks is.journal refl wind-sane (length is.ticks - 1) h is.last

-- so there is at most one leap second
sane-leap : (e : Estimate) → is_sane_estimate e ≡ true → (neg_ℤ (pos 1) ≤ℤ e.leapsec) × (e.leapsec ≤ℤ pos 1)
sane-leap e h =
    let high = and_parts _ _ h in
    let low = and_parts _ _ high.0 in
    let leap_high = and_parts _ _ low.0 in
    let leap_low = and_parts _ _ leap_high.0 in
    let above : int_le (negsuc 0) e.leapsec ≡ true = leap_low.1 in
    let below : int_le e.leapsec (pos 1) ≡ true = leap_high.1 in
    (omega (arith, ints, above), omega (arith, ints, below))

-- which is due at a count below 2^62
sane-next : (e : Estimate) → is_sane_estimate e ≡ true → e.leapsec_next < 2 ^ 62
sane-next e h =
    let high = and_parts _ _ h in
    let low = and_parts _ _ high.0 in
    let leap_high = and_parts _ _ low.0 in
    let leap_low = and_parts _ _ leap_high.0 in
    let period = and_parts _ _ leap_low.0 in
    let next = and_parts _ _ period.0 in
    ltb-true _ _ next.1

pub sound-leap : (h : Hands) → IsSound h → (neg_ℤ (pos 1) ≤ℤ h.est.leapsec) × (h.est.leapsec ≤ℤ pos 1)
sound-leap h is = sane-leap h.est (sound-sane h is)

pub sound-next : (h : Hands) → IsSound h → h.est.leapsec_next < 2 ^ 62
sound-next h is = sane-next h.est (sound-sane h is)

-- the counts of a journal never fall
pub journal-rises : (ticks : List Hands) → IsJournal ticks → IsNonDecreasingBy (λ h. h.count) ticks
journal-rises ticks is = IsNonDecreasingBy-from_all_adjacent (λ (h : Hands). h.count) ticks (λ k d within.
    let at = slice_get-get_or ticks k d (omega arith) in
    let then = slice_get-get_or ticks (k + 1) d within in
    let follows = is.next k (get_or ticks k d) (get_or ticks (k + 1) d) at then in
    (fits-on (get_or ticks k d) _ (order_of (get_or ticks (k + 1) d)) follows.fits).later)

-- but for resets and jumps the uninterrupted clock goes on where it is
pub follows-line : (h next : Hands) → Follows h next → next.how ≢ how.Reset → next.how ≢ how.Jump → number_of next.lerp ≡ moved_lerp h next.count
follows-line h next follows not_reset not_jump =
    let line = line-goes_on h next.count (order_of next) (subst (λ t. t.how ≢ how.Reset) follows.wound not_reset)
    (subst (λ t. t.how ≢ how.Jump) follows.wound not_jump) in
    ap (λ (t : Hands). number_of t.lerp) follows.wound ∙ line

-- but for resets the uptime goes on
pub follows-uptime : (h next : Hands) → Follows h next → next.how ≢ how.Reset
    → number_of next.lerp -ℤ number_of next.boot ≡ moved_lerp h next.count -ℤ number_of h.boot
follows-uptime h next follows not_reset =
    let line = uptime-goes_on h next.count (order_of next) (subst (λ t. t.how ≢ how.Reset) follows.wound not_reset) in
    ap (λ (t : Hands). number_of t.lerp -ℤ number_of t.boot) follows.wound ∙ line
