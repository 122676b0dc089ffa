-- When an estimate is sane.
use Rattle.std.proofs.Common.{◌≡◌, ◌⊎◌, inl, inr, ℤ, ◌^◌, ◌<◌, Bool, true, false, T, ◌&&◌, nat_lt, pos, negsuc, int_le, int_lt, refl, arith}
use Rattle.std.proofs.lemmas.Bool.Decides.{nat_tests}
use Rattle.ff_grain.specs.Grains.{number_of}
use Rattle.ff_hands.specs.Bounds.{IsSane}
use Rattle.ff_hands.specs.Orders.{is_sane_estimate}
use Rattle.ff_hands.specs.declared.estimates.Estimate.{Estimate}

pub and_both : (a b : Bool) → a ≡ true → b ≡ true → (a && b) ≡ true
and_both a b p q = grind (arith, nat_tests)

passed : (b : Bool) → T b → b ≡ true
passed true t = refl
passed false t = absurd t

-- one leap second at most
abbrev pub IsSign : ℤ → Type 0
IsSign leap = (leap ≡ pos 0) ⊎ (leap ≡ pos 1) ⊎ (leap ≡ negsuc 0)

sign-low : (leap : ℤ) → IsSign leap → int_le (negsuc 0) leap ≡ true
sign-low leap (inl e) = rw e refl
sign-low leap (inr (inl e)) = rw e refl
sign-low leap (inr (inr e)) = rw e refl

sign-high : (leap : ℤ) → IsSign leap → int_le leap (pos 1) ≡ true
sign-high leap (inl e) = rw e refl
sign-high leap (inr (inl e)) = rw e refl
sign-high leap (inr (inr e)) = rw e refl

-- an estimate is sane by its parts
pub sane-from : (e : Estimate) → IsSane e → e.leapsec_next < 2 ^ 62 → IsSign e.leapsec → is_sane_estimate e ≡ true
sane-from e is next leap =
    let below : e.update_ffcount < 4611686018427387904 = is.update in
    let fast : e.period < 35184372088832 = is.period in
    let update : nat_lt e.update_ffcount 4611686018427387904 ≡ true = grind (arith, nat_tests) in
    let due : nat_lt e.leapsec_next 4611686018427387904 ≡ true = grind (arith, nat_tests) in
    let period : nat_lt e.period 35184372088832 ≡ true = grind (arith, nat_tests) in
    let least : int_le (negsuc 0) e.leapsec ≡ true = sign-low e.leapsec leap in
    let most : int_le e.leapsec (pos 1) ≡ true = sign-high e.leapsec leap in
    let low : int_le (pos 0) (number_of e.update_time) ≡ true = passed _ is.low.le in
    let high : int_lt (number_of e.update_time) (pos 649037107316853453566312041152512) ≡ true = passed _ is.high.lt in
    and_both _ _ (and_both _ _ (and_both _ _ (and_both _ _ (and_both _ _ (and_both _ _ update due) period) least) most) low) high
