-- Utc steps once within a tick.
use Rattle.std.proofs.Common.{◌≡◌, ◌≢◌, ℕ, ◌+◌, ◌^◌, nat_lt, Bool, true, false, pos, ◌+ℤ◌, ◌*ℤ◌, refl, arith}
use Rattle.std.proofs.lemmas.Bool.{ltb-true, ltb-false}
use Rattle.std.proofs.lemmas.Int.{ints}
use Rattle.ff_hands.specs.declared.hands.Hands.{Hands}
use Rattle.clock_lines.specs.Leaps.{behind}
use Rattle.clock_lines.proofs.Spoken.{utc-at, utc-behind}

pub steps-at : (h : Hands) → behind h (h.est.leapsec_next + 1) ≡ behind h h.est.leapsec_next +ℤ h.est.leapsec *ℤ pos (2 ^ 64)
steps-at h =
    let next : ℕ = h.est.leapsec_next in
    let later = utc-behind h (next + 1) (omega arith) in
    let first = utc-at h next (omega arith) in
    omega (arith, ints)

pub steps-nowhere : (h : Hands) (count : ℕ) → count ≢ h.est.leapsec_next → behind h (count + 1) ≡ behind h count
steps-nowhere h count other = by_test (nat_lt h.est.leapsec_next count) refl
  where
    by_test : (b : Bool) → nat_lt h.est.leapsec_next count ≡ b → behind h (count + 1) ≡ behind h count
    by_test true t =
        let past = ltb-true _ _ t in
        let later = utc-behind h (count + 1) (omega arith) in
        let first = utc-behind h count past in
        omega (arith, ints)
    by_test false t =
        let before = ltb-false _ _ t in
        let later = utc-at h (count + 1) (omega arith) in
        let first = utc-at h count (omega arith) in
        omega (arith, ints)
