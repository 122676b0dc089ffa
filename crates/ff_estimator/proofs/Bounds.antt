-- How great a time and its spread may be.
use Rattle.std.proofs.Common.{◌≡◌, ℕ, ◌+◌, ◌-◌, ◌*◌, ◌<◌, ◌≤◌, ◌^◌, Bool, true, false, nat_lt, cond, ℤ, pos, ◌≤ℤ◌, ◌<ℤ◌, Option, None, Some, IfSome, Ok, refl, sym, arith}
use Rattle.std.proofs.Math.Nat.{mul-le-mul_right}
use Rattle.std.proofs.lemmas.Bool.{and_parts}
use Rattle.std.proofs.lemmas.Bool.Decides.{nat_tests}
use Rattle.std.proofs.lemmas.Int.{ints}
use Rattle.stamp_text.specs.Accepted.{accept_of}
use Rattle.stamp_text.specs.declared.lines.Stamp.{Stamp}
use Rattle.stamp_text.proofs.AcceptedLaws.{sound-by, follows-by}
use Rattle.rate_pair.specs.Rates.{rate_error}
use Rattle.rate_pair.specs.declared.rates.Rate.{Rate}
use Rattle.ff_estimator.specs.Choices.{is_doubted, chosen, predicted_by}
use Rattle.ff_estimator.specs.Daemons.{count_of, IsTakenBounded}
use Rattle.ff_estimator.specs.declared.choices.Taken.{Taken}

-- the reply of an accepted stamp comes behind that of the newest one
pub count_of-below : (newest : Option Stamp) (s : Stamp) (freq : ℕ) → accept_of newest s freq ≡ Ok tt → count_of newest ≤ s.tf
count_of-below None s freq e = omega arith
count_of-below (Some p) s freq e =
    let sound = sound-by freq (Some p) s e in
    let follows = follows-by freq p s e in
    omega (arith, sound.counters, follows.counters)

-- a time and its spread at a count, as those of `IsTakenBounded`
pub record IsWithin (p : ℤ × ℕ) (count : ℕ) : Type 0 where
  pub low : pos 0 ≤ℤ p.0
  pub high : p.0 ≤ℤ pos (2 ^ 97 + 2 ^ 45 * count)
  pub spread : p.1 ≤ 2 ^ 97 + 1 + 2 ^ 45 * count

pub predicted-within : (rate : Rate) (t : Taken) (before now : ℕ) → rate.period < 2 ^ 45 → rate.high < 2 ^ 45 → before ≤ now
    → IsTakenBounded t before → IsWithin (predicted_by rate (now - before) t) now
predicted-within rate t before now period high order is =
    let time : rate.period * (now - before) ≤ 2 ^ 45 * (now - before) = mul-le-mul_right (now - before) (omega arith) in
    let spread : rate_error rate * (now - before) ≤ 2 ^ 45 * (now - before) = mul-le-mul_right (now - before) (omega arith) in
    record { low = omega (arith, ints, is.low); high = omega (arith, ints, is.high); spread = omega (arith, is.spread) }

pub chosen-bounded : (i run : ℕ) (predicted : ℤ × ℕ) (mean : Option (ℤ × ℕ)) (count : ℕ) → run ≤ 32 → IsWithin predicted count
    → IfSome mean (λ m. (pos 0 ≤ℤ m.0) × (m.0 <ℤ pos (2 ^ 97))) → IfSome mean (λ m. m.1 ≤ 2 ^ 97 + 1) → IsTakenBounded (chosen i run predicted mean) count
chosen-bounded i run predicted None count few is time spread = record { low = is.low; high = is.high; spread = is.spread; run = few }
chosen-bounded i run predicted (Some mean) count few is time spread = by_test (is_doubted i run predicted.0 mean.0) refl
  where
    by_test : (b : Bool) → b ≡ is_doubted i run predicted.0 mean.0
        → IsTakenBounded (cond {A = Taken} b (record { time = predicted.0; spread = predicted.1; predicted = true; run = run + 1 })
        (record { time = mean.0; spread = mean.1; predicted = false; run = 0 })) count
    by_test true e = record {
      low = is.low;
      high = is.high;
      spread = is.spread;
      run = (let few = (and_parts _ (nat_lt run 32) (sym e)).1 in grind (arith, nat_tests));
    }
    by_test false e = record { low = time.0; high = omega (arith, ints, time.1); spread = omega (arith, spread); run = omega arith }
