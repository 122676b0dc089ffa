-- A quotient that is rounded up, computed by parts.
use Rattle.std.proofs.Common.{◌≡◌, ℕ, ◌+◌, ◌-◌, ◌*◌, ◌/◌, ◌%◌, ◌^◌, ◌<◌, ap, sym, ◌∙◌, arith}
use Rattle.std.proofs.Math.Nat.{mul-add-div_right, mul-add-mod_self_right, div-add-mod'}
use Rattle.std.specs.Int.{div_ceil}

-- the whole multiples of d need no rounding
pub ceil_by_parts : (n p d : ℕ) → 0 < d → n / d * p + div_ceil (n % d * p) d ≡ div_ceil (n * p) d
ceil_by_parts n p d h =
    let all : (n / d * d + n % d) * p ≡ n * p = ap (λ x. x * p) (div-add-mod' n d) in
    let split : n / d * p * d + n % d * p ≡ n * p = omega arith in
    let parts : div_ceil (n / d * p * d + n % d * p) d ≡ n / d * p
    + div_ceil (n % d * p) d = grind (arith, mul-add-div_right h (n / d * p) (n % d * p), mul-add-mod_self_right (n / d * p) d (n % d * p)) in
    sym parts ∙ ap (λ x. div_ceil x d) split

-- a quotient by 10^12 = 2^12 * 244140625, with what the shift leaves in two digits of 36 bits
pub ceil_by_digits : (n : ℕ) → (n + (1000000000000 - 1)) / 2 ^ 12 / 2 ^ 36 / 244140625 * 2 ^ 36
    + ((n + (1000000000000 - 1)) / 2 ^ 12 / 2 ^ 36 % 244140625 * 2 ^ 36 + (n + (1000000000000 - 1)) / 2 ^ 12 % 2 ^ 36) / 244140625 ≡ div_ceil n 1000000000000
ceil_by_digits n = omega arith

-- the grains of nanoseconds: each has 18446744073 whole ones, and 709551616 parts of 10^9 of one more
pub grains_by_nanos : (n : ℕ) → n * 18446744073 + n * 709551616 / 1000000000 ≡ n * 2 ^ 64 / 1000000000
grains_by_nanos n = omega arith
