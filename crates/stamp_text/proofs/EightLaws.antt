-- Eight digits in a word of 64 bits, the first of them in the lowest byte.
use Rattle.std.proofs.Common.{◌≡◌, ℕ, ◌+◌, ◌*◌, ◌/◌, ◌%◌, ◌^◌, ◌<◌, true, List, [], ◌∷◌, length, take, get_or, bit_and, bit_or, bit_xor, w64, sym, ap, subst, ◌∙◌, arith}
use Rattle.std.proofs.lemmas.List.{take_all}
use Rattle.std.specs.Int.{from_le_bytes}
use Rattle.std.specs.Simd.Lanes.{number_l}
use Rattle.std.specs.Float.Numeral.{digits_len}
use lib.Bits.{xor_lt}
use Rattle.core.specs.Dec2flt.Digits.{IsEightBytes}
use Rattle.core.proofs.slice.Flagged.{flags_from_ten}
use Rattle.core.proofs.dec2flt.Eight.{bytes_of, lanes_are, all_digits as counted, shifted_is, eight_is}
use Rattle.stamp_text.specs.Digits.{all_digits, value_from}
use Rattle.stamp_text.specs.Pieces.{BeginsWithDigits}
use Rattle.stamp_text.proofs.DigitLaws.{ahead_digits, value_after, value_from_lt}

-- the number of eight bytes, the lowest first
le_word : (xs : List ℕ) → length xs ≡ 8 → from_le_bytes w64 xs ≡ number_l 256 xs
le_word [] h = absurd (omega arith)
le_word (a ∷ []) h = absurd (omega arith)
le_word (a ∷ b ∷ []) h = absurd (omega arith)
le_word (a ∷ b ∷ c ∷ []) h = absurd (omega arith)
le_word (a ∷ b ∷ c ∷ d ∷ []) h = absurd (omega arith)
le_word (a ∷ b ∷ c ∷ d ∷ e ∷ []) h = absurd (omega arith)
le_word (a ∷ b ∷ c ∷ d ∷ e ∷ f ∷ []) h = absurd (omega arith)
le_word (a ∷ b ∷ c ∷ d ∷ e ∷ f ∷ g ∷ []) h = absurd (omega arith)
le_word (a ∷ b ∷ c ∷ d ∷ e ∷ f ∷ g ∷ h ∷ []) n = omega arith
le_word (a ∷ b ∷ c ∷ d ∷ e ∷ f ∷ g ∷ h ∷ i ∷ more) n = absurd (omega arith)

-- bytes less that of `0`, where none of them is ten or more, are digits, and their products are the value
pub eight_read : (xs : List ℕ) (word v : ℕ) → length xs ≡ 8 → ((k : ℕ) → get_or xs k 0 < 256) → word < 2 ^ 64 → word ≡ from_le_bytes w64 xs
    → bit_and (bit_or (bit_and (bit_xor word 0x3030_3030_3030_3030) 0x7f7f_7f7f_7f7f_7f7f + 0x7676_7676_7676_7676)
    (bit_xor word 0x3030_3030_3030_3030)) 0x8080_8080_8080_8080 ≡ 0
    → v ≡ (bit_and ((bit_xor word 0x3030_3030_3030_3030 * 10 % 2 ^ 64 + bit_xor word 0x3030_3030_3030_3030 / 256) % 2 ^ 64)
    0x0000_00ff_0000_00ff * 4294967296000100 % 2 ^ 64 + bit_and
    ((bit_xor word 0x3030_3030_3030_3030 * 10 % 2 ^ 64 + bit_xor word 0x3030_3030_3030_3030 / 256) % 2 ^ 64 / 65536)
    0x0000_00ff_0000_00ff * 42949672960001 % 2 ^ 64) % 2 ^ 64 / 2 ^ 32 → BeginsWithDigits xs v 8
eight_read xs word v long bytes fits is none value =
    let eight : IsEightBytes xs = (long, bytes_of xs bytes) in
    let read = is ∙ le_word xs long in
    let count : digits_len xs ≡ 8 = counted xs word eight read _ (flags_from_ten (bit_xor word 0x3030_3030_3030_3030)) none in
    let lanes = lanes_are xs word eight read in
    let small = xor_lt 64 word 0x3030_3030_3030_3030 fits (omega arith) in
    let s = shifted_is xs 8 (bit_xor word 0x3030_3030_3030_3030) eight (omega arith) (omega arith) (omega arith) in
    let digits : all_digits (take 8 xs) ≡ true = sym (ap (λ n. all_digits (take n xs)) count) ∙ ahead_digits xs in
    let same : v ≡ value_from 0 (take 8 xs) = value ∙ eight_is s.0 _ s.1 s.2 ∙ s.3 ∙ value_after 0 (take 8 xs) digits in
    let front : length (take 8 xs) ≡ 8 = ap length (take_all 8 xs (omega arith)) ∙ long in
    let below = subst (λ k. value_from 0 (take 8 xs) < 1 * 10 ^ k) front (value_from_lt 0 1 (take 8 xs) (omega arith) digits) in
    record { within = omega arith; few = omega arith; digits = digits; value = same; below = omega (arith, same, below) }
