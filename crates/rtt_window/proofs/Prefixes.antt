-- What is said of a stamp stays, whatever stamps come behind it.
use Rattle.std.proofs.Common.{◌≡◌, ℕ, zero, suc, ◌+◌, ◌-◌, ◌*◌, ◌<◌, ◌≤◌, ◌&&◌, nat_le, nat_lt, Bool, true, false, cond, List, ◌++◌, length, map, max, take, drop, refl, ap, ap₂, ◌∙◌, arith, length-drop}
use Rattle.std.proofs.lemmas.List.{take-append-le, drop-append-le}
use Rattle.ff_grain.specs.Scales.{trip_scale}
use Rattle.stamp_text.specs.Accepted.{trip}
use Rattle.stamp_text.specs.declared.lines.Stamp.{Stamp}
use Rattle.rtt_window.specs.Bases.{least_of, least_trip, judged, base_from, start_before, base_at}
use Rattle.rtt_window.specs.declared.bases.Base.{Base}

pub least_trip-append : (xs ys : List Stamp) (from to : ℕ) → from ≤ to → to < length xs → least_trip (xs ++ ys) from to ≡ least_trip xs from to
unfolding least_trip
least_trip-append xs ys from to order here =
    ap (λ (zs : List Stamp). least_of (map trip (take (to + 1 - from) zs))) (drop-append-le from xs ys (omega arith))
    ∙ ap (λ (zs : List Stamp). least_of (map trip zs)) (take-append-le (to + 1 - from) (drop from xs) ys (omega (arith, length-drop from xs)))

-- a level begins at a stamp that is there
judged-start : (freq start i least recent : ℕ) → start ≤ i → (judged freq start i least recent).start ≤ i
unfolding judged
judged-start freq start i least recent h = by_test (nat_le 32 (i - start) && nat_lt (least + 4 * trip_scale freq) recent)
  where
    by_test : (b : Bool) → (cond {A = Base} b (record { base = recent; start = i - 31; shifted = true })
        (record { base = least; start = start; shifted = false })).start ≤ i
    by_test true = omega arith
    by_test false = h

pub start_before-le : (freq : ℕ) (all : List Stamp) (i : ℕ) → start_before freq all i ≤ i
unfolding start_before
start_before-le freq all zero = omega arith
start_before-le freq all (suc i) =
    let started = judged-start freq (start_before freq all i) i (least_trip all (max (start_before freq all i) (i - 1023)) i)
    (least_trip all (i - 31) i) (start_before-le freq all i) in
    omega arith

base_from-append : (freq : ℕ) (xs ys : List Stamp) (start i : ℕ) → start ≤ i → i < length xs → base_from freq (xs ++ ys) start i ≡ base_from freq xs start i
base_from-append freq xs ys start i order here =
    ap₂ (judged freq start i) (least_trip-append xs ys (max start (i - 1023)) i (omega arith) here) (least_trip-append xs ys (i - 31) i (omega arith) here)

pub start_before-append : (freq : ℕ) (xs ys : List Stamp) (i : ℕ) → i ≤ length xs → start_before freq (xs ++ ys) i ≡ start_before freq xs i
unfolding start_before
start_before-append freq xs ys zero here = refl
start_before-append freq xs ys (suc i) here =
    ap (λ start. (base_from freq (xs ++ ys) start i).start) (start_before-append freq xs ys i (omega arith))
    ∙ ap (λ (b : Base). b.start) (base_from-append freq xs ys (start_before freq xs i) i (start_before-le freq xs i) here)

pub base_at-append : (freq : ℕ) (xs ys : List Stamp) (i : ℕ) → i < length xs → base_at freq (xs ++ ys) i ≡ base_at freq xs i
unfolding base_at
base_at-append freq xs ys i here =
    ap (λ start. base_from freq (xs ++ ys) start i) (start_before-append freq xs ys i (omega arith))
    ∙ base_from-append freq xs ys (start_before freq xs i) i (start_before-le freq xs i) here

pub base_at-start : (freq : ℕ) (all : List Stamp) (i : ℕ) → (base_at freq all i).start ≤ i
unfolding base_at
base_at-start freq all i = judged-start freq (start_before freq all i) i (least_trip all (max (start_before freq all i) (i - 1023)) i)
    (least_trip all (i - 31) i) (start_before-le freq all i)
