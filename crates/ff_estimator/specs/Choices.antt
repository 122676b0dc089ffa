-- Which time is taken at an accepted stamp: the mean, or the prediction from the stamp before it.
use Rattle.std.specs.Prelude.{ℕ, zero, suc, ℤ, pos, ◌+ℤ◌, ◌-ℤ◌, ◌+◌, ◌-◌, ◌*◌, Bool, true, false, ◌&&◌, nat_le, nat_lt, unsigned_abs, if◌then◌else◌, List, Option, None, Some}
use Rattle.stamp_text.specs.declared.lines.Stamp.{Stamp}
use Rattle.rate_pair.specs.declared.rates.Rate.{Rate}
use Rattle.rate_pair.specs.Rates.{rate_error}
use Rattle.ff_estimator.specs.Rates.{global_rate}
use Rattle.ff_estimator.specs.Means.{count_at, mean_at}
use Rattle.ff_estimator.specs.declared.choices.Taken.{Taken}

-- from stamp 16 on a mean that is more than a millisecond away from the prediction is not believed,
-- unless the prediction was taken for this 32 times in a row
abbrev pub is_doubted : ℕ → ℕ → ℤ → ℤ → Bool
is_doubted i run predicted mean = nat_le 16 i && nat_lt 18446744073709551 (unsigned_abs (mean -ℤ predicted)) && nat_lt run 32

-- what is taken at stamp i, given the run of such takes, the prediction and the mean. A prediction for
-- want of a mean leaves the run as it is
abbrev pub chosen : ℕ → ℕ → ℤ × ℕ → Option (ℤ × ℕ) → Taken
chosen i run predicted None = record { time = predicted.0; spread = predicted.1; predicted = true; run = run }
chosen i run predicted (Some mean) =
    if is_doubted i run predicted.0 mean.0 then record { time = predicted.0; spread = predicted.1; predicted = true; run = run + 1 }
    else record { time = mean.0; spread = mean.1; predicted = false; run = 0 }

-- what was taken, carried over counts at a rate
abbrev pub predicted_by : Rate → ℕ → Taken → ℤ × ℕ
predicted_by rate counts t = (t.time +ℤ pos (rate.period * counts), t.spread + rate_error rate * counts)

-- the count at which the reply before stamp i came
abbrev pub count_before : List Stamp → ℕ → ℕ
count_before all zero = 0
count_before all (suc i) = count_at all i

-- what is taken at stamp i, given what was taken before it
abbrev pub taken_after : ℕ → List Stamp → ℕ → Taken → Taken
taken_after freq all i before = chosen i before.run (predicted_by (global_rate freq all i) (count_at all i - count_before all i) before) (mean_at freq all i)

-- what was taken before stamp i. Nothing was before stamp 0, and nothing is predicted from it: stamp 0
-- always has a mean
unfoldable pub taken_before : ℕ → List Stamp → ℕ → Taken
taken_before freq all zero = record { time = pos 0; spread = 0; predicted = false; run = 0 }
taken_before freq all (suc i) = taken_after freq all i (taken_before freq all i)

abbrev pub taken_at : ℕ → List Stamp → ℕ → Taken
taken_at freq all i = taken_before freq all (suc i)
