-- When a source or a sink may say that it failed.
use Rattle.std.specs.Prelude.{◌≡◌, ℕ, ◌+◌, ◌-◌, ◌^◌, ◌≤◌, min, Result, OnErr, OnOk}

-- one fault more, up to the last value of the count
abbrev pub counted_on : ℕ → ℕ
counted_on count = min (count + 1) (2 ^ 64 - 1)

-- the count of faults rose, or stands at its last value
abbrev pub Rose : ℕ → ℕ → Type 0
Rose before now = counted_on before ≤ now

-- the count never falls, an error comes only where it rose, and an `Ok` leaves it as it was
pub record HasCause {T E : Type 0} (before now : ℕ) (result : Result T E) : Type 0 where
  pub later : before ≤ now
  pub failed : OnErr result (Rose before now)
  pub kept : OnOk result (now ≡ before)
