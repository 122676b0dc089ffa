-- Times as whole numbers of grains, of 2^-64 s each.
use Rattle.std.specs.Prelude.{ℕ, ℤ, pos, neg_ℤ, unsigned_abs, ◌+ℤ◌, ◌*ℤ◌, ◌≤ℤ◌, ◌<ℤ◌, ◌*◌, ◌/◌, ◌^◌}
use Rattle.std.specs.Int.{int_div_euclid, int_rem_euclid}
use Rattle.ff_grain.specs.declared.bintime.Bintime.{Bintime}

-- the grains of a second
abbrev pub second : ℕ
second = 2 ^ 64

-- the nanoseconds of a second
abbrev pub nanos_per_second : ℕ
nanos_per_second = 1000000000

-- the number of grains of a time: those of its seconds, and those above them
abbrev pub number_of : Bintime → ℤ
number_of t = t.sec *ℤ pos second +ℤ pos t.frac

-- the same of a time that is not negative
abbrev pub grains_of : Bintime → ℕ
grains_of t = unsigned_abs (number_of t)

-- a time from 0 to below 2^32 s
pub record IsTime (t : Bintime) : Type 0 where
  pub low : pos 0 ≤ℤ number_of t
  pub high : number_of t <ℤ pos (2 ^ 96)

-- the time of so many grains, of which there is one
abbrev pub of_grains : ℤ → Bintime
of_grains g = record { sec = int_div_euclid g (pos second); frac = unsigned_abs (int_rem_euclid g (pos second)) }

-- the time of so many seconds and nanoseconds, rounded down to a whole grain
abbrev pub of_nanos : ℕ → ℕ → Bintime
of_nanos sec nanos = record { sec = pos sec; frac = nanos * second / nanos_per_second }

-- z / d for d above 0, rounded towards minus infinity
abbrev pub int_div_floor : ℤ → ℕ → ℤ
int_div_floor z d = int_div_euclid z (pos d)

-- z / d for d above 0, rounded towards plus infinity
abbrev pub int_div_ceil : ℤ → ℕ → ℤ
int_div_ceil z d = neg_ℤ (int_div_floor (neg_ℤ z) d)

-- the nanoseconds of a time, rounded down and rounded up to a whole one
abbrev pub nanos_floor : Bintime → ℤ
nanos_floor t = int_div_floor (number_of t *ℤ pos nanos_per_second) second

abbrev pub nanos_ceil : Bintime → ℤ
nanos_ceil t = int_div_ceil (number_of t *ℤ pos nanos_per_second) second
