-- The rates at an accepted stamp, over the whole list of them.
use Rattle.std.specs.Prelude.{ℕ, ◌+◌, ◌*◌, Bool, ◌&&◌, nat_le, if◌then◌else◌, take, List, Option, None, Some}
use Rattle.std.specs.Int.{abs_diff}
use Rattle.stamp_text.specs.declared.lines.Stamp.{Stamp}
use Rattle.rtt_window.specs.Pairs.{pair_of}
use Rattle.rate_pair.specs.Rates.{nominal_rate, rate_of}
use Rattle.rate_pair.specs.declared.rates.Rate.{Rate}

-- the rate of a pair, and the nominal one where there is none
abbrev pub rate_by : ℕ → Option (Stamp × Stamp) → Rate
rate_by freq None = nominal_rate freq
rate_by freq (Some pair) = rate_of pair.0 pair.1 freq

-- the rate by the pair over the last `reach` stamps up to stamp i
unfoldable pub rate_over : ℕ → ℕ → List Stamp → ℕ → Rate
rate_over reach freq all i = rate_by freq (pair_of reach (take (i + 1) all))

abbrev pub global_rate : ℕ → List Stamp → ℕ → Rate
global_rate freq all i = rate_over 1024 freq all i

abbrev pub local_rate : ℕ → List Stamp → ℕ → Rate
local_rate freq all i = rate_over 64 freq all i

-- the local rate is used from stamp 63 on, where its period is at most 3 parts in 10^7 away from the
-- global one
abbrev pub uses_local : ℕ → Rate → Rate → Bool
uses_local i local global = nat_le 63 i && nat_le (abs_diff local.period global.period * 10000000) (3 * global.period)

abbrev pub is_local : ℕ → List Stamp → ℕ → Bool
is_local freq all i = uses_local i (local_rate freq all i) (global_rate freq all i)

abbrev pub rate_in_use : ℕ → List Stamp → ℕ → Rate
rate_in_use freq all i = if is_local freq all i then local_rate freq all i else global_rate freq all i
