-- The periods that are believed of a counter, in grains per count.
use Rattle.std.specs.Prelude.{ℕ, ◌+◌, ◌-◌, ◌*◌, ◌/◌, ◌^◌}

-- the nominal period of a frequency: the greatest even number that is not above 2^64 / freq
unfoldable pub nominal_period : ℕ → ℕ
nominal_period freq = 2 ^ 63 / freq * 2

-- the least period that is believed: 500 parts in a million below the nominal one
unfoldable pub lowest_period : ℕ → ℕ
lowest_period freq = nominal_period freq - nominal_period freq / 2000

-- the greatest period that is believed: 500 parts in a million above the nominal one
unfoldable pub highest_period : ℕ → ℕ
highest_period freq = nominal_period freq + nominal_period freq / 2000
