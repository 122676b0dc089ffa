-- The bytes and the limits of stamp files.
use Rattle.std.specs.Prelude.{ℕ, ◌^◌}

-- a line feed ends a line
abbrev pub line_feed : ℕ
line_feed = 10

-- a space parts the pieces of a stamp line
abbrev pub space : ℕ
space = 32

-- a number sign begins a comment
abbrev pub number_sign : ℕ
number_sign = 35

-- a point parts seconds and what is behind them
abbrev pub point : ℕ
point = 46

-- the first and the last digit
abbrev pub digit_0 : ℕ
digit_0 = 48

abbrev pub digit_9 : ℕ
digit_9 = 57

-- the most bytes of a line without its line feed
abbrev pub line_limit : ℕ
line_limit = 255

-- the least and the greatest nominal frequency, in Hz
abbrev pub least_freq : ℕ
least_freq = 1000000

abbrev pub greatest_freq : ℕ
greatest_freq = 16000000000

-- the first counter and the first second that are too large
abbrev pub count_limit : ℕ
count_limit = 2 ^ 62

abbrev pub second_limit : ℕ
second_limit = 2 ^ 32

-- the first stratum, and the first word on leap seconds, that are too large
abbrev pub stratum_limit : ℕ
stratum_limit = 256

abbrev pub leap_limit : ℕ
leap_limit = 4
