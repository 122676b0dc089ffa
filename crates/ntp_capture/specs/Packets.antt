-- The fields of a packet of RFC 5905.
use Rattle.std.specs.Prelude.{ℕ, ◌-◌, ◌*◌, ◌/◌, ◌%◌, ◌^◌, Bool, ◌&&◌, not, nat_le, ◌==◌, List, replicate, slice_index, slice_range}
use Rattle.std.specs.Str.{bytes_eq}
use Rattle.byteorder.specs.Endian.{big_number}
use Rattle.ntp_capture.specs.declared.pieces.Record.{Record}

-- the first byte: two bits of the leap indicator, three of the version, three of the mode
abbrev pub leap_of : List ℕ → ℕ
leap_of packet = slice_index packet 0 / 64

abbrev pub mode_of : List ℕ → ℕ
mode_of packet = slice_index packet 0 % 8

abbrev pub stratum_of : List ℕ → ℕ
stratum_of packet = slice_index packet 1

-- the three times of eight bytes each: the origin is the transmit time of the request, as the server copied it
abbrev pub origin_of : List ℕ → List ℕ
origin_of packet = slice_range packet 24 32

abbrev pub receive_of : List ℕ → List ℕ
receive_of packet = slice_range packet 32 40

abbrev pub transmit_of : List ℕ → List ℕ
transmit_of packet = slice_range packet 40 48

-- a time: seconds since 1900, and a fraction of a second in 2^-32 s
abbrev pub seconds_of : List ℕ → ℕ
seconds_of time = big_number 4 (slice_range time 0 4)

abbrev pub fraction_of : List ℕ → ℕ
fraction_of time = big_number 4 (slice_range time 4 8)

-- the seconds from 1900 to 1970
abbrev pub unix_epoch : ℕ
unix_epoch = 2208988800

-- a time in seconds since 1970 and nanoseconds, rounded down
abbrev pub unix_time : List ℕ → ℕ × ℕ
unix_time time = (seconds_of time - unix_epoch, fraction_of time * 10 ^ 9 / 2 ^ 32)

-- the client's and the server's mode
unfoldable pub is_request : Record → Bool
is_request r = r.sent && mode_of r.packet == 3

unfoldable pub is_reply : Record → Bool
is_reply r = not r.sent && mode_of r.packet == 4

-- it answers something, and its times are not before 1970
unfoldable pub is_usable : List ℕ → Bool
is_usable packet = not (bytes_eq (origin_of packet) (replicate 8 0))
    && nat_le unix_epoch (seconds_of (receive_of packet)) && nat_le unix_epoch (seconds_of (transmit_of packet))
