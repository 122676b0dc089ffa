-- A capture cut into its head and its records.
use Rattle.std.specs.Prelude.{ℕ, zero, suc, ◌+◌, Bool, true, false, nat_lt, if◌then◌else◌, List, [], ◌∷◌, length, take, drop, slice_range}
use Rattle.byteorder.specs.Endian.{big_number}
use Rattle.ntp_capture.specs.Format.{head_size, front_size}

-- how many bytes of a packet a record has
abbrev pub packet_length : List ℕ → ℕ
packet_length record_bytes = big_number 2 (slice_range record_bytes 9 11)

-- how many bytes a record has, as its first bytes tell; as long as they do not tell its packet's length, as many
-- as it takes to tell that
abbrev pub record_size : List ℕ → ℕ
record_size text = if nat_lt (length text) front_size then front_size else front_size + packet_length text

-- how many bytes the unit has that a text begins with: the head, or a record
unfoldable pub size_of : Bool → List ℕ → ℕ
size_of true text = head_size
size_of false text = record_size text

-- the units of a text that have ended, the head first, and the bytes of the one that has not
pub record Units : Type 0 where
  pub ended : List (List ℕ)
  pub last : List ℕ

abbrev pub onto : List ℕ → Units → Units
onto unit us = record us { ended = unit ∷ us.ended }

-- whether the unit is the head that comes behind some others, the first of which may be
abbrev pub left_head : Bool → List (List ℕ) → Bool
left_head is_head [] = is_head
left_head is_head (unit ∷ units) = false

-- a text that is shorter than the unit that it begins with is of that unit alone. Of any other the unit is cut
-- off, and what is left are records. There are no more units than bytes.
abbrev pub units_from : ℕ → Bool → List ℕ → Units
units_from zero is_head text = record { ended = []; last = text }
units_from (suc most) is_head text =
    if nat_lt (length text) (size_of is_head text) then record { ended = []; last = text }
    else onto (take (size_of is_head text) text) (units_from most false (drop (size_of is_head text) text))

unfoldable pub units_of : List ℕ → Units
units_of text = units_from (length text) true text
