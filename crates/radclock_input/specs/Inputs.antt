-- What a stamp file says, and where it is not read further.
use Rattle.std.specs.Prelude.{◌≡◌, ℕ, ◌≤◌, Bool, true, false, ◌&&◌, List, [], ◌∷◌, length, map, take, if◌then◌else◌, nat_lt, Option, None, Some}
use Rattle.std.specs.List.{All}
use Rattle.std.specs.Option.{option_map}
use Rattle.stamp_text.specs.Accepted.{IsItemInRange}
use Rattle.stamp_text.specs.Format.{least_freq, greatest_freq}
use Rattle.stamp_text.specs.Grammar.{given, given_of_file, fault_so_far, fault_of_file}
use Rattle.stamp_text.specs.Past.{accepted_items, counts_of}
use Rattle.stamp_text.specs.declared.lines.Head.{Head}
use Rattle.stamp_text.specs.declared.lines.Item.{Item}
use Rattle.stamp_text.specs.declared.lines.Item.TheVariants as item
use Rattle.stamp_text.specs.declared.lines.Line.{Line}
use Rattle.stamp_text.specs.declared.lines.Line.TheVariants as gives
use Rattle.stamp_text.specs.declared.lines.LineFault.{LineFault}
use Rattle.report_text.specs.declared.lines.Limit.TheVariants as limit
use Rattle.radclock_input.specs.Pulled.{front_stop, input_stop}
use Rattle.radclock_input.specs.declared.files.ItemLine.{ItemLine}
use Rattle.radclock_input.specs.declared.files.StampFile.{StampFile}
use Rattle.radclock_input.specs.declared.stops.Stop.{Stop}
use Rattle.radclock_input.specs.declared.stops.Stop.TheVariants as stop

-- the most bytes of an input, the most well-formed item lines, and the most accepted stamps and sets
-- together where these are limited
abbrev pub most_bytes : ℕ
most_bytes = 16777216

abbrev pub most_items : ℕ
most_items = 65536

abbrev pub most_accepted : ℕ
most_accepted = 16384

-- the items among lines, each with the number of its line
abbrev pub items_in : List Line → List ItemLine
items_in [] = []
items_in (gives.Head h ∷ lines) = items_in lines
items_in (gives.Stamp n s ∷ lines) = record { line = n; item = item.Stamp s } ∷ items_in lines
items_in (gives.Set n count at ∷ lines) = record { line = n; item = item.Set count at } ∷ items_in lines
items_in (gives.Leap n count leap ∷ lines) = record { line = n; item = item.Leap count leap } ∷ items_in lines

-- what is said of version and frequency before a head
abbrev pub no_head : Head
no_head = record { version = 0; freq = 0 }

-- what is said of them after lines, behind a head: their last head
abbrev pub head_after : Head → List Line → Head
head_after head [] = head
head_after head (gives.Head h ∷ lines) = head_after h lines
head_after head (gives.Stamp n s ∷ lines) = head_after head lines
head_after head (gives.Set n count at ∷ lines) = head_after head lines
head_after head (gives.Leap n count leap ∷ lines) = head_after head lines

-- the accepted items behind accepted ones, with those among item lines: each is tested behind the accepted ones
-- before it
abbrev pub accepted_among : ℕ → List Item → List ItemLine → List Item
accepted_among freq accepted items = accepted_items freq accepted (map (λ x. x.item) items)

-- how many stamps and sets are accepted; leap seconds do not count
abbrev pub counted_among : ℕ → List ItemLine → ℕ
counted_among freq items = length (counts_of (accepted_among freq [] items))

-- accepted stamps and sets are limited, and lines pass this limit. The item that passes the limit on items
-- is not tested.
unfoldable pub accepts_many : Bool → List Line → Bool
accepts_many limited lines = limited && nat_lt most_accepted (counted_among (head_after no_head lines).freq (take most_items (items_in lines)))

-- what stops the reading of lines and their fault. Lines are given up to the first fault, so a
-- limit that they pass stands before it.
abbrev pub stop_by : Bool → List Line → Option LineFault → Option Stop
stop_by limited lines fault =
    if accepts_many limited lines then Some (stop.Large limit.Accepted)
    else (if nat_lt most_items (length (items_in lines)) then Some (stop.Large limit.Stamps) else option_map stop.Fault fault)

-- the same of bytes that may go on, as many as are read
unfoldable pub stop_within : Bool → List ℕ → Option Stop
stop_within limited text = stop_by limited (given text) (fault_so_far text)

-- the same of a whole text
unfoldable pub stop_whole : Bool → List ℕ → Option Stop
stop_whole limited text = stop_by limited (given_of_file text) (fault_of_file text)

-- the first stop, in the order of the bytes, of a stamp file that may go on, and of a whole one
abbrev pub stop_so_far : Bool → List ℕ → Option Stop
stop_so_far limited = front_stop most_bytes (stop_within limited)

abbrev pub stop_of_file : Bool → List ℕ → Option Stop
stop_of_file limited = input_stop most_bytes (stop_within limited) (stop_whole limited)

-- the version and the frequency of a whole input, and its items
unfoldable pub head_of_file : List ℕ → Head
head_of_file text = head_after no_head (given_of_file text)

abbrev pub freq_of_file : List ℕ → ℕ
freq_of_file text = (head_of_file text).freq

unfoldable pub items_of_file : List ℕ → List ItemLine
items_of_file text = items_in (given_of_file text)

-- a frequency and items in their ranges
pub record IsRanged (freq : ℕ) (items : List ItemLine) : Type 0 where
  pub low : least_freq ≤ freq
  pub high : freq ≤ greatest_freq
  pub timed : All (λ x. IsItemInRange x.item) items

-- what was read is that of a whole input
pub record IsFileOf (limited : Bool) (file : StampFile) (text : List ℕ) : Type 0 where
  pub head : file.head ≡ head_of_file text
  pub items : file.items.items ≡ items_of_file text
  pub ranged : IsRanged file.head.freq file.items.items
  pub few : limited ≡ true → counted_among file.head.freq file.items.items ≤ most_accepted
