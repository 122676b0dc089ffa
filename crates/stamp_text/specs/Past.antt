-- Which items of a file are accepted, of all kinds, and what of them the tests of one more ask for.
use Rattle.std.specs.Prelude.{◌≡◌, ℕ, ℤ, pos, negsuc, ◌+◌, ◌<◌, ◌≤◌, Bool, true, false, ◌||◌, not, nat_le, nat_lt, ◌==◌, List, [], ◌∷◌, ◌++◌, fold, filter_map, Option, None, Some, Result, Ok, Err}
use Rattle.std.specs.List.{All, AllPairs}
use Rattle.std.specs.Option.{option_map}
use Rattle.stamp_text.specs.Accepted.{IsItemInRange, AreAccepted, tests_of, first_that_holds, accepted_with}
use Rattle.stamp_text.specs.declared.accepts.Refused.{Refused}
use Rattle.stamp_text.specs.declared.accepts.Refused.TheVariants as refused
use Rattle.stamp_text.specs.declared.lines.Item.{Item}
use Rattle.stamp_text.specs.declared.lines.Item.TheVariants as item
use Rattle.stamp_text.specs.declared.lines.Line.{Line}
use Rattle.stamp_text.specs.declared.lines.Line.TheVariants as gives
use Rattle.stamp_text.specs.declared.lines.Stamp.{Stamp}

-- what accepted items come to for the tests of one more: the latest stamp, the counts of the latest set and of
-- the latest leap second, and how many leap seconds there are
pub record Seen : Type 0 where
  pub stamp : Option Stamp
  pub set : Option ℕ
  pub leap : Option ℕ
  pub leaps : ℕ

abbrev pub nothing_seen : Seen
nothing_seen = record { stamp = None; set = None; leap = None; leaps = 0 }

abbrev pub seen_with : Seen → Item → Seen
seen_with seen (item.Stamp s) = record seen { stamp = Some s }
seen_with seen (item.Set count at) = record seen { set = Some count }
seen_with seen (item.Leap count leap) = record seen { leap = Some count; leaps = seen.leaps + 1 }

abbrev pub seen_of : List Item → Seen
seen_of items = fold seen_with nothing_seen items

-- a count is not behind one before it, if there is one
abbrev pub is_not_behind : ℕ → Option ℕ → Bool
is_not_behind count None = false
is_not_behind count (Some before) = nat_le count before

-- when the reply of a stamp came
abbrev pub reply_of : Option Stamp → Option ℕ
reply_of stamp = option_map (λ s. s.tf) stamp

-- the latest stamp, or the latest set, is not before a count
abbrev pub is_reached : Seen → ℕ → Bool
is_reached seen count = is_not_behind count (reply_of seen.stamp) || is_not_behind count seen.set

-- the server is not synchronised
abbrev pub is_unsynchronised : Stamp → Bool
is_unsynchronised s = s.leap == 3 || s.stratum == 0 || nat_lt 15 s.stratum

-- a leap second is not behind the latest stamp
abbrev pub is_leap_old : ℕ → Option Stamp → Bool
is_leap_old count None = true
is_leap_old count (Some s) = nat_le count s.tf

-- the latest stamp does not come behind the latest leap second
abbrev pub is_pending : Option ℕ → Option Stamp → Bool
is_pending (Some count) (Some s) = nat_le s.tf count
is_pending _ _ = false

-- what a server says of a leap second that is to come
abbrev pub word_of : ℤ → ℕ
word_of (pos n) = 1
word_of (negsuc n) = 2

-- the latest stamp does not say that this leap second is to come
abbrev pub is_unannounced : ℤ → Option Stamp → Bool
is_unannounced leap None = true
is_unannounced leap (Some s) = not (s.leap == word_of leap)

-- the most leap seconds of a file
abbrev pub most_leaps : ℕ
most_leaps = 100

-- the tests of a stamp behind those of its times, by the latest set
abbrev pub later_tests : Option ℕ → Stamp → List (Bool × Refused)
later_tests set s =
    (is_unsynchronised s, refused.Unsynchronised)
    ∷ (is_not_behind s.ta set, refused.BeforeSet)
    ∷ []

-- the tests of an item, by its kind, in their order, each with its refusal
abbrev pub tests_of_item : ℕ → Seen → Item → List (Bool × Refused)
tests_of_item freq seen (item.Stamp s) = tests_of seen.stamp s freq ++ later_tests seen.set s
tests_of_item freq seen (item.Set count at) =
    (is_reached seen count, refused.SetOld)
    ∷ []
tests_of_item freq seen (item.Leap count leap) =
    (is_leap_old count seen.stamp, refused.LeapOld)
    ∷ (is_pending seen.leap seen.stamp, refused.LeapPending)
    ∷ (is_unannounced leap seen.stamp, refused.LeapUnannounced)
    ∷ (nat_le most_leaps seen.leaps, refused.LeapLimit)
    ∷ []

unfoldable pub test_of : ℕ → Seen → Item → Result (Unit {0}) Refused
test_of freq seen x = first_that_holds (tests_of_item freq seen x)

-- what the accepted ones come to behind one more, which was accepted or not
abbrev pub seen_after : Seen → Item → Result (Unit {0}) Refused → Seen
seen_after seen x (Ok o) = seen_with seen x
seen_after seen x (Err why) = seen

-- the test of one more item behind accepted ones
abbrev pub accept_item : ℕ → List Item → Item → Result (Unit {0}) Refused
accept_item freq accepted x = test_of freq (seen_of accepted) x

-- the accepted items behind accepted ones and more items
abbrev pub accepted_items : ℕ → List Item → List Item → List Item
accepted_items freq accepted more = fold (λ all x. accepted_with all x (accept_item freq all x)) accepted more

-- the item that a line gives, if it gives one
abbrev pub item_of_line : Line → Option Item
item_of_line (gives.Head h) = None
item_of_line (gives.Stamp n s) = Some (item.Stamp s)
item_of_line (gives.Set n count at) = Some (item.Set count at)
item_of_line (gives.Leap n count leap) = Some (item.Leap count leap)

abbrev pub items_among : List Line → List Item
items_among lines = filter_map item_of_line lines

-- the accepted items of lines, from the first line on
abbrev pub accepted_of : ℕ → List Line → List Item
accepted_of freq lines = accepted_items freq [] (items_among lines)

-- the stamps among items
abbrev pub stamp_of_item : Item → Option Stamp
stamp_of_item (item.Stamp s) = Some s
stamp_of_item (item.Set count at) = None
stamp_of_item (item.Leap count leap) = None

abbrev pub stamps_of : List Item → List Stamp
stamps_of items = filter_map stamp_of_item items

-- the counts at which something is said of the clock: those of the replies and of the sets
abbrev pub count_of_item : Item → Option ℕ
count_of_item (item.Stamp s) = Some s.tf
count_of_item (item.Set count at) = Some count
count_of_item (item.Leap count leap) = None

abbrev pub counts_of : List Item → List ℕ
counts_of items = filter_map count_of_item items

-- what items have each of which was accepted behind those before it
pub record AreAcceptedItems (freq : ℕ) (items : List Item) : Type 0 where
  pub timed : All IsItemInRange items
  pub stamps : AreAccepted freq (stamps_of items)
  pub rising : AllPairs (λ a b. a < b) (counts_of items)
  pub reached : All (λ c. is_reached (seen_of items) c ≡ true) (counts_of items)
  pub few : (seen_of items).leaps ≤ most_leaps
