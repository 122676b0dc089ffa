-- What a stamp is told of the leap seconds before it.
use Rattle.std.specs.Prelude.{◌⊎◌, ◌≡◌, ℕ, ℤ, pos, negsuc, ◌-◌, ◌<◌, ◌+ℤ◌, ◌≤ℤ◌, nat_le, nat_lt, if◌then◌else◌, List, length, fold, filter_map, slice_get, Option, None, Some, IfSome}
use Rattle.stamp_text.specs.Format.{count_limit}
use Rattle.stamp_text.specs.declared.lines.Item.{Item}
use Rattle.stamp_text.specs.declared.lines.Item.TheVariants as item
use Rattle.ff_estimator.specs.declared.leaps.Leap.{Leap}
use Rattle.ff_estimator.specs.declared.leaps.Leaps.{Leaps}
use Rattle.ff_estimator.specs.declared.leaps.LeapFields.{LeapFields}

-- the leap seconds among items
abbrev pub leap_of_item : Item → Option Leap
leap_of_item (item.Stamp s) = None
leap_of_item (item.Set count at) = None
leap_of_item (item.Leap count leap) = Some (record { count = count; sign = leap })

abbrev pub leaps_of : List Item → List Leap
leaps_of items = filter_map leap_of_item items

abbrev pub latest_leap : List Leap → Option Leap
latest_leap leaps = slice_get leaps (length leaps - 1)

-- the sum of the signs of those before a count
abbrev pub signs_before : ℕ → List Leap → ℤ
signs_before count leaps = fold (λ sum l. if nat_lt l.count count then sum +ℤ l.sign else sum) (pos 0) leaps

-- what is told of a leap second that is to come, if there is one, and of the sum of those before
abbrev pub fields_of : Option Leap → ℤ → LeapFields
fields_of None total = record { next = 0; total = total; sign = pos 0 }
fields_of (Some l) total = record { next = l.count; total = total; sign = l.sign }

-- a leap second that is not before a count
abbrev pub still_to_come : ℕ → Option Leap → Option Leap
still_to_come count None = None
still_to_come count (Some l) = if nat_le count l.count then Some l else None

-- what is told at a count, by the leap seconds before it in the file
abbrev pub fields_at : List Leap → ℕ → LeapFields
fields_at leaps count = fields_of (still_to_come count (latest_leap leaps)) (signs_before count leaps)

-- the sum of the signs of all, by what a daemon keeps: the latest, and the sum of those before it
abbrev pub sum_with : ℤ → Option Leap → ℤ
sum_with total None = total
sum_with total (Some l) = total +ℤ l.sign

abbrev pub sum_kept : Leaps → ℤ
sum_kept k = sum_with k.total k.latest

-- what is told at a count by that
abbrev pub fields_by : ℤ → Option Leap → ℕ → LeapFields
fields_by total None count = fields_of None total
fields_by total (Some l) count = if nat_le count l.count then fields_of (Some l) total else fields_of None (total +ℤ l.sign)

abbrev pub fields_kept : Leaps → ℕ → LeapFields
fields_kept k count = fields_by k.total k.latest count

-- with one more leap second
abbrev pub leaps_with : Leaps → ℕ → ℤ → Leaps
leaps_with k count leap = record { total = sum_kept k; latest = Some (record { count = count; sign = leap }) }

-- none
abbrev pub no_leaps : Leaps
no_leaps = record { total = pos 0; latest = None }

-- a leap second of a file
pub record IsLeap (l : Leap) : Type 0 where
  pub count : l.count < count_limit
  pub sign : (l.sign ≡ pos 1) ⊎ (l.sign ≡ negsuc 0)

-- the sums of at most so many leap seconds
pub record AreFew (k : Leaps) (n : ℕ) : Type 0 where
  pub low : pos 0 ≤ℤ (k.total +ℤ pos n)
  pub high : k.total ≤ℤ pos n
  pub least : pos 0 ≤ℤ (sum_kept k +ℤ pos n)
  pub most : sum_kept k ≤ℤ pos n
  pub latest : IfSome k.latest IsLeap
