-- Which stamps are accepted.
use Rattle.std.specs.Prelude.{◌≡◌, ◌⊎◌, ℕ, ℤ, pos, negsuc, ◌-◌, ◌*◌, ◌<◌, ◌≤◌, ◌≤ℤ◌, ◌-ℤ◌, int_lt, Bool, false, nat_le, nat_lt, if◌then◌else◌, List, [], ◌∷◌, ◌++◌, length, fold, slice_get, filter_map, Option, None, Some, Result, Ok, Err}
use Rattle.std.specs.List.{All, AllPairs}
use Rattle.ff_grain.specs.Grains.{number_of, IsTime}
use Rattle.ff_grain.specs.declared.bintime.Bintime.{Bintime}
use Rattle.ff_grain.specs.Periods.{highest_period}
use Rattle.stamp_text.specs.Format.{count_limit, least_freq, greatest_freq}
use Rattle.stamp_text.specs.declared.accepts.Refused.{Refused}
use Rattle.stamp_text.specs.declared.accepts.Refused.TheVariants as refused
use Rattle.stamp_text.specs.declared.lines.Head.{Head}
use Rattle.stamp_text.specs.declared.lines.Item.{Item}
use Rattle.stamp_text.specs.declared.lines.Item.TheVariants as item
use Rattle.stamp_text.specs.declared.lines.Line.{Line}
use Rattle.stamp_text.specs.declared.lines.Line.TheVariants as gives
use Rattle.stamp_text.specs.declared.lines.Stamp.{Stamp}

-- counters below 2^62, and such times
pub record IsInRange (s : Stamp) : Type 0 where
  pub ta : s.ta < count_limit
  pub tf : s.tf < count_limit
  pub tb : IsTime s.tb
  pub te : IsTime s.te

-- the round trip, in counts
abbrev pub trip : Stamp → ℕ
trip s = s.tf - s.ta

-- a counter below 2^62, and such a time
pub record IsSetInRange (n : ℕ) (t : Bintime) : Type 0 where
  pub count : n < count_limit
  pub at : IsTime t

-- a counter below 2^62, and a leap second that is put in or left out
pub record IsLeapInRange (n : ℕ) (leap : ℤ) : Type 0 where
  pub count : n < count_limit
  pub sign : (leap ≡ pos 1) ⊎ (leap ≡ negsuc 0)

abbrev pub IsItemInRange : Item → Type 0
IsItemInRange (item.Stamp s) = IsInRange s
IsItemInRange (item.Set count at) = IsSetInRange count at
IsItemInRange (item.Leap count leap) = IsLeapInRange count leap

-- version 1 or 2, and a frequency from 1 MHz to 16 GHz
pub record IsHeadInRange (h : Head) : Type 0 where
  pub version : (h.version ≡ 1) ⊎ (h.version ≡ 2)
  pub low : least_freq ≤ h.freq
  pub high : h.freq ≤ greatest_freq

-- what a line gives is a head or an item in its ranges
abbrev pub IsLineInRange : Line → Type 0
IsLineInRange (gives.Head h) = IsHeadInRange h
IsLineInRange (gives.Stamp n s) = IsInRange s
IsLineInRange (gives.Set n count at) = IsSetInRange count at
IsLineInRange (gives.Leap n count leap) = IsLeapInRange count leap

-- it was sent before the one before it was answered
abbrev pub overlaps : Option Stamp → Stamp → Bool
overlaps None s = false
overlaps (Some p) s = nat_le s.ta p.tf

-- the server's times go back behind those of the one before it
abbrev pub is_old : Option Stamp → Stamp → Bool
is_old None s = false
is_old (Some p) s = int_lt (number_of s.tb) (number_of p.te)

-- the server took longer than the round trip did, at the greatest period
abbrev pub is_acausal : Stamp → ℕ → Bool
is_acausal s freq = int_lt (pos (trip s * highest_period freq)) (number_of s.te -ℤ number_of s.tb)

-- the tests of a stamp behind an accepted one, in their order, each with its refusal
abbrev pub tests_of : Option Stamp → Stamp → ℕ → List (Bool × Refused)
tests_of prev s freq =
    (nat_le s.tf s.ta, refused.Backward)
    ∷ (int_lt (number_of s.te) (number_of s.tb), refused.ServerBackward)
    ∷ (overlaps prev s, refused.Overlap)
    ∷ (is_old prev s, refused.ServerOld)
    ∷ (nat_lt freq (trip s), refused.LongTrip)
    ∷ (is_acausal s freq, refused.Acausal)
    ∷ []

-- the refusal of the first test that holds
abbrev pub first_that_holds : List (Bool × Refused) → Result (Unit {0}) Refused
first_that_holds [] = Ok tt
first_that_holds (test ∷ tests) = if test.0 then Err test.1 else first_that_holds tests

unfoldable pub accept_of : Option Stamp → Stamp → ℕ → Result (Unit {0}) Refused
accept_of prev s freq = first_that_holds (tests_of prev s freq)

-- what an accepted stamp has by itself: its counters and the server's times go on, and its round
-- trip takes at most a second
pub record IsPlausible (freq : ℕ) (s : Stamp) : Type 0 where
  pub counters : s.ta < s.tf
  pub times : number_of s.tb ≤ℤ number_of s.te
  pub short : trip s ≤ freq

-- what an accepted stamp has behind the accepted one before it: its request left when the reply
-- was there, and the server's times go on
pub record Follows (p s : Stamp) : Type 0 where
  pub counters : p.tf < s.ta
  pub times : number_of p.te ≤ℤ number_of s.tb

-- the newest of stamps, if there is one
abbrev pub last_of : List Stamp → Option Stamp
last_of all = slice_get all (length all - 1)

-- the accepted ones behind these and one more
abbrev pub accepted_with : {A : Type 0} → List A → A → Result (Unit {0}) Refused → List A
accepted_with accepted x (Ok o) = accepted ++ x ∷ []
accepted_with accepted x (Err why) = accepted

-- the accepted stamps behind accepted ones and more stamps, each of which is tested against the last
-- accepted one before it
abbrev pub accepted_all : ℕ → List Stamp → List Stamp → List Stamp
accepted_all freq accepted more = fold (λ all s. accepted_with all s (accept_of (last_of all) s freq)) accepted more

-- the stamp that a line gives, if it gives one
abbrev pub stamp_of_line : Line → Option Stamp
stamp_of_line (gives.Head h) = None
stamp_of_line (gives.Stamp n s) = Some s
stamp_of_line (gives.Set n count at) = None
stamp_of_line (gives.Leap n count leap) = None

-- the stamps among lines
abbrev pub stamps_among : List Line → List Stamp
stamps_among lines = filter_map stamp_of_line lines

-- the accepted stamps of lines, from the first line on
abbrev pub accepted_of_lines : ℕ → List Line → List Stamp
accepted_of_lines freq lines = accepted_all freq [] (stamps_among lines)

-- what stamps have each of which was accepted behind the one before it
pub record AreAccepted (freq : ℕ) (all : List Stamp) : Type 0 where
  pub timed : All IsInRange all
  pub sound : All (IsPlausible freq) all
  pub follow : AllPairs Follows all
