-- What a daemon keeps, and which accepted stamps that stands for.
use Rattle.std.specs.Prelude.{◌≡◌, ℕ, ℤ, ◌+◌, ◌-◌, ◌*◌, ◌^◌, ◌≤◌, pos, ◌≤ℤ◌, max, if◌then◌else◌, List, length, map, drop, Option, None, Some, IfSome}
use Rattle.std.specs.Option.{option_map}
use Rattle.stamp_text.specs.Accepted.{last_of}
use Rattle.stamp_text.specs.Past.{Seen, seen_of, stamps_of}
use Rattle.stamp_text.specs.declared.lines.Item.{Item}
use Rattle.stamp_text.specs.declared.lines.Stamp.{Stamp}
use Rattle.rtt_window.specs.Windows as windows
use Rattle.rtt_window.specs.Pairs.{pair_of}
use Rattle.rtt_window.specs.declared.bases.Base.{Base}
use Rattle.rate_pair.specs.declared.rates.Rate.{Rate}
use Rattle.offset_weights.specs.Means.{mean_of}
use Rattle.ff_estimator.specs.Rates.{rate_by, uses_local}
use Rattle.ff_estimator.specs.Terms.{term_of}
use Rattle.ff_estimator.specs.Choices.{chosen, predicted_by, taken_before}
use Rattle.ff_estimator.specs.Leaps.{AreFew, fields_at, fields_kept, leaps_of}
use Rattle.ff_estimator.specs.declared.leaps.Leaps.{Leaps}
use Rattle.ff_estimator.specs.declared.rates.Rates.{Rates}
use Rattle.ff_estimator.specs.declared.choices.Taken.{Taken}

-- the window of the last stamps, what was taken at the newest one, what the tests of one more item ask for,
-- and the leap seconds
pub record Kept : Type 0 where
  pub window : windows.Kept
  pub taken : Taken
  pub past : Seen
  pub leaps : Leaps

-- the leap seconds that are kept tell at each count from the latest reply on what all of these tell
abbrev pub AreLeapsOf : Leaps → List Item → Type 0
AreLeapsOf k items = (count : ℕ) → IfSome (seen_of items).stamp (λ s. s.tf ≤ count) → fields_at (leaps_of items) count ≡ fields_kept k count

-- a daemon that keeps this may have accepted these items, at this frequency
pub record StandsFor (k : Kept) (freq : ℕ) (items : List Item) : Type 0 where
  pub window : windows.StandsFor k.window freq (stamps_of items)
  pub taken : k.taken ≡ taken_before freq (stamps_of items) (length (stamps_of items))
  pub past : k.past ≡ seen_of items
  pub leaps : AreLeapsOf k.leaps items

-- the credit of a daemon, that of its window: the steps that it may still take beside twelve for each
-- stamp that it is fed
abbrev pub credit : Kept → ℕ
credit k = windows.credit k.window

-- the rates at the newest stamp, by the window
pub record AreRates (w : windows.Kept) (rates : Rates) : Type 0 where
  pub global : rates.global ≡ rate_by w.freq (pair_of 1024 w.stamps)
  pub local : rates.local ≡ uses_local (w.count - 1) (rate_by w.freq (pair_of 64 w.stamps)) rates.global
  pub in_use : rates.in_use ≡ (if rates.local then rate_by w.freq (pair_of 64 w.stamps) else rates.global)

-- the mean at the newest stamp, whose reply came at `now`, by the window
abbrev pub mean_kept : windows.Kept → Base → Rate → ℕ → Option (ℤ × ℕ)
mean_kept w base rate now = mean_of (map (term_of w.freq base.base rate now) (drop (max base.start (w.count - 1 - 31) - (w.count - length w.stamps)) w.stamps))

-- what is taken at the newest stamp, given what was taken at the count before it
abbrev pub taken_kept : windows.Kept → Base → Rates → ℕ → ℕ → Taken → Taken
taken_kept w base rates before now t = chosen (w.count - 1) t.run (predicted_by rates.global (now - before) t) (mean_kept w base rates.in_use now)

-- the count at which the reply of the newest stamp came, and 0 before there is one
abbrev pub count_of : Option Stamp → ℕ
count_of None = 0
count_of (Some s) = s.tf

-- a time that is not negative, and with its spread grows by at most 2^45 grains a count
pub record IsTakenBounded (t : Taken) (count : ℕ) : Type 0 where
  pub low : pos 0 ≤ℤ t.time
  pub high : t.time ≤ℤ pos (2 ^ 97 + 2 ^ 45 * count)
  pub spread : t.spread ≤ 2 ^ 97 + 1 + 2 ^ 45 * count
  pub run : t.run ≤ 32

-- what every daemon has
pub record Holds (k : Kept) (freq : ℕ) : Type 0 where
  pub at : k.window.freq ≡ freq
  pub low : 1000000 ≤ freq
  pub high : freq ≤ 16000000000
  pub bounded : IsTakenBounded k.taken (count_of (last_of k.window.stamps))
  pub newest : k.past.stamp ≡ last_of k.window.stamps
  pub latest : option_map (λ l. l.count) k.leaps.latest ≡ k.past.leap
  pub few : AreFew k.leaps k.past.leaps
  pub hundred : k.past.leaps ≤ 100
