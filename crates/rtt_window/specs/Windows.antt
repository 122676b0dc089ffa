-- What a window keeps, and which stamps that stands for.
use Rattle.std.specs.Prelude.{◌≡◌, ℕ, ◌+◌, ◌-◌, ◌<◌, ◌≤◌, min, List, [], ◌∷◌, ◌++◌, length, map, slice_range, IfSome}
use Rattle.circular_buffer.specs.Buffer.{Buffer, keep_last}
use Rattle.min_lists.specs.declared.which.Which.{Which}
use Rattle.min_lists.specs.declared.which.Which.TheVariants as windows
use Rattle.min_lists.specs.Lists as lists
use Rattle.min_lists.specs.Lists.{Span}
use Rattle.stamp_text.specs.Accepted.{AreAccepted, last_of, trip}
use Rattle.stamp_text.specs.declared.lines.Stamp.{Stamp}
use Rattle.rtt_window.specs.Bases.{least_of, judged, start_before}
use Rattle.rtt_window.specs.declared.bases.Base.{Base}
use Rattle.rtt_window.specs.Spans.{span_of, listed}

-- the last stamps, how many were added, where the level began, and the nominal frequency
pub record Kept : Type 0 where
  pub stamps : List Stamp
  pub count : ℕ
  pub start : ℕ
  pub freq : ℕ

-- nothing was added
abbrev pub nothing : ℕ → Kept
nothing freq = record { stamps = []; count = 0; start = 0; freq = freq }

-- a window that keeps this may have been given these stamps, at this frequency
pub record StandsFor (k : Kept) (freq : ℕ) (all : List Stamp) : Type 0 where
  pub at : k.freq ≡ freq
  pub stamps : k.stamps ≡ keep_last 1024 all
  pub count : k.count ≡ length all
  pub start : k.start ≡ start_before freq all (length all)

-- with one more stamp, before it is judged
abbrev pub kept_with : Kept → Stamp → Kept
kept_with k s = record k { stamps = keep_last 1024 (k.stamps ++ s ∷ []); count = k.count + 1 }

-- how many of the added stamps are no longer kept
abbrev pub dropped : Kept → ℕ
dropped k = k.count - length k.stamps

-- the indices of one of the six windows
abbrev pub span_in : Kept → Which → Span
span_in k which = span_of k.count k.start which

-- the kept stamps in it
abbrev pub stamps_in : Kept → Which → List Stamp
stamps_in k which =
    slice_range k.stamps ((span_in k which).from - dropped k) ((span_in k which).to - dropped k)

-- it has a stamp
abbrev pub HasStamp : Kept → Which → Type 0
HasStamp k which = (span_in k which).from < (span_in k which).to

-- its least round trip
abbrev pub least_in : Kept → Which → ℕ
least_in k which = least_of (map trip (stamps_in k which))

-- what is said of the newest stamp, by the windows
abbrev pub judged_in : Kept → Base
judged_in k =
    judged k.freq k.start (k.count - 1) (least_in k windows.Base) (least_in k windows.Recent)

-- the credit of a window, that of its lists: the steps that it may still take beside twelve for each
-- stamp that is added
unfoldable pub credit : Kept → ℕ
credit k = lists.credit (listed (map trip k.stamps) k.count k.start)

-- what every window has. Accepted stamps are at most as many as the counts up to the last reply, so
-- their number needs no bound of its own.
pub record Holds (stamps : Buffer Stamp) (lists : lists.Kept) (count start freq : ℕ) : Type 0 where
  pub capacity : stamps.capacity ≡ 1024
  pub few : length stamps.items ≡ min 1024 count
  pub listed : lists ≡ listed (map trip stamps.items) count start
  pub started : start ≤ count
  pub low : 1000000 ≤ freq
  pub high : freq ≤ 16000000000
  pub accepted : AreAccepted freq stamps.items
  pub counted : IfSome (last_of stamps.items) (λ s. count ≤ s.tf)
