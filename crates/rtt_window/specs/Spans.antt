-- The six windows over the round trips of the stamps, and the lists that keep their least.
use Rattle.std.specs.Prelude.{ℕ, ◌+◌, ◌-◌, min, max, List}
use Rattle.min_lists.specs.declared.which.Which.{Which}
use Rattle.min_lists.specs.declared.which.Which.TheVariants.{Base, Recent, WideOld, WideNew, NearOld, NearNew}
use Rattle.min_lists.specs.Lists.{Kept, Span, window, with_window}
use Rattle.rtt_window.specs.Pairs.{quarter}

-- the first and the last quarter of the last `most` of so many indices
abbrev pub first_quarter : ℕ → ℕ → Span
first_quarter most count = record {
  from = count - most;
  to = min count (count - most + quarter (min most count));
}

abbrev pub last_quarter : ℕ → ℕ → Span
last_quarter most count = record { from = count - quarter (min most count); to = count }

-- a window once so many stamps were added, where the level began at `start`
abbrev pub span_of : ℕ → ℕ → Which → Span
span_of count start Base = record { from = max start (count - 1024); to = count }
span_of count start Recent = record { from = count - 32; to = count }
span_of count start WideOld = first_quarter 1024 count
span_of count start WideNew = last_quarter 1024 count
span_of count start NearOld = first_quarter 64 count
span_of count start NearNew = last_quarter 64 count

-- with this right end of a window
abbrev pub with_end : Kept → Which → ℕ → Kept
with_end k which to = with_window k which (record { from = (window k which).from; to = to })

-- the lists of these round trips, the last of so many
abbrev pub listed : List ℕ → ℕ → ℕ → Kept
listed trips count start = record {
  trips = trips;
  count = count;
  base = span_of count start Base;
  recent = span_of count start Recent;
  wide_old = span_of count start WideOld;
  wide_new = span_of count start WideNew;
  near_old = span_of count start NearOld;
  near_new = span_of count start NearNew;
}
