-- The mean time at an accepted stamp, over the whole list of them.
use Rattle.std.specs.Prelude.{ℕ, ℤ, ◌+◌, ◌-◌, max, map, slice_range, slice_index, List, Option}
use Rattle.stamp_text.specs.declared.lines.Stamp.{Stamp}
use Rattle.rtt_window.specs.Bases.{base_at}
use Rattle.offset_weights.specs.Means.{Term, mean_of}
use Rattle.ff_estimator.specs.Rates.{rate_in_use}
use Rattle.ff_estimator.specs.Terms.{term_of}

-- the count at which the reply of stamp i came
abbrev pub count_at : List Stamp → ℕ → ℕ
count_at all i = slice_index (map (λ s. s.tf) all) i

-- what the stamps up to stamp i say of the time at its reply: those since its level began, of the
-- last 32
abbrev pub terms_at : ℕ → List Stamp → ℕ → List Term
terms_at freq all i = map (term_of freq (base_at freq all i).base (rate_in_use freq all i) (count_at all i))
    (slice_range all (max (base_at freq all i).start (i - 31)) (i + 1))

-- the mean time at stamp i and its spread, in grains, where the stamps have any weight
unfoldable pub mean_at : ℕ → List Stamp → ℕ → Option (ℤ × ℕ)
mean_at freq all i = mean_of (terms_at freq all i)
