-- All that is said of accepted stamps alone, with no leap seconds.
use Rattle.std.specs.Prelude.{ℕ, List, length, map}
use Rattle.std.specs.List.{range_with_len}
use Rattle.stamp_text.specs.declared.lines.Stamp.{Stamp}
use Rattle.ff_hands.specs.declared.estimates.Estimate.{Estimate}
use Rattle.ff_estimator.specs.Estimates.{full_at}
use Rattle.ff_estimator.specs.declared.fulls.Full.{Full}

-- all that is said at each of these stamps, at a counter's frequency
unfoldable pub fold_of : ℕ → List Stamp → List Full
fold_of freq all = map (full_at freq all) (range_with_len 0 (length all))

abbrev pub estimates_of : List Full → List Estimate
estimates_of fulls = map (λ f. f.est) fulls
