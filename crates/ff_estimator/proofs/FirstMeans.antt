-- Stamp 0 always has a mean: its own round trip is the base, and no count has passed since its reply.
use Rattle.std.proofs.Common.{◌≡◌, ℕ, ◌+◌, ◌-◌, ℤ, max, false, List, ◌∷◌, map, slice_range, Some, IsSome, refl, ap, ap₂, ◌∙◌, arith}
use Rattle.stamp_text.specs.Accepted.{trip}
use Rattle.stamp_text.specs.declared.lines.Stamp.{Stamp}
use Rattle.rtt_window.specs.Bases.{least_trip, judged, start_before, base_at}
use Rattle.rtt_window.specs.declared.bases.Base.{Base}
use Rattle.offset_weights.specs.Means.{weights_of}
use Rattle.offset_weights.specs.Weights.{weight_of}
use Rattle.offset_weights.proofs.MeanLaws.{mean_of_some}
use Rattle.offset_weights.proofs.WeightLaws.{weight_of_own}
use Rattle.ff_estimator.specs.Rates.{rate_in_use}
use Rattle.ff_estimator.specs.Terms.{term_of}
use Rattle.ff_estimator.specs.Means.{count_at, terms_at, mean_at}
use Rattle.ff_estimator.specs.Choices.{taken_before, taken_at}

base_at-first : (freq : ℕ) (s : Stamp) (more : List Stamp) → base_at freq (s ∷ more) 0 ≡ record { base = trip s; start = 0; shifted = false }
unfolding base_at start_before judged least_trip
base_at-first freq s more = refl

weights-first : (freq : ℕ) (s : Stamp) (more : List Stamp) → weights_of (terms_at freq (s ∷ more) 0) ≡ 65536
weights-first freq s more =
    let all : List Stamp = s ∷ more in
    let own : weight_of (trip s - trip s) (s.tf - s.tf) freq ≡ 65536 = ap₂ (λ excess age. weight_of excess age freq) (omega arith) (omega arith)
    ∙ weight_of_own freq in
    ap (λ (b : Base). weights_of (map (term_of freq b.base (rate_in_use freq all 0) (count_at all 0)) (slice_range all (max b.start 0) 1)))
    (base_at-first freq s more)
    ∙ ap (λ w. 0 + w) own

mean-first : (freq : ℕ) (s : Stamp) (more : List Stamp) → (m : ℤ × ℕ) × (mean_at freq (s ∷ more) 0 ≡ Some m)
unfolding mean_at
mean-first freq s more = (_, mean_of_some (terms_at freq (s ∷ more) 0) (omega (arith, weights-first freq s more)))

pub mean_at-first : (freq : ℕ) (s : Stamp) (more : List Stamp) → IsSome (mean_at freq (s ∷ more) 0)
mean_at-first freq s more = rw (mean-first freq s more).1

-- before stamp 16 no mean is doubted
pub taken_at-first : (freq : ℕ) (s : Stamp) (more : List Stamp) → ((taken_at freq (s ∷ more) 0).predicted ≡ false) × ((taken_at freq (s ∷ more) 0).run ≡ 0)
unfolding taken_before
taken_at-first freq s more = rw (mean-first freq s more).1 (refl, refl)
