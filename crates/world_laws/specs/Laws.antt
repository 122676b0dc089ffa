-- What the laws say.
use Rattle.std.specs.Prelude.{ℕ, ◌-◌, ◌<◌, ◌≤◌, List, length, IfSome}
use Rattle.std.specs.List.{All}
use Rattle.ff_grain.specs.Grains.{number_of}
use Rattle.stamp_text.specs.Accepted.{IsInRange, IsPlausible, AreAccepted}
use Rattle.stamp_text.specs.declared.lines.Stamp.{Stamp}
use Rattle.rtt_window.specs.Pairs.{ArePair}
use Rattle.rate_pair.specs.Rates.{IsRate, rate_of, nominal_rate}
use Rattle.rate_pair.specs.declared.rates.Rate.{Rate}
use Rattle.offset_weights.specs.Means.{Term, mean_of}
use Rattle.ff_estimator.specs.Terms.{term_of}
use Rattle.ff_estimator.specs.Choices.{predicted_by}
use Rattle.ff_estimator.specs.Estimates.{full_at}
use Rattle.ff_estimator.specs.Folds.{fold_of}
use Rattle.ff_estimator.specs.declared.choices.Taken.{Taken}
use Rattle.world_times.specs.declared.world.World.{World}
use Rattle.world_times.specs.Worlds.{IsFit, LiesIn, distance}
use Rattle.world_laws.specs.Spreads.{Covers, twice_distance}
use Rattle.world_laws.specs.Truths.{IsTrueEstimate}

-- the bounds of the rate of a pair that lies in the world cover its period
abbrev pub PairsHold : Type 0
PairsHold = (freq : ℕ) (w : World) (j k : Stamp) → IsFit freq w → ArePair freq j k → LiesIn w j → LiesIn w k → Covers (rate_of j k freq) w.period

-- so do those of the nominal rate
abbrev pub NominalHolds : Type 0
NominalHolds = (freq : ℕ) (w : World) → IsFit freq w → Covers (nominal_rate freq) w.period

-- twice the time that a stamp says for a later count is off by at most twice its spread
abbrev pub TermsHold : Type 0
TermsHold = (freq base now : ℕ) (w : World) (rate : Rate) (s : Stamp) → IsFit freq w → IsInRange s → IsPlausible freq s → LiesIn w s
    → IsRate freq rate → Covers rate w.period → s.tf ≤ now
    → twice_distance w (term_of freq base rate now s).twice_time now ≤ (term_of freq base rate now s).twice_spread

-- a mean of such terms is off by at most its spread
abbrev pub MeansHold : Type 0
MeansHold = (freq now : ℕ) (w : World) (terms : List Term) → IsFit freq w → All (λ t. twice_distance w t.twice_time now ≤ t.twice_spread) terms
    → IfSome (mean_of terms) (λ m. distance w m.0 now ≤ m.1)

-- a prediction is off by at most its spread where what it is made of was
abbrev pub PredictionsHold : Type 0
PredictionsHold = (freq before now : ℕ) (w : World) (rate : Rate) (t : Taken) → IsRate freq rate → Covers rate w.period → before ≤ now
    → distance w t.time before ≤ t.spread
    → distance w (predicted_by rate (now - before) t).0 now ≤ (predicted_by rate (now - before) t).1

-- each estimate of accepted stamps that lie in the world is off by at most its spread
abbrev pub SpreadsHold : Type 0
SpreadsHold = (freq : ℕ) (w : World) (all : List Stamp) (i : ℕ) → IsFit freq w → AreAccepted freq all → All (LiesIn w) all → i < length all
    → distance w (number_of (full_at freq all i).est.update_time) (full_at freq all i).est.update_ffcount ≤ (full_at freq all i).spread

-- and is true at later counts too
abbrev pub EstimatesHold : Type 0
EstimatesHold = (freq : ℕ) (w : World) (all : List Stamp) → 1000000 ≤ freq → freq ≤ 16000000000 → IsFit freq w → AreAccepted freq all
    → All (LiesIn w) all → All (IsTrueEstimate w) (fold_of freq all)
