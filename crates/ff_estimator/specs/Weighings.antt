-- Sums over stamps by their weights, which no rate goes into yet.
use Rattle.std.specs.Prelude.{◌≡◌, ℕ, ◌+◌, ◌-◌, ◌*◌, ◌^◌, ◌≤◌, List, nat_lt, count_by, sum_by}
use Rattle.ff_grain.specs.Grains.{grains_of}
use Rattle.stamp_text.specs.Accepted.{trip}
use Rattle.stamp_text.specs.declared.lines.Stamp.{Stamp}
use Rattle.rate_pair.specs.Rates.{rate_error}
use Rattle.rate_pair.specs.declared.rates.Rate.{Rate}
use Rattle.offset_weights.specs.Means as means
use Rattle.offset_weights.specs.Weights.{weight_of}
use Rattle.ff_estimator.specs.Terms.{counts_since}
use Rattle.ff_estimator.specs.declared.weighings.Weighed.{Weighed}

-- how much a stamp counts for the time of now
abbrev pub weight_at : ℕ → ℕ → ℕ → Stamp → ℕ
weight_at freq base now s = weight_of (trip s - base) (now - s.tf) freq

-- both of the server's times
abbrev pub server_times : Stamp → ℕ
server_times s = grains_of s.tb + grains_of s.te

-- these are the sums over these stamps
pub record AreSums (freq base now : ℕ) (w : Weighed) (stamps : List Stamp) : Type 0 where
  pub adds : w.added ≡ count_by (λ s. nat_lt 0 (weight_at freq base now s)) stamps
  pub weights : w.weight ≡ sum_by (weight_at freq base now) stamps
  pub times : w.times ≡ sum_by (λ s. weight_at freq base now s * server_times s) stamps
  pub counts : w.counts ≡ sum_by (λ s. weight_at freq base now s * counts_since now s) stamps
  pub trips : w.trips ≡ sum_by (λ s. weight_at freq base now s * trip s) stamps

-- the sums over at most 32 stamps
pub record IsBounded (w : Weighed) : Type 0 where
  pub few : w.added ≤ 32
  pub weights : w.weight ≤ w.added * 65536
  pub times : w.times ≤ w.weight * 2 ^ 97
  pub counts : w.counts ≤ w.weight * 2 ^ 63
  pub trips : w.trips ≤ w.weight * 2 ^ 62

-- the sums over what the stamps say at a rate
abbrev pub at_rate : Weighed → Rate → means.Kept
at_rate w rate = record {
  added = w.added;
  weight = w.weight;
  time = w.times + rate.period * w.counts;
  spread = w.trips * rate.high + rate_error rate * w.counts;
}

-- which are small enough
abbrev pub AreAtRate : Weighed → Rate → Type 0
AreAtRate w rate = means.IsBounded w.added w.weight (w.times + rate.period * w.counts) (w.trips * rate.high + rate_error rate * w.counts)
