-- Sums over stamps by their weights, and the terms that they make at a rate.
use Rattle.std.proofs.Common.{◌≡◌, ℕ, ◌+◌, ◌*◌, ◌-◌, ◌^◌, ◌<◌, ◌≤◌, List, [], ◌∷◌, ◌++◌, map, nat_lt, cond, sum_by, length, take, get_or, min, refl, sym, ap, ◌∙◌, arith, append_assoc, mul-add, add-mul, zero-mul}
use Rattle.std.specs.List.{All}
use Rattle.std.proofs.Math.Nat.{mul_left_comm, mul_assoc}
use Rattle.std.proofs.lemmas.List.{take_more}
use Rattle.std.proofs.lemmas.List.Elements.{All-head, All-tail}
use Rattle.std.proofs.lemmas.List.Sums.{sum_by-cons, sum_by_push}
use Rattle.stamp_text.specs.Accepted.{IsInRange, IsPlausible, trip}
use Rattle.stamp_text.specs.declared.lines.Stamp.{Stamp}
use Rattle.rate_pair.specs.Rates.{IsRate, rate_error}
use Rattle.rate_pair.specs.declared.rates.Rate.{Rate}
use Rattle.offset_weights.specs.Means as means
use Rattle.offset_weights.specs.Means.{Term}
use Rattle.offset_weights.specs.Weights.{weight_of}
use Rattle.ff_estimator.specs.Terms.{counts_since, term_of}
use Rattle.ff_estimator.specs.Weighings.{weight_at, server_times, AreSums, IsBounded, at_rate, AreAtRate}
use Rattle.ff_estimator.specs.declared.weighings.Weighed.{Weighed}
use Rattle.ff_estimator.proofs.Sane.{term-time, term-spread}

same_sum : (f : Stamp → ℕ) (stamps : List Stamp) (s : Stamp) → f s ≡ 0 → sum_by f stamps ≡ sum_by f (stamps ++ s ∷ [])
same_sum f stamps s none = omega (arith, sum_by_push f stamps s)

-- one of weight 0 changes no sum
pub weightless_more : (freq base now : ℕ) (w : Weighed) (stamps : List Stamp) (s : Stamp) → weight_at freq base now s ≡ 0
    → AreSums freq base now w stamps → AreSums freq base now w (stamps ++ s ∷ [])
weightless_more freq base now w stamps s h was = record {
  adds = was.adds ∙ same_sum (λ u. cond (nat_lt 0 (weight_at freq base now u)) 1 0) stamps s (rw h);
  weights = was.weights ∙ same_sum (weight_at freq base now) stamps s h;
  times = was.times ∙ same_sum (λ u. weight_at freq base now u * server_times u) stamps s (rw (h, zero-mul));
  counts = was.counts ∙ same_sum (λ u. weight_at freq base now u * counts_since now u) stamps s (rw (h, zero-mul));
  trips = was.trips ∙ same_sum (λ u. weight_at freq base now u * trip u) stamps s (rw (h, zero-mul));
}

-- a sum over terms is one over their stamps
sum_map : (g : Term → ℕ) (f : Stamp → Term) (stamps : List Stamp) → sum_by g (map f stamps) ≡ sum_by (λ s. g (f s)) stamps
sum_map g f [] = refl
sum_map g f (s ∷ stamps) = sum_by-cons g (f s) (map f stamps) ∙ ap (λ n. g (f s) + n) (sum_map g f stamps) ∙ sym (sum_by-cons (λ t. g (f t)) s stamps)

-- a sum of two products, each by a number that is the same in all
sum_parts : (h a b : Stamp → ℕ) (q p : ℕ) → ((s : Stamp) → h s ≡ a s * q + p * b s) → (stamps : List Stamp) → sum_by h stamps ≡ sum_by a stamps * q
    + p * sum_by b stamps
sum_parts h a b q p each [] = omega arith
sum_parts h a b q p each (s ∷ stamps) =
    let first : sum_by a (s ∷ stamps) * q ≡ a s * q + sum_by a stamps * q = ap (λ n. n * q) (sum_by-cons a s stamps) ∙ add-mul (a s) (sum_by a stamps) q in
    let second : p * sum_by b (s ∷ stamps) ≡ p * b s + p * sum_by b stamps = ap (λ n. p * n) (sum_by-cons b s stamps) ∙ mul-add p (b s) (sum_by b stamps) in
    omega (arith, sum_by-cons h s stamps, first, second, each s, sum_parts h a b q p each stamps)

-- a sum of which each is at most so many times another
sum_at_most : (g h : Stamp → ℕ) (m : ℕ) (stamps : List Stamp) → All (λ s. g s ≤ h s * m) stamps → sum_by g stamps ≤ sum_by h stamps * m
sum_at_most g h m [] each = omega arith
sum_at_most g h m (s ∷ stamps) each =
    let P : Stamp → Type 0 = λ t. g t ≤ h t * m in
    let here : sum_by h (s ∷ stamps) * m ≡ h s * m + sum_by h stamps * m = ap (λ n. n * m) (sum_by-cons h s stamps) ∙ add-mul (h s) (sum_by h stamps) m in
    omega (arith, sum_by-cons g s stamps, here, All-head P s stamps each, sum_at_most g h m stamps (All-tail P s stamps each))

times_part : (w t p c : ℕ) → w * (t + p * c) ≡ w * t * 1 + p * (w * c)
times_part w t p c = omega (arith, mul-add w t (p * c), mul_left_comm w p c)

spreads_part : (w t q p c : ℕ) → w * (t * q + p * c) ≡ w * t * q + p * (w * c)
spreads_part w t q p c = omega (arith, mul-add w (t * q) (p * c), mul_left_comm w p c, mul_assoc w t q)

module _ (freq base now : ℕ) (rate : Rate) where
  -- what the stamps say
  abbrev time_at : Stamp → ℕ
  time_at s = weight_at freq base now s * (server_times s + rate.period * counts_since now s)

  abbrev spread_at : Stamp → ℕ
  spread_at s = weight_at freq base now s * (trip s * rate.high + rate_error rate * counts_since now s)

  times_at : (w : Weighed) (stamps : List Stamp) → AreSums freq base now w stamps → sum_by time_at stamps ≡ w.times + rate.period * w.counts
  times_at w stamps was =
      let parts = sum_parts time_at (λ s. weight_at freq base now s * server_times s) (λ s. weight_at freq base now s * counts_since now s) 1
      rate.period (λ s. times_part (weight_at freq base now s) (server_times s) rate.period (counts_since now s)) stamps in
      omega (arith, parts, was.times, ap (λ n. rate.period * n) was.counts)

  spreads_at : (w : Weighed) (stamps : List Stamp) → AreSums freq base now w stamps → sum_by spread_at stamps ≡ w.trips * rate.high + rate_error rate * w.counts
  spreads_at w stamps was =
      let parts = sum_parts spread_at (λ s. weight_at freq base now s * trip s) (λ s. weight_at freq base now s * counts_since now s) rate.high
      (rate_error rate) (λ s. spreads_part (weight_at freq base now s) (trip s) rate.high (rate_error rate) (counts_since now s)) stamps in
      omega (arith, parts, ap (λ n. n * rate.high) was.trips, ap (λ n. rate_error rate * n) was.counts)

  -- the sums at a rate are those of the terms
  pub terms_at_rate : (w : Weighed) (stamps : List Stamp) → AreSums freq base now w stamps
      → means.StandsFor (at_rate w rate) (map (term_of freq base rate now) stamps)
  terms_at_rate w stamps was =
      let f = term_of freq base rate now in
      record {
        adds = was.adds ∙ sym (sum_map (λ t. cond (nat_lt 0 t.weight) 1 0) f stamps);
        weights = was.weights ∙ sym (sum_map (λ t. t.weight) f stamps);
        times = sym (sum_map (λ t. t.weight * t.twice_time) f stamps ∙ times_at w stamps was);
        spreads = sym (sum_map (λ t. t.weight * t.twice_spread) f stamps ∙ spreads_at w stamps was);
      }

  -- they are small enough
  pub terms_bounded : (w : Weighed) (stamps : List Stamp) → AreSums freq base now w stamps → IsBounded w → 1000000 ≤ freq → IsRate freq rate
      → All IsInRange stamps → All (IsPlausible freq) stamps → AreAtRate w rate
  terms_bounded w stamps was bounded low order timed sound =
      let weight = weight_at freq base now in
      let times = sum_at_most time_at weight (2 ^ 98 - 1) stamps (λ i d within. term-time freq base now rate _ low (timed i d within)
      (sound i d within) order) in
      let spreads = sum_at_most spread_at weight (2 ^ 98 - 1) stamps (λ i d within. term-spread freq base now rate _ low (sound i d within) order) in
      record {
        few = bounded.few;
        weights = bounded.weights;
        times = omega (arith, times, times_at w stamps was, was.weights);
        spreads = omega (arith, spreads, spreads_at w stamps was, was.weights);
      }

-- a stamp of so long a round trip has no weight
pub long_weightless : (freq base now from longest : ℕ) (s : Stamp) → ((excess age : ℕ) → from ≤ excess → weight_of excess age freq ≡ 0) → longest
    ≡ min (base + from) (2 ^ 64 - 1) → longest ≤ trip s → IsInRange s → weight_at freq base now s ≡ 0
long_weightless freq base now from longest s none sum long timed = none (trip s - base) (now - s.tf) (omega arith)

-- one more of the stamps
pub more_stamps : (before xs : List Stamp) (i : ℕ) (d : Stamp) → i < length xs → (before ++ take i xs) ++ get_or xs i d ∷ [] ≡ before ++ take (i + 1) xs
more_stamps before xs i d within = append_assoc before (take i xs) (get_or xs i d ∷ []) ∙ ap (λ ss. before ++ ss) (sym (take_more xs i d within))
