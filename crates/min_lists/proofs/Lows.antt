-- How many round trips have no lesser one behind them.
use Rattle.std.proofs.Common.{◌≡◌, ℕ, zero, suc, ◌+◌, ◌-◌, ◌<◌, ◌≤◌, ◌≢◌, Bool, true, false, nat_le, map, refl, ap, ◌∙◌, arith, inl, inr}
use Rattle.std.proofs.Math.Path.{fun_ext}
use Rattle.std.specs.List.{list_all, range_with_len}
use Rattle.std.proofs.lemmas.Bool.{cases_Bool, cases_lt, cases_eq, both_ways, leb-true, le-leb, lt-leb}
use Rattle.std.proofs.lemmas.Grind.{common_steps}
use Rattle.std.proofs.lemmas.List.FromFn.{length-map-range_with_len, get_or-map-range_with_len}
use Rattle.std.proofs.lemmas.List.Folds.{list_all_at}
use Rattle.min_lists.specs.Lists.{lows}
use Rattle.min_lists.specs.Links.{IsBefore}

module _ (p : ℕ → Bool) (trip : ℕ → ℕ) where
  -- those of the n indices from a on pass
  pass : (a n : ℕ) → ((j : ℕ) → a ≤ j → j < a + n → p (trip j) ≡ true) → list_all p (map trip (range_with_len a n)) ≡ true
  pass a zero h = refl
  pass a (suc n) h =
      let here : p (trip a) ≡ true = h a (omega arith) (omega arith) in
      let rest = pass (a + 1) n (λ j l m. h j (omega arith) (omega arith)) in
      grind (arith, common_steps)

  -- one of them fails
  fails : (a n j : ℕ) → a ≤ j → j < a + n → p (trip j) ≡ false → list_all p (map trip (range_with_len a n)) ≡ false
  fails a n j l m e =
      list_all_at p (map trip (range_with_len a n)) (j - a) 0 (omega (arith, length-map-range_with_len trip a n))
      (ap p (get_or-map-range_with_len trip a n (j - a) j 0 (omega arith) (omega arith)) ∙ e)

  -- where the first m pass, the others do
  same_pass : (a m n : ℕ) → m ≤ n → (list_all p (map trip (range_with_len a m)) ≡ true → (j : ℕ) → a + m ≤ j → j < a + n → p (trip j) ≡ true)
      → list_all p (map trip (range_with_len a n)) ≡ list_all p (map trip (range_with_len a m))
  same_pass a zero n le h = pass a n (λ j l k. h refl j (omega arith) k)
  same_pass a (suc m) zero le h = absurd (omega arith)
  same_pass a (suc m) (suc n) le h = elim (cases_Bool (p (trip a))) [
    | inl e ↦
        let rest = same_pass (a + 1) m n (omega arith) (λ f j l k. h (grind (arith, common_steps)) j (omega arith) (omega arith)) in
        grind (arith, common_steps)
    | inr e ↦ grind (arith, common_steps)
  ]

-- where the round trip at `from` is low up to b, it is low up to i
stays_low : (trip : ℕ → ℕ) (from i b : ℕ) → IsBefore trip from i b → from < b
    → list_all (nat_le (trip from)) (map trip (range_with_len (from + 1) (b - (from + 1)))) ≡ true
    → (j : ℕ) → b ≤ j → j ≤ i → trip from ≤ trip j
stays_low trip from i b f l low j m k =
    let p : ℕ → Bool = nat_le (trip from) in
    let last : trip from ≤ trip (b - 1) = elim (cases_eq from (b - 1)) [
      | inl e ↦ let same : trip from ≡ trip (b - 1) = ap trip e in omega arith
      | inr n ↦ elim (cases_Bool (p (trip (b - 1)))) [
        | inl e ↦ leb-true (trip from) (trip (b - 1)) e
        | inr e ↦ let ne : from ≢ b - 1 = n in absurd (both_ways _ (fails p trip (from + 1) (b - (from + 1)) (b - 1) (omega arith) (omega arith) e) low)
      ]
    ] in
    let at : trip (b - 1) ≤ trip i = f.not_above (b - 1) (omega arith) (omega arith) in
    elim (cases_eq j i) [
      | inl e ↦ let same : trip j ≡ trip i = ap trip e in omega arith
      | inr n ↦ let ne : j ≢ i = n in omega (arith, f.above j (omega arith) m (omega arith))
    ]

-- an index behind those before it: those that are above it are no longer low, and it is
lows_one_more : (trip : ℕ → ℕ) (n from i b : ℕ) → from + n ≡ i → IsBefore trip from i b → lows (map trip (range_with_len from (n + 1))) ≡ 1
    + lows (map trip (range_with_len from (b - from)))
unfolding lows
lows_one_more trip zero from i b e f = let none : b - from ≡ 0 = omega (arith, f.within) in rw none
lows_one_more trip (suc n) from i b e f =
    let p : ℕ → Bool = nat_le (trip from) in
    let more : suc n + 1 ≡ suc (n + 1) = omega arith in
    let later = lows_one_more trip n (from + 1) i b (omega arith) (record {
      within = f.within;
      above = λ j l m k. f.above j (omega arith) m k;
      not_above = λ j l g. f.not_above j (omega arith) g;
    }) in
    rw more (elim (cases_lt from b) [
      | inl l ↦
          let some : b - from ≡ suc (b - (from + 1)) = omega arith in
          let same = same_pass p trip (from + 1) (b - (from + 1)) (n + 1) (omega (arith, f.within))
          (λ low j m k. le-leb (trip from) (trip j) (stays_low trip from i b f l low j (omega arith) (omega arith))) in
          rw (some, same, later) (omega arith)
      | inr l ↦
          let none : b - from ≡ 0 = omega arith in
          let none_later : b - (from + 1) ≡ 0 = omega arith in
          let high = fails p trip (from + 1) (n + 1) i (omega arith) (omega arith) (lt-leb (trip from) (trip i) (f.above from (omega arith) l (omega arith))) in
          rw (none, high, later, none_later) (omega arith)
    ])

-- the same of a window up to the index i
pub lows_before : (trip : ℕ → ℕ) (from i b : ℕ) → from ≤ i → IsBefore trip from i b → lows (map trip (range_with_len from (i + 1 - from))) ≡ 1
    + lows (map trip (range_with_len from (b - from)))
lows_before trip from i b l f =
    let long : i + 1 - from ≡ i - from + 1 = omega arith in
    rw long (lows_one_more trip (i - from) from i b (omega arith) f)

-- and where the next index enters it, by nodes that have these round trips
pub lows_next : (trip trip' : ℕ → ℕ) (from to b steps steps' : ℕ) → ((i : ℕ) → trip' i ≡ trip i) → from ≤ to → IsBefore trip from to b
    → steps' + lows (map trip (range_with_len from (b - from))) ≤ steps + lows (map trip (range_with_len from (to - from))) + 1
    → steps' + lows (map trip' (range_with_len from (to + 1 - from))) ≤ steps + lows (map trip (range_with_len from (to - from))) + 2
lows_next trip trip' from to b steps steps' same l f cost =
    let one = lows_before trip from to b l f in
    let all : map trip' (range_with_len from (to + 1 - from)) ≡ map trip (range_with_len from (to + 1 - from)) = ap
    (λ (t : ℕ → ℕ). map t (range_with_len from (to + 1 - from))) (fun_ext same) in
    rw (all, one) (omega arith)
