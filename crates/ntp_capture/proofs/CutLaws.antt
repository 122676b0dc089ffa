-- More bytes behind a text that is cut into its units.
use Rattle.std.proofs.Common.{◌≡◌, ℕ, zero, suc, ◌+◌, ◌<◌, ◌≤◌, Bool, true, false, cond, ltb, List, [], ◌∷◌, ◌++◌, length, take, drop, refl, sym, ap, subst, ◌∙◌, arith, length-append, length-take}
use Rattle.std.proofs.lemmas.Bool.Decides.{nat_tests}
use Rattle.std.proofs.lemmas.List.{append-nil, take-append-le, drop-append-le, length-drop, take_all, drop_all}
use Rattle.std.specs.List.{sum_by}
use Rattle.std.proofs.lemmas.List.Sums.{sum_by-cons}
use Rattle.ntp_capture.specs.Cut.{Units, size_of, onto, left_head, units_from, units_of}
use Rattle.ntp_capture.proofs.FieldLaws.{size-some, size-more}

-- a text that is shorter than its first unit
pub units-open : (k : ℕ) (h : Bool) (u : List ℕ) → length u < size_of h u → units_from k h u ≡ record { ended = []; last = u }
units-open zero h u short = refl
units-open (suc k) h u short =
    let test : ltb (length u) (size_of h u) ≡ true = grind (arith, nat_tests) in
    ap (λ t. cond t (record { ended = []; last = u }) (onto (take (size_of h u) u) (units_from k false (drop (size_of h u) u)))) test

-- the first unit is cut off
pub cut-first : (k : ℕ) (h : Bool) (u : List ℕ) → size_of h u ≤ length u
    → units_from (suc k) h u ≡ onto (take (size_of h u) u) (units_from k false (drop (size_of h u) u))
cut-first k h u long =
    let test : ltb (length u) (size_of h u) ≡ false = grind (arith, nat_tests) in
    ap (λ t. cond t (record { ended = []; last = u }) (onto (take (size_of h u) u) (units_from k false (drop (size_of h u) u)))) test

-- a text that is one whole unit
pub units-whole : (k : ℕ) (h : Bool) (u : List ℕ) → length u ≡ size_of h u → length u ≤ k → units_from k h u ≡ record { ended = u ∷ []; last = [] }
units-whole zero h u is few = absurd (omega (arith, size-some h u))
units-whole (suc k) h u is few =
    cut-first k h u (omega arith)
    ∙ ap (λ (t : List ℕ). onto t (units_from k false (drop (size_of h u) u))) (take_all (size_of h u) u (omega arith))
    ∙ ap (λ (t : List ℕ). onto u (units_from k false t)) (drop_all (size_of h u) u (omega arith))
    ∙ ap (onto u) (units-open k false [] (omega (arith, size-some false [])))

-- as many steps as there are bytes are enough
units-same : (n m : ℕ) (h : Bool) (t : List ℕ) → length t ≤ n → length t ≤ m → units_from n h t ≡ units_from m h t
units-same zero m h t few enough = sym (units-open m h t (omega (arith, size-some h t)))
units-same (suc n) zero h t few enough = units-open (suc n) h t (omega (arith, size-some h t))
units-same (suc n) (suc m) h t few enough =
    let s = size_of h t in
    let split : (b : Bool) → ltb (length t) s ≡ b → cond b (record { ended = []; last = t }) (onto (take s t) (units_from n false (drop s t)))
    ≡ cond b (record { ended = []; last = t }) (onto (take s t) (units_from m false (drop s t))) =
    elim [
      | true ↦ λ e. refl
      | false ↦ λ e.
          let some = size-some h t in
          let rest = length-drop s t in
          ap (onto (take s t)) (units-same n m false (drop s t) (omega arith) (omega arith))
    ] in
    split (ltb (length t) s) refl

abbrev pub behind : List (List ℕ) → Units → Units
behind ended us = record { ended = ended ++ us.ended; last = us.last }

pub left_head-false : (us : List (List ℕ)) → left_head false us ≡ false
left_head-false [] = refl
left_head-false (u ∷ us) = refl

-- a text and more: behind the units that have ended in the text comes what begins with the one that has not
units-append : (n m k : ℕ) (h : Bool) (t v : List ℕ) → length t ≤ n → length t + length v ≤ m → length t + length v ≤ k
    → units_from m h (t ++ v) ≡ behind (units_from n h t).ended (units_from k (left_head h (units_from n h t).ended) ((units_from n h t).last ++ v))
units-append zero m k h t v few more enough = units-same m k h (t ++ v) (omega (arith, length-append t v)) (omega (arith, length-append t v))
units-append (suc n) zero k h t v few more enough =
    let us : units_from (suc n) h t ≡ record { ended = []; last = t } = units-open (suc n) h t (omega (arith, size-some h t)) in
    subst (λ (us : Units). units_from 0 h (t ++ v) ≡ behind us.ended (units_from k (left_head h us.ended) (us.last ++ v))) (sym us)
    (units-same 0 k h (t ++ v) (omega (arith, length-append t v)) (omega (arith, length-append t v)))
units-append (suc n) (suc m) k h t v few more enough =
    let s = size_of h t in
    let P : Units → Type 0 = λ us. units_from (suc m) h (t ++ v) ≡ behind us.ended (units_from k (left_head h us.ended) (us.last ++ v)) in
    let split : (b : Bool) → ltb (length t) s ≡ b → P (cond b (record { ended = []; last = t }) (onto (take s t) (units_from n false (drop s t)))) =
    elim [
      | true ↦ λ e. units-same (suc m) k h (t ++ v) (omega (arith, length-append t v)) (omega (arith, length-append t v))
      | false ↦ λ e.
          let long : s ≤ length t = grind (arith, nat_tests) in
          let some = size-some h t in
          let rest = length-drop s t in
          let x = units_from n false (drop s t) in
          let same : size_of h (t ++ v) ≡ s = size-more h t v long in
          let first = cut-first m h (t ++ v) (omega (arith, length-append t v)) in
          let sized : units_from (suc m) h (t ++ v) ≡ onto (take s (t ++ v)) (units_from m false (drop s (t ++ v))) =
          subst (λ n. units_from (suc m) h (t ++ v) ≡ onto (take n (t ++ v)) (units_from m false (drop n (t ++ v)))) same first in
          sized
          ∙ ap (λ (u : List ℕ). onto u (units_from m false (drop s (t ++ v)))) (take-append-le s t v long)
          ∙ ap (λ (u : List ℕ). onto (take s t) (units_from m false u)) (drop-append-le s t v long)
          ∙ ap (onto (take s t)) (units-append n m k false (drop s t) v (omega arith) (omega arith) (omega arith))
          ∙ ap (λ h. onto (take s t) (behind x.ended (units_from k h (x.last ++ v)))) (left_head-false x.ended)
    ] in
    split (ltb (length t) s) refl

pub units-more : (t v : List ℕ) → units_of (t ++ v)
    ≡ behind (units_of t).ended (units_from (length t + length v) (left_head true (units_of t).ended) ((units_of t).last ++ v))
unfolding units_of
units-more t v = units-append (length t) (length (t ++ v)) (length t + length v) true t v (omega arith) (omega (arith, length-append t v)) (omega arith)

-- the last unit has no more bytes than the text
last-short : (n : ℕ) (h : Bool) (t : List ℕ) → length (units_from n h t).last ≤ length t
last-short zero h t = omega arith
last-short (suc n) h t =
    let s = size_of h t in
    let split : (b : Bool) → ltb (length t) s ≡ b → length
    (cond b (record { ended = []; last = t }) (onto (take s t) (units_from n false (drop s t)))).last ≤ length t =
    elim [
      | true ↦ λ e. omega arith
      | false ↦ λ e. omega (arith, last-short n false (drop s t), length-drop s t)
    ] in
    split (ltb (length t) s) refl

-- more bytes that do not end the unit
pub more-open : (t v : List ℕ) → length ((units_of t).last ++ v) < size_of (left_head true (units_of t).ended) ((units_of t).last ++ v)
    → units_of (t ++ v) ≡ record { ended = (units_of t).ended; last = (units_of t).last ++ v }
more-open t v short =
    units-more t v
    ∙ ap (behind (units_of t).ended) (units-open (length t + length v) (left_head true (units_of t).ended) ((units_of t).last ++ v) short)
    ∙ ap (λ (es : List (List ℕ)). record { ended = es; last = (units_of t).last ++ v }) (append-nil (units_of t).ended)

-- more bytes with which the unit ends
pub more-whole : (t v : List ℕ) → length ((units_of t).last ++ v) ≡ size_of (left_head true (units_of t).ended) ((units_of t).last ++ v)
    → units_of (t ++ v) ≡ record { ended = (units_of t).ended ++ ((units_of t).last ++ v) ∷ []; last = [] }
unfolding units_of
more-whole t v is =
    let few = last-short (length t) true t in
    units-more t v
    ∙ ap (behind (units_of t).ended) (units-whole (length t + length v) (left_head true (units_of t).ended) ((units_of t).last ++ v) is
    (omega (arith, length-append (units_of t).last v)))

-- the unit that has not ended has not all of its bytes
last-open : (n : ℕ) (h : Bool) (t : List ℕ) → length t ≤ n
    → length (units_from n h t).last < size_of (left_head h (units_from n h t).ended) (units_from n h t).last
last-open zero h t few = omega (arith, size-some h t)
last-open (suc n) h t few =
    let s = size_of h t in
    let P : Units → Type 0 = λ us. length us.last < size_of (left_head h us.ended) us.last in
    let split : (b : Bool) → ltb (length t) s ≡ b → P (cond b (record { ended = []; last = t }) (onto (take s t) (units_from n false (drop s t)))) =
    elim [
      | true ↦ λ e. grind (arith, nat_tests)
      | false ↦ λ e.
          let x = units_from n false (drop s t) in
          subst (λ h. length x.last < size_of h x.last) (left_head-false x.ended) (last-open n false (drop s t) (omega (arith, size-some h t, length-drop s t)))
    ] in
    split (ltb (length t) s) refl

pub last-is-open : (t : List ℕ) → length (units_of t).last < size_of (left_head true (units_of t).ended) (units_of t).last
unfolding units_of
last-is-open t = last-open (length t) true t (omega arith)

-- the units have all bytes of the text
all-bytes : (n : ℕ) (h : Bool) (t : List ℕ) → sum_by length (units_from n h t).ended + length (units_from n h t).last ≡ length t
all-bytes zero h t = omega arith
all-bytes (suc n) h t =
    let s = size_of h t in
    let P : Units → Type 0 = λ us. sum_by length us.ended + length us.last ≡ length t in
    let split : (b : Bool) → ltb (length t) s ≡ b → P (cond b (record { ended = []; last = t }) (onto (take s t) (units_from n false (drop s t)))) =
    elim [
      | true ↦ λ e. omega arith
      | false ↦ λ e.
          let x = units_from n false (drop s t) in
          let long : s ≤ length t = grind (arith, nat_tests) in
          omega (arith, all-bytes n false (drop s t), sum_by-cons length (take s t) x.ended, length-drop s t, length-take s t)
    ] in
    split (ltb (length t) s) refl

pub bytes-of : (t : List ℕ) → sum_by length (units_of t).ended + length (units_of t).last ≡ length t
unfolding units_of
bytes-of t = all-bytes (length t) true t
