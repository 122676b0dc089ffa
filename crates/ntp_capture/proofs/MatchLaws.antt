-- The last sixteen requests are enough to know what a reply takes.
use Rattle.std.proofs.Common.{◌≡◌, ℕ, suc, ◌+◌, ◌<◌, ◌≤◌, Bool, true, false, not, ◌&&◌, cond, ltb, eqb, Option, None, Some, List, [], ◌∷◌, ◌++◌, length, take, drop, get_or, set, fold, ⊎_elim, refl, sym, ap, subst, ◌∙◌, arith, length-take}
use Rattle.std.specs.List.{find, position, position_or_len}
use Rattle.std.proofs.lemmas.Bool.{cases_lt, and_parts}
use Rattle.std.proofs.lemmas.Bool.Decides.{nat_tests}
use Rattle.std.proofs.lemmas.List.{append-nil, take_all, drop_all, take-take, take_at, length-set}
use Rattle.std.proofs.lemmas.List.Sums.{fold-append}
use Rattle.ntp_capture.specs.Packets.{transmit_of, mode_of, is_request, is_reply, is_usable}
use Rattle.ntp_capture.specs.Matches.{fits, first_taken, requests_with, requests_of, reply_gives, got_by, gots_from, gots, StandsFor}
use Rattle.ntp_capture.specs.declared.exchanges.Got.{Got}
use Rattle.ntp_capture.specs.declared.exchanges.Got.TheVariants as got
use Rattle.ntp_capture.specs.declared.matches.Request.{Request}
use Rattle.ntp_capture.specs.declared.pieces.Record.{Record}

pub length-first_taken : (p : Request → Bool) (qs : List Request) → length (first_taken p qs) ≡ length qs
length-first_taken p [] = refl
length-first_taken p (q ∷ qs) =
    let split : (t : Bool) → length (cond t (record q { taken = true } ∷ qs) (q ∷ first_taken p qs)) ≡ length (q ∷ qs) =
    elim [
      | true ↦ refl
      | false ↦ ap suc (length-first_taken p qs)
    ] in
    split (p q)

-- no more than sixteen are all of the last sixteen
pub few_taken : (p : Request → Bool) (qs : List Request) → length qs ≤ 16 → take 16 (first_taken p (take 16 qs) ++ drop 16 qs) ≡ first_taken p qs
few_taken p qs few =
    ap (λ (xs : List Request). take 16 (first_taken p xs ++ drop 16 qs)) (take_all 16 qs few)
    ∙ ap (λ (xs : List Request). take 16 (first_taken p qs ++ xs)) (drop_all 16 qs few)
    ∙ ap (take 16) (append-nil (first_taken p qs))
    ∙ take_all 16 (first_taken p qs) (omega (arith, length-first_taken p qs))

-- the last sixteen, of which one may have been taken
taken-front : (p : Request → Bool) (qs : List Request) → take 16 (first_taken p (take 16 qs) ++ drop 16 qs) ≡ first_taken p (take 16 qs)
taken-front p qs = ⊎_elim
    (λ many. take_at (first_taken p (take 16 qs)) (drop 16 qs) 16 (omega (arith, length-first_taken p (take 16 qs), length-take 16 qs)))
    (λ few. few_taken p qs few ∙ ap (first_taken p) (sym (take_all 16 qs few)))
    (cases_lt 16 (length qs))

-- a matcher that keeps sixteen requests answers as one that keeps all
pub kept-got : (qs : List Request) (r : Record) → got_by (take 16 qs) r ≡ got_by qs r
unfolding got_by
kept-got qs r = ap (λ (xs : List Request). cond (is_reply r) (reply_gives r (cond (is_usable r.packet) (find (fits r) xs) None)) got.Nothing)
    (take-take 16 16 qs (omega arith))

pub kept-with : (qs : List Request) (r : Record) → take 16 (requests_with (take 16 qs) r) ≡ take 16 (requests_with qs r)
unfolding requests_with
kept-with qs r =
    let q : Request = record { count = r.count; mark = transmit_of r.packet; taken = false } in
    let all : Request → List Request → List Request → List Request → List Request → Type 0 = λ q a b c d. a ≡ b in
    let split : (asks replies : Bool) → take 16 (cond asks (q ∷ take 16 qs)
    (cond replies (first_taken (fits r) (take 16 (take 16 qs)) ++ drop 16 (take 16 qs)) (take 16 qs)))
    ≡ take 16 (cond asks (q ∷ qs) (cond replies (first_taken (fits r) (take 16 qs) ++ drop 16 qs) qs)) =
    elim [
      | true ↦ λ replies. ap (λ (xs : List Request). q ∷ xs) (take-take 15 16 qs (omega arith))
      | false ↦ elim [
        | true ↦ taken-front (fits r) (take 16 qs) ∙ ap (first_taken (fits r)) (take-take 16 16 qs (omega arith)) ∙ sym (taken-front (fits r) qs)
        | false ↦ take-take 16 16 qs (omega arith)
      ]
    ] in
    split (is_request r) _

-- one more record
pub requests-push : (rs : List Record) (r : Record) → requests_of (rs ++ r ∷ []) ≡ requests_with (requests_of rs) r
requests-push rs r = fold-append requests_with [] rs (r ∷ [])

pub given-one : (old new : List Request) (rs : List Record) (r : Record) (g : Got) → StandsFor old rs → g ≡ got_by old r
    → new ≡ take 16 (requests_with old r) → (g ≡ got_by (requests_of rs) r) × StandsFor new (rs ++ r ∷ [])
given-one old new rs r g stands answer after =
    let qs = requests_of rs in (
      answer ∙ ap (λ qs. got_by qs r) stands ∙ kept-got qs r,
      after ∙ ap (λ qs. take 16 (requests_with qs r)) stands ∙ kept-with qs r
          ∙ ap (take 16) (sym (requests-push rs r)),
    )

-- what one more record gives comes behind what those before it give
gots-push : (qs : List Request) (rs : List Record) (r : Record) → gots_from qs (rs ++ r ∷ []) ≡ gots_from qs rs ++ got_by (fold requests_with qs rs) r ∷ []
gots-push qs [] r = refl
gots-push qs (x ∷ rs) r = ap (λ (gs : List Got). got_by qs x ∷ gs) (gots-push (requests_with qs x) rs r)

pub gots-grow : (rs : List Record) (r : Record) → gots (rs ++ r ∷ []) ≡ gots rs ++ got_by (requests_of rs) r ∷ []
unfolding gots
gots-grow rs r = gots-push [] rs r

-- the place of the first that passes, in a list with one more in front
place-cons : (p : Request → Bool) (q : Request) (qs : List Request) → position_or_len p (q ∷ qs) ≡ cond (not (p q)) (suc (position_or_len p qs)) 0
place-cons p q qs = ap (λ n. cond (not (p q)) n 0) (let n : 1 + position_or_len p qs ≡ suc (position_or_len p qs) = omega arith in n)

-- the first that fits is found at its place, and taken there
pub record FirstAt (p : Request → Bool) (qs : List Request) (at : ℕ) (d : Request) : Type 0 where
  pub found : find p qs ≡ Some (get_or qs at d)
  pub taken : first_taken p qs ≡ set qs at (record (get_or qs at d) { taken = true })

pub first-at : (p : Request → Bool) (qs : List Request) (d : Request) → position_or_len p qs < length qs → FirstAt p qs (position_or_len p qs) d
first-at p [] d here = absurd (omega arith)
first-at p (q ∷ qs) d here =
    let n = position_or_len p qs in
    let A : Option Request → List Request → ℕ → Type 0 =
    λ o xs at. (o ≡ Some (get_or (q ∷ qs) at d)) × (xs ≡ set (q ∷ qs) at (record (get_or (q ∷ qs) at d) { taken = true })) in
    let split : (t : Bool) → p q ≡ t → cond (not t) (suc n) 0 < suc (length qs)
    → A (cond t (Some q) (find p qs)) (cond t (record q { taken = true } ∷ qs) (q ∷ first_taken p qs)) (cond (not t) (suc n) 0) =
    elim [
      | true ↦ λ e h. (refl, refl)
      | false ↦ λ e h. let rest = first-at p qs d (omega arith) in (rest.found, ap (λ (xs : List Request). q ∷ xs) rest.taken)
    ] in
    let both = subst (A (find p (q ∷ qs)) (first_taken p (q ∷ qs))) (sym (place-cons p q qs))
    (split (p q) refl (subst (λ m. m < suc (length qs)) (place-cons p q qs) here)) in
    record { found = both.0; taken = both.1 }

-- where none fits, none is found or taken
pub first-none : (p : Request → Bool) (qs : List Request) → length qs ≤ position_or_len p qs → (find p qs ≡ None) × (first_taken p qs ≡ qs)
first-none p [] none = (refl, refl)
first-none p (q ∷ qs) none =
    let n = position_or_len p qs in
    let split : (t : Bool) → p q ≡ t → suc (length qs) ≤ cond (not t) (suc n) 0
    → (cond t (Some q) (find p qs) ≡ None) × (cond t (record q { taken = true } ∷ qs) (q ∷ first_taken p qs) ≡ q ∷ qs) =
    elim [
      | true ↦ λ e h. absurd (omega arith)
      | false ↦ λ e h. let rest = first-none p qs (omega arith) in (rest.0, ap (λ (xs : List Request). q ∷ xs) rest.1)
    ] in
    split (p q) refl (subst (λ m. suc (length qs) ≤ m) (place-cons p q qs) none)

-- what a place that was looked for says
pub place-some : (p : Request → Bool) (qs : List Request) (at : ℕ) → position p qs ≡ Some at → (at ≡ position_or_len p qs) × (position_or_len p qs < length qs)
place-some p qs at e =
    let n = position_or_len p qs in
    let split : (t : Bool) → ltb n (length qs) ≡ t → cond t (Some n) None ≡ Some at → (at ≡ n) × (n < length qs) =
    elim [
      | true ↦ λ test e. (cc, grind (arith, nat_tests))
      | false ↦ λ test e. absurd (cc)
    ] in
    split (ltb n (length qs)) refl e

pub place-none : (p : Request → Bool) (qs : List Request) → position p qs ≡ None → length qs ≤ position_or_len p qs
place-none p qs e =
    let n = position_or_len p qs in
    let split : (t : Bool) → ltb n (length qs) ≡ t → cond t (Some n) None ≡ None → length qs ≤ n =
    elim [
      | true ↦ λ test e. absurd (cc)
      | false ↦ λ test e. grind (arith, nat_tests)
    ] in
    split (ltb n (length qs)) refl e

-- a write through a slice of the whole list
pub written : (xs ys : List Request) (at : ℕ) (q : Request) → ys ≡ xs → take (length xs) (set ys at q ++ drop (length (set ys at q)) xs) ≡ set xs at q
written xs ys at q same =
    take_at (set ys at q) (drop (length (set ys at q)) xs) (length xs) (length-set ys at q ∙ ap length same) ∙ ap (λ (zs : List Request). set zs at q) same

-- what was sent is no reply
pub no-reply : (r : Record) → is_request r ≡ true → is_reply r ≡ false
unfolding is_request is_reply
no-reply r asks =
    let sent : r.sent ≡ true = (and_parts r.sent (eqb (mode_of r.packet) 3) asks).0 in
    ap (λ s. not s && eqb (mode_of r.packet) 4) sent
