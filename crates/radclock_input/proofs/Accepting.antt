-- The accepted items among lines, and the limit on the stamps and sets among them.
use Rattle.std.proofs.Common.{◌≡◌, ℕ, ◌+◌, ◌-◌, ◌<◌, ◌≤◌, Bool, true, false, ◌&&◌, ltb, List, [], ◌∷◌, ◌++◌, Result, Ok, Err, length, take, refl, sym, ap, ◌∙◌, arith, length-append, inl, inr}
use Rattle.std.proofs.lemmas.Bool.Decides.{nat_tests}
use Rattle.std.proofs.lemmas.List.{take-append-le, take_all}
use Rattle.std.proofs.Math.Seq.{take-append-add}
use Rattle.std.specs.Option.{option_to_list}
use Rattle.stamp_text.specs.Accepted.{accepted_with}
use Rattle.stamp_text.specs.Past.{accept_item, count_of_item, counts_of}
use Rattle.stamp_text.proofs.PastLaws.{counts-push}
use Rattle.stamp_text.specs.declared.accepts.Refused.{Refused}
use Rattle.stamp_text.specs.declared.lines.Line.{Line}
use Rattle.stamp_text.specs.declared.lines.Line.TheVariants as gives
use Rattle.stamp_text.specs.declared.lines.Head.{Head}
use Rattle.stamp_text.specs.declared.lines.Item.{Item}
use Rattle.stamp_text.specs.declared.lines.Item.TheVariants as item
use Rattle.radclock_input.specs.declared.files.ItemLine.{ItemLine}
use Rattle.radclock_input.specs.Inputs.{items_in, no_head, head_after, accepted_among, counted_among, accepts_many}
use Rattle.radclock_input.specs.Readings.{accepted_after}
use Rattle.radclock_input.proofs.Pulling.{by_order}
use Rattle.radclock_input.proofs.Heads.{IsHeaded, head-stays, head_after-append}

-- the items among lines and further lines
pub items_in-append : (lines more : List Line) → items_in (lines ++ more) ≡ items_in lines ++ items_in more
items_in-append [] more = refl
items_in-append (gives.Head h ∷ lines) more = items_in-append lines more
items_in-append (gives.Stamp n s ∷ lines) more = ap (λ (xs : List ItemLine). record { line = n; item = item.Stamp s } ∷ xs) (items_in-append lines more)
items_in-append (gives.Set n count at ∷ lines) more = ap (λ (xs : List ItemLine). record { line = n; item = item.Set count at } ∷ xs)
    (items_in-append lines more)
items_in-append (gives.Leap n count leap ∷ lines) more = ap (λ (xs : List ItemLine). record { line = n; item = item.Leap count leap } ∷ xs)
    (items_in-append lines more)

-- the accepted items among items and further ones
among-append : (freq : ℕ) (accepted : List Item) (xs ys : List ItemLine) → accepted_among freq accepted (xs ++ ys) ≡ accepted_among freq
    (accepted_among freq accepted xs) ys
among-append freq accepted [] ys = refl
among-append freq accepted (x ∷ xs) ys = among-append freq (accepted_with accepted x.item (accept_item freq accepted x.item)) xs ys

with-grows : (accepted : List Item) (x : Item) (r : Result (Unit {0}) Refused) → length (counts_of accepted) ≤ length (counts_of (accepted_with accepted x r))
with-grows accepted x (Ok o) = omega (arith, ap length (counts-push accepted x), length-append (counts_of accepted) (option_to_list (count_of_item x)))
with-grows accepted x (Err why) = omega arith

among-grows : (freq : ℕ) (accepted : List Item) (xs : List ItemLine) → length (counts_of accepted) ≤ length (counts_of (accepted_among freq accepted xs))
among-grows freq accepted [] = omega arith
among-grows freq accepted (x ∷ xs) =
    let r = accept_item freq accepted x.item in
    omega (arith, with-grows accepted x.item r, among-grows freq (accepted_with accepted x.item r) xs)

-- no fewer are accepted among the first of more items
first-grows : (freq n : ℕ) (xs ys : List ItemLine) → counted_among freq (take n xs) ≤ counted_among freq (take n (xs ++ ys))
first-grows freq n xs ys = by_order _ (length xs) n
    (λ short.
    let rest = n - length xs in
    let split : length xs + rest ≡ n = omega arith in
    let all : take n (xs ++ ys) ≡ take n xs ++ take rest ys = ap (λ n. take n (xs ++ ys)) (sym split) ∙ take-append-add xs ys rest
    ∙ ap (λ (zs : List ItemLine). zs ++ take rest ys) (sym (take_all n xs short)) in
    let more : accepted_among freq [] (take n (xs ++ ys)) ≡ accepted_among freq (accepted_among freq [] (take n xs)) (take rest ys) = ap
    (accepted_among freq []) all ∙ among-append freq [] (take n xs) (take rest ys) in
    omega (arith, ap (λ (xs : List Item). length (counts_of xs)) more, among-grows freq (accepted_among freq [] (take n xs)) (take rest ys)))
    (λ long. omega (arith, ap (counted_among freq) (take-append-le n xs ys (omega arith))))

-- the accepted items with one more line
pub accepted-line : (head : Head) (lines : List Line) (line : Line) → IsHeaded (lines ++ line ∷ []) → head ≡ head_after no_head lines
    → accepted_among (head_after no_head (lines ++ line ∷ [])).freq [] (items_in (lines ++ line ∷ [])) ≡ accepted_after head
    (accepted_among (head_after no_head lines).freq [] (items_in lines)) line
accepted-line head lines line headed is =
    let now = head_after no_head (lines ++ line ∷ []) in
    let here : now ≡ head_after head (line ∷ []) = head_after-append no_head lines (line ∷ []) ∙ ap (λ h. head_after h (line ∷ [])) (sym is) in
    let before : accepted_among now.freq [] (items_in lines) ≡ accepted_among (head_after no_head lines).freq [] (items_in lines) = elim
    (head-stays lines (line ∷ []) headed) [
      | inl none ↦ ap (accepted_among now.freq []) none ∙ sym (ap (accepted_among (head_after no_head lines).freq []) none)
      | inr same ↦ ap (λ (h : Head). accepted_among h.freq [] (items_in lines)) same
    ] in
    ap (accepted_among now.freq []) (items_in-append lines (line ∷ [])) ∙ among-append now.freq [] (items_in lines) (items_in (line ∷ []))
    ∙ ap (λ (xs : List Item). accepted_among now.freq xs (items_in (line ∷ []))) before
    ∙ ap (λ (h : Head). accepted_among h.freq (accepted_among (head_after no_head lines).freq [] (items_in lines)) (items_in (line ∷ []))) here

more-pass : (m n : ℕ) → ltb 16384 m ≡ true → m ≤ n → ltb 16384 n ≡ true
more-pass m n pass more = grind (arith, nat_tests)

-- lines that pass the limit pass it with more lines
pub many-stays : (limited : Bool) (lines more : List Line) → IsHeaded (lines ++ more) → accepts_many limited lines ≡ true
    → accepts_many limited (lines ++ more) ≡ true
unfolding accepts_many
many-stays false lines more headed many = absurd (cc)
many-stays true lines more headed many = elim (head-stays lines more headed) [
  | inl none ↦ let few : ltb 16384 (counted_among (head_after no_head lines).freq (take 65536 (items_in lines))) ≡ false = ap
      (λ xs. ltb 16384 (counted_among (head_after no_head lines).freq (take 65536 xs))) none in absurd (cc)
  | inr same ↦
      let old = (head_after no_head lines).freq in
      let grown = first-grows old 65536 (items_in lines) (items_in more) in
      let here : counted_among (head_after no_head (lines ++ more)).freq (take 65536 (items_in (lines ++ more))) ≡ counted_among old
      (take 65536 (items_in lines ++ items_in more)) = ap (λ (h : Head). counted_among h.freq (take 65536 (items_in (lines ++ more)))) same
      ∙ ap (λ xs. counted_among old (take 65536 xs)) (items_in-append lines more) in
      ap (ltb 16384) here ∙ more-pass _ _ many grown
]

-- behind as many items as are taken, none is tested
pub full-tested : (limited : Bool) (lines more : List Line) → IsHeaded (lines ++ more) → 65536 ≤ length (items_in lines)
    → accepts_many limited (lines ++ more) ≡ accepts_many limited lines
unfolding accepts_many
full-tested limited lines more headed full = elim (head-stays lines more headed) [
  | inl none ↦ absurd (omega (arith, ap length none))
  | inr same ↦ ap (λ (h : Head). limited && ltb 16384 (counted_among h.freq (take 65536 (items_in (lines ++ more))))) same
      ∙ ap (λ xs. limited && ltb 16384 (counted_among (head_after no_head lines).freq xs))
      (ap (take 65536) (items_in-append lines more) ∙ take-append-le 65536 (items_in lines) (items_in more) full)
]

-- of no more items than are taken, all are tested
all-tested : (limited : Bool) (lines : List Line) → length (items_in lines) ≤ 65536
    → accepts_many limited lines ≡ (limited && ltb 16384 (counted_among (head_after no_head lines).freq (items_in lines)))
unfolding accepts_many
all-tested limited lines few = ap (λ xs. limited && ltb 16384 (counted_among (head_after no_head lines).freq xs)) (take_all 65536 (items_in lines) few)

pub not-many : (limited : Bool) (lines : List Line) → length (items_in lines) ≤ 65536
    → (limited ≡ true → counted_among (head_after no_head lines).freq (items_in lines) ≤ 16384) → accepts_many limited lines ≡ false
not-many false lines few h = all-tested false lines few
not-many true lines few h = let here = h refl in all-tested true lines few ∙ grind (arith, nat_tests)

pub are-many : (limited : Bool) (lines : List Line) → length (items_in lines) ≤ 65536 → limited ≡ true
    → 16384 < counted_among (head_after no_head lines).freq (items_in lines) → accepts_many limited lines ≡ true
are-many false lines few on h = absurd (cc)
are-many true lines few on h = all-tested true lines few ∙ grind (arith, nat_tests)

pub are-few : (limited : Bool) (lines : List Line) → length (items_in lines) ≤ 65536 → accepts_many limited lines ≡ false → limited ≡ true
    → counted_among (head_after no_head lines).freq (items_in lines) ≤ 16384
are-few false lines few h on = absurd (cc)
are-few true lines few h on = let here = sym (all-tested true lines few) ∙ h in grind (arith, nat_tests)
