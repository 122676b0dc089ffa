-- One more line, and one more byte, behind those that were read.
use Rattle.std.proofs.Common.{◌≡◌, ℕ, Bool, false, cond, eqb, ◌+◌, List, [], ◌∷◌, ◌++◌, Option, None, Some, Result, Ok, Err, length, refl, sym, ap, arith}
use Rattle.std.proofs.lemmas.Bool.Decides.{nat_tests}
use Rattle.std.specs.Option.{option_to_list}
use Rattle.stamp_text.specs.declared.lines.Line.{Line}
use Rattle.stamp_text.specs.declared.lines.LineFault.{LineFault}
use Rattle.stamp_text.specs.declared.lines.Why.{Why}
use Rattle.stamp_text.specs.Cut.{without_return}
use Rattle.stamp_text.specs.FeedSteps.{second_after}
use Rattle.stamp_text.specs.Grammar.{is_second, second_of, faults, gives_all, line_says, given_from, given_on, fault_from, fault_on, first_fault}

-- neither has a fault
pub first_none : (a b : Option LineFault) → first_fault a b ≡ None → (a ≡ None) × (b ≡ None)
first_none None b h = (refl, h)
first_none (Some f) b h = absurd (cc)

-- the first fault with one more line, which has the number m
pub fault_from-push : (second : Bool) (n : ℕ) (lines : List (List ℕ)) (line : List ℕ) (m : ℕ) → m ≡ n + length lines
    → fault_from second n (lines ++ line ∷ []) ≡ first_fault (fault_from second n lines) (fault_on m (line_says second m line) None)
fault_from-push second n [] line m e = let same : n ≡ m = omega arith in ap (λ k. fault_on k (line_says second k line) None) same
fault_from-push second n (l ∷ ls) line m e =
    let later : fault_from second (n + 1) (ls ++ line ∷ []) ≡ first_fault (fault_from second (n + 1) ls)
    (fault_on m (line_says second m line) None) = fault_from-push second (n + 1) ls line m (omega arith) in
    elim (line_says second n l) as (λ r. fault_on n r (fault_from second (n + 1) (ls ++ line ∷ [])) ≡ first_fault
    (fault_on n r (fault_from second (n + 1) ls)) (fault_on m (line_says second m line) None))
    [ Ok o ↦ later | Err w ↦ refl ]

-- what the lines give with one more line, where those before it have no fault
pub given_from-push : (second : Bool) (n : ℕ) (lines : List (List ℕ)) (line : List ℕ) (m : ℕ) → m ≡ n + length lines
    → fault_from second n lines ≡ None → given_from second n (lines ++ line ∷ []) ≡ given_from second n lines ++ given_on (line_says second m line) []
given_from-push second n [] line m e h = let same : n ≡ m = omega arith in ap (λ k. given_on (line_says second k line) []) same
given_from-push second n (l ∷ ls) line m e h =
    let step : (r : Result (Option Line) Why) → fault_on n r (fault_from second (n + 1) ls) ≡ None
    → given_on r (given_from second (n + 1) (ls ++ line ∷ [])) ≡ given_on r (given_from second (n + 1) ls) ++ given_on (line_says second m line) [] =
    elim [
      | Ok o ↦ elim o as (λ o. fault_on n (Ok o) (fault_from second (n + 1) ls) ≡ None
          → given_on (Ok o) (given_from second (n + 1) (ls ++ line ∷ [])) ≡ given_on (Ok o) (given_from second (n + 1) ls)
          ++ given_on (line_says second m line) []) [
            | None ↦ λ g. given_from-push second (n + 1) ls line m (omega arith) g
            | Some x ↦ λ g. ap
                (λ (xs : List Line). x ∷ xs) (given_from-push second (n + 1) ls line m (omega arith) g)
          ]
      | Err w ↦ λ g. absurd (cc)
    ] in
    step (line_says second n l) h

-- the same of the lines of a file, where the first of them says its version
pub faults-push : (lines : List (List ℕ)) (line : List ℕ) (m : ℕ) → m ≡ 1 + length lines
    → faults (lines ++ line ∷ []) ≡ first_fault (faults lines) (fault_on m (line_says (second_of lines) m line) None)
faults-push [] line m e = fault_from-push false 1 [] line m e
faults-push (l ∷ ls) line m e = fault_from-push (second_of (l ∷ ls)) 1 (l ∷ ls) line m e

pub gives_all-push : (lines : List (List ℕ)) (line : List ℕ) (m : ℕ) → m ≡ 1 + length lines → faults lines ≡ None
    → gives_all (lines ++ line ∷ []) ≡ gives_all lines ++ given_on (line_says (second_of lines) m line) []
gives_all-push [] line m e h = given_from-push false 1 [] line m e h
gives_all-push (l ∷ ls) line m e h = given_from-push (second_of (l ∷ ls)) 1 (l ∷ ls) line m e h

-- the version with one more line
pub second_of-push : (lines : List (List ℕ)) (line : List ℕ) → second_of (lines ++ line ∷ []) ≡ second_after (length lines) (second_of lines) line
second_of-push [] line = refl
second_of-push (l ∷ ls) line =
    let late : eqb (length (l ∷ ls)) 0 ≡ false = grind (arith, nat_tests) in
    sym (ap (λ t. cond t (is_second (without_return line)) (second_of (l ∷ ls))) late)

-- what a line gives alone
pub given_on-last : (o : Option Line) → given_on (Ok o) [] ≡ option_to_list o
given_on-last None = refl
given_on-last (Some x) = refl
