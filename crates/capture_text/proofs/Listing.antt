-- While a line is written for each member of a list.
use Rattle.std.proofs.Common.{◌≡◌, ℕ, ◌+◌, ◌<◌, ◌≤◌, List, [], ◌∷◌, ◌++◌, Option, Result, map, length, drop, get_or, sym, ap, ◌∙◌, subst, append-nil, append_assoc}
use Rattle.std.proofs.lemmas.List.{at_drop_more, at_drop_all}
use Rattle.rad_io.specs.Pushes.{Wrote, Broke}
use Rattle.rad_io.specs.declared.Failed.{Failed}
use Rattle.rad_io.proofs.Joining.{wrote-on, broke-on, broke-early}

module _ {K : Type 0} (written : K → Option (List ℕ)) (faults : K → ℕ) (push : K → List ℕ → Result (Unit {0}) Failed → K → Type 0) where
  -- the lines of the first n members were written
  pub record Listing {X : Type 0} (text : X → List ℕ) (xs : List X) (n : ℕ) (old new : K) : Type 0 where
    pub front : List (List ℕ)
    pub wrote : Wrote written faults push old front new
    pub whole : map text xs ≡ front ++ map text (drop n xs)

  -- the line of one more member
  pub listing-more : {X : Type 0} (text : X → List ℕ) (xs : List X) (n : ℕ) (d : X) (old mid new : K) → n < length xs
      → Listing text xs n old mid → Wrote written faults push mid (text (get_or xs n d) ∷ []) new → Listing text xs (n + 1) old new
  listing-more text xs n d old mid new within l more =
      let x = get_or xs n d in
      record {
        front = l.front ++ text x ∷ [];
        wrote = wrote-on written faults push old mid new l.front (text x ∷ []) l.wrote more;
        whole = l.whole ∙ ap (λ (ls : List (List ℕ)). l.front ++ ls) (at_drop_more (map text) xs n d within) ∙ sym (append_assoc l.front (text x ∷ []) (map text (drop (n + 1) xs)));
      }

  -- whose push failed
  pub listing-breaks : {X : Type 0} (text : X → List ℕ) (xs : List X) (n : ℕ) (d : X) (old mid new : K) → n < length xs
      → Listing text xs n old mid → Broke written faults push mid (text (get_or xs n d) ∷ []) new → Broke written faults push old (map text xs) new
  listing-breaks text xs n d old mid new within l broken =
      let x = get_or xs n d in
      let rest = map text (drop (n + 1) xs) in
      let whole : map text xs ≡ (l.front ++ text x ∷ []) ++ rest = l.whole ∙ ap (λ (ls : List (List ℕ)). l.front ++ ls) (at_drop_more (map text) xs n d within) ∙ sym (append_assoc l.front (text x ∷ []) rest) in
      subst (λ ls. Broke written faults push old ls new) (sym whole) (broke-early written faults push old new (l.front ++ text x ∷ []) rest (broke-on written faults push old mid new l.front (text x ∷ []) l.wrote broken))

  -- behind the last member
  pub listing-done : {X : Type 0} (text : X → List ℕ) (xs : List X) (n : ℕ) (old new : K) → length xs ≤ n → Listing text xs n old new → Wrote written faults push old (map text xs) new
  listing-done text xs n old new ended l =
      let whole : map text xs ≡ l.front = l.whole ∙ ap (λ (ls : List (List ℕ)). l.front ++ ls) (at_drop_all (map text) xs n ended) ∙ append-nil l.front in
      subst (λ ls. Wrote written faults push old ls new) (sym whole) l.wrote
