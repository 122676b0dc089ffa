-- Lines that are written in parts.
use Rattle.std.proofs.Common.{◌≡◌, ℕ, ◌+◌, List, [], ◌∷◌, ◌++◌, Option, Result, Ok, Err, length, take, sym, ap, ◌∙◌, subst, arith, append-nil, append_assoc, length-append}
use Rattle.std.proofs.lemmas.List.{take-append-le}
use Rattle.std.proofs.lemmas.List.Folds.{concat-append}
use Rattle.std.proofs.Math.Seq.{take-append-add}
use Rattle.std.proofs.KnownBytes.{Appends-trans}
use Rattle.std.specs.List.{concat}
use Rattle.std.specs.Io.KnownBytes.{Appends}
use Rattle.rad_io.specs.Pushes.{Pushes, no_push, Wrote, Broke, Writes}
use Rattle.rad_io.specs.Pushes as pushes
use Rattle.rad_io.specs.declared.Failed.{Failed}

pushes-on : {K : Type 0} (push : K → List ℕ → Result (Unit {0}) Failed → K → Type 0) (old mid : K) (front rest : List (List ℕ)) (new : K) → Pushes
    push old front mid → Pushes push mid rest new → Pushes push old (front ++ rest) new
pushes-on push old mid front rest new first no_push = subst (λ ls. Pushes push old ls mid) (sym (append-nil front)) first
pushes-on push old mid front rest new first (pushes.one_more pieces piece last end then gives) =
    subst (λ ls. Pushes push old ls new) (append_assoc front pieces (piece ∷ []))
    (pushes.one_more (front ++ pieces) piece last new (pushes-on push old mid front pieces last first then) gives)

module _ {K : Type 0} (written : K → Option (List ℕ)) (faults : K → ℕ) (push : K → List ℕ → Result (Unit {0}) Failed → K → Type 0) where
  -- one part, and the next
  pub wrote-on : (old mid new : K) (front rest : List (List ℕ)) → Wrote written faults push old front mid → Wrote written faults push mid rest new
      → Wrote written faults push old (front ++ rest) new
  wrote-on old mid new front rest first then = record {
    pushes = pushes-on push old mid front rest new first.pushes then.pushes;
    bytes = subst (Appends (written old) (written new)) (sym (concat-append front rest))
        (Appends-trans (written old) (written mid) (written new) (concat front) (concat rest) first.bytes then.bytes);
    same = then.same ∙ first.same;
  }

  -- the next part broke
  pub broke-on : (old mid new : K) (front rest : List (List ℕ)) → Wrote written faults push old front mid → Broke written faults push mid rest new
      → Broke written faults push old (front ++ rest) new
  broke-on old mid new front rest first then =
      let n = then.bytes.0 in
      let cut : concat front ++ take n (concat rest) ≡ take (length (concat front) + n) (concat (front ++ rest)) = sym
      (ap (take (length (concat front) + n)) (concat-append front rest) ∙ take-append-add (concat front) (concat rest) n) in
      record {
        front = front ++ then.front;
        failed = then.failed;
        rest = then.rest;
        cut = ap (λ (ls : List (List ℕ)). front ++ ls) then.cut ∙ sym (append_assoc front then.front (then.failed ∷ then.rest));
        mid = then.mid;
        pushes = pushes-on push old mid front then.front then.mid first.pushes then.pushes;
        last = then.last;
        bytes = (
          length (concat front) + n,
          omega (
            arith,
            then.bytes.1,
            ap (λ (bs : List ℕ). length bs) (concat-append front rest),
            length-append (concat front) (concat rest),
          ),
          subst (Appends (written old) (written new)) cut
              (Appends-trans (written old) (written mid) (written new) (concat front) (take n (concat rest)) first.bytes then.bytes.2),
        );
        later = omega (arith, then.later, first.same);
        rose = omega (arith, then.rose, first.same);
      }

  -- a part broke, and more was to follow
  pub broke-early : (old new : K) (front rest : List (List ℕ)) → Broke written faults push old front new → Broke written faults push old (front ++ rest) new
  broke-early old new front rest broken =
      let n = broken.bytes.0 in
      let cut : take n (concat front) ≡ take n (concat (front ++ rest)) = sym
      (ap (take n) (concat-append front rest) ∙ take-append-le n (concat front) (concat rest) broken.bytes.1) in
      record {
        front = broken.front;
        failed = broken.failed;
        rest = broken.rest ++ rest;
        cut = ap (λ (ls : List (List ℕ)). ls ++ rest) broken.cut ∙ append_assoc broken.front (broken.failed ∷ broken.rest) rest;
        mid = broken.mid;
        pushes = broken.pushes;
        last = broken.last;
        bytes = (
          n,
          omega (
            arith,
            broken.bytes.1,
            ap (λ (bs : List ℕ). length bs) (concat-append front rest),
            length-append (concat front) (concat rest),
          ),
          subst (Appends (written old) (written new)) cut broken.bytes.2,
        );
        later = broken.later;
        rose = broken.rose;
      }

  -- the next part, with whatever answer
  pub writes-on : {T : Type 0} (old mid new : K) (front rest : List (List ℕ)) (r : Result T Failed) → Wrote written faults push old front mid
      → Writes written faults push mid rest r new → Writes written faults push old (front ++ rest) r new
  writes-on old mid new front rest (Ok x) first then = wrote-on old mid new front rest first then
  writes-on old mid new front rest (Err e) first then = broke-on old mid new front rest first then
