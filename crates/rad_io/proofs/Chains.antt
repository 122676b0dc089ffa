-- One more pull, and one more push.
use Rattle.std.proofs.Common.{◌≡◌, ℕ, ◌+◌, ◌<◌, List, [], ◌∷◌, ◌++◌, Option, Result, Ok, Err, length, take, refl, sym, ap, ◌∙◌, subst, arith, append-nil, length-append}
use Rattle.std.proofs.lemmas.List.{take-append-le}
use Rattle.std.proofs.lemmas.List.Folds.{concat-append}
use Rattle.std.proofs.Math.Seq.{take-append-add}
use Rattle.std.proofs.KnownBytes.{Appends-trans, Appends-nil, Consumes-trans, Consumes-nil}
use Rattle.std.specs.List.{concat}
use Rattle.std.specs.Io.KnownBytes.{Appends, ReadConsumes}
use Rattle.rad_io.specs.Bytes.{AppendsFront, PushAppends}
use Rattle.rad_io.specs.Causes.{HasCause}
use Rattle.rad_io.specs.Pulls.{Pulled, Pulls, no_pull, Took}
use Rattle.rad_io.specs.Pulls as pulls
use Rattle.rad_io.specs.Pushes.{Pushes, no_push, Wrote, Broke, Writes}
use Rattle.rad_io.specs.Pushes as pushes
use Rattle.rad_io.specs.declared.Failed.{Failed}

-- nothing was taken yet
pub took_nothing : {S : Type 0} (left : S → Option (List ℕ)) (faults : S → ℕ) (pull : S → List ℕ → Result ℕ Failed → List ℕ → S → Type 0) (size : ℕ)
    (old : S) → Took left faults pull size old [] old
took_nothing left faults pull size old = record { pulls = no_pull; bytes = Consumes-nil (left old); same = refl }

-- one more pull that gave bytes
pub took_more : {S : Type 0} (left : S → Option (List ℕ)) (faults : S → ℕ) (pull : S → List ℕ → Result ℕ Failed → List ℕ → S → Type 0) (size : ℕ)
    (old mid new : S) (text room filled : List ℕ) (n : ℕ)
    → ReadConsumes {E = Failed} (left mid) (left new) (Ok n) filled → HasCause {T = ℕ} {E = Failed} (faults mid) (faults new) (Ok n)
    → Took left faults pull size old text mid → 0 < n → length room ≡ size → pull mid room (Ok n) filled new
    → Took left faults pull size old (text ++ take n filled) new
took_more left faults pull size old mid new text room filled n consumes cause took some sized gives = record {
  pulls = pulls.one_more text (take n filled) n mid new took.pulls some (record { room = room; filled = filled; sized = sized; gives = gives; front = refl });
  bytes = Consumes-trans (left old) (left mid) (left new) text (take n filled) took.bytes consumes.0;
  same = cause.kept ∙ took.same;
}

-- nothing was written yet
pub wrote_nothing : {K : Type 0} (written : K → Option (List ℕ)) (faults : K → ℕ) (push : K → List ℕ → Result (Unit {0}) Failed → K → Type 0)
    (old : K) → Wrote written faults push old [] old
wrote_nothing written faults push old = record { pushes = no_push; bytes = Appends-nil (written old); same = refl }

pub concat-push : (pieces : List (List ℕ)) (piece : List ℕ) → concat (pieces ++ piece ∷ []) ≡ concat pieces ++ piece
concat-push pieces piece = concat-append pieces (piece ∷ []) ∙ ap (λ (bs : List ℕ). concat pieces ++ bs) (append-nil piece)

-- one more piece
pub wrote_more : {K : Type 0} (written : K → Option (List ℕ)) (faults : K → ℕ) (push : K → List ℕ → Result (Unit {0}) Failed → K → Type 0)
    (old mid new : K) (pieces : List (List ℕ)) (piece : List ℕ)
    → PushAppends {T = Unit {0}} {E = Failed} (written mid) (written new) (Ok tt) piece → HasCause {T = Unit {0}} {E = Failed} (faults mid) (faults new) (Ok tt)
    → Wrote written faults push old pieces mid → push mid piece (Ok tt) new → Wrote written faults push old (pieces ++ piece ∷ []) new
wrote_more written faults push old mid new pieces piece appends cause wrote gives = record {
  pushes = pushes.one_more pieces piece mid new wrote.pushes gives;
  bytes = subst (Appends (written old) (written new)) (sym (concat-push pieces piece))
      (Appends-trans (written old) (written mid) (written new) (concat pieces) piece wrote.bytes appends);
  same = cause.kept ∙ wrote.same;
}

front-same : (old new : Option (List ℕ)) (xs ys : List ℕ) → xs ≡ ys → AppendsFront old new xs → AppendsFront old new ys
front-same old new xs ys e h = let P : List ℕ → Type 0 = λ zs. AppendsFront old new zs in subst P e h

-- the whole first bytes, and a front of what follows them
front_second : (a b c : Option (List ℕ)) (xs ys zs : List ℕ) → Appends a b xs → AppendsFront b c ys → AppendsFront a c (xs ++ (ys ++ zs))
front_second a b c xs ys zs h k =
    let same : xs ++ take k.0 ys ≡ take (length xs + k.0) (xs ++ (ys ++ zs)) = ap (λ (bs : List ℕ). xs ++ bs) (sym (take-append-le k.0 ys zs k.1))
    ∙ sym (take-append-add xs (ys ++ zs) k.0) in (
      length xs + k.0,
      omega (arith, k.1, length-append xs (ys ++ zs), length-append ys zs),
      subst (Appends a c) same (Appends-trans a b c xs (take k.0 ys) h k.2),
    )

-- the push of a piece failed
pub broke : {K : Type 0} (written : K → Option (List ℕ)) (faults : K → ℕ) (push : K → List ℕ → Result (Unit {0}) Failed → K → Type 0)
    (old mid new : K) (front : List (List ℕ)) (piece : List ℕ) (rest : List (List ℕ))
    → PushAppends {T = Unit {0}} {E = Failed} (written mid) (written new) (Err (record {})) piece
    → HasCause {T = Unit {0}} {E = Failed} (faults mid) (faults new) (Err (record {}))
    → Wrote written faults push old front mid → push mid piece (Err (record {})) new → Broke written faults push old (front ++ piece ∷ rest) new
broke written faults push old mid new front piece rest appends cause wrote gives = record {
  front = front;
  failed = piece;
  rest = rest;
  cut = refl;
  mid = mid;
  pushes = wrote.pushes;
  last = gives;
  bytes = front-same (written old) (written new) (concat front ++ (piece ++ concat rest)) (concat (front ++ piece ∷ rest))
      (sym (concat-append front (piece ∷ rest))) (front_second (written old) (written mid) (written new) (concat front) piece (concat rest)
      wrote.bytes appends);
  later = omega (arith, cause.later, wrote.same);
  rose = omega (arith, cause.failed, wrote.same);
}

-- one last piece, with whatever answer
pub writes_last : {K : Type 0} (written : K → Option (List ℕ)) (faults : K → ℕ) (push : K → List ℕ → Result (Unit {0}) Failed → K → Type 0)
    (old mid new : K) (front : List (List ℕ)) (piece : List ℕ) (r : Result (Unit {0}) Failed)
    → PushAppends (written mid) (written new) r piece → HasCause (faults mid) (faults new) r
    → Wrote written faults push old front mid → push mid piece r new → Writes written faults push old (front ++ piece ∷ []) r new
writes_last written faults push old mid new front piece (Ok o) appends cause wrote gives =
    wrote_more written faults push old mid new front piece appends cause wrote gives
writes_last written faults push old mid new front piece (Err e) appends cause wrote gives =
    broke written faults push old mid new front piece [] appends cause wrote gives
