-- What a writer holds that takes a piece in several writes.
use Rattle.std.proofs.Common.{◌≡◌, ℕ, zero, suc, ◌-◌, ◌<◌, List, [], ◌++◌, Option, None, Some, Result, Ok, Err, length, take, drop, refl, sym, ap, ◌∙◌, subst, true≢false, arith, rules, append_assoc, append-nil, length-append}
use Rattle.std.proofs.lemmas.Grind.{common_steps}
use Rattle.std.proofs.lemmas.List.{take-append-drop}
use Rattle.std.proofs.Math.Seq.{take-append_seam}
use Rattle.std.proofs.KnownBytes.{Appends-trans, Appends-kept, Appends-nil}
use Rattle.std.specs.Prelude.{IsErr}
use Rattle.std.specs.Io.KnownBytes.{Appends, Keeps, WriteAppends}
use Rattle.rad_io.specs.Bytes.{AppendsFront}
use Rattle.rad_io.specs.Calls.{EachWrite}
use Rattle.rad_io.specs.Causes.{counted_on, HasCause}
use Rattle.rad_io.specs.Streams.{TakesNothing, Settles, Taken, no_write, WriterGives}
use Rattle.rad_io.specs.Streams as streams
use Rattle.rad_io.specs.declared.Failed.{Failed}

-- a front of the piece was passed by writes that took bytes, and this is left of it
pub record Passed {W E : Type 0} (written : W → Option (List ℕ)) (writes : W → List ℕ → Result ℕ E → W → Type 0) (old : W) (piece left : List ℕ)
    (now : W) : Type 0 where
  pub taken : Taken writes old piece left now
  pub front : List ℕ
  pub cut : piece ≡ front ++ left
  pub bytes : Appends (written old) (written now) front

-- at first all of it is left
pub passed_none : {W E : Type 0} (written : W → Option (List ℕ)) (writes : W → List ℕ → Result ℕ E → W → Type 0) (old : W) (piece : List ℕ) → Passed
    written writes old piece piece old
passed_none written writes old piece = record { taken = no_write; front = []; cut = refl; bytes = Appends-nil (written old) }

-- the part of a slice from an index on
pub rest_from : (bs : List ℕ) (at : ℕ) → take (length bs - at) (drop at bs) ≡ drop at bs
rest_from bs at = grind (arith, common_steps)

took_some : {E : Type 0} (answer : Result ℕ E) (before now n : ℕ) → Settles TakesNothing answer before now (Ok n) → 0 < n
took_some answer before now zero settled = absurd (true≢false (sym (settled.fails.1 (subst TakesNothing (sym settled.count) refl))))
took_some answer before now (suc n) settled = omega arith

-- one more write passed n bytes
pub passed_more : {W E : Type 0} (written : W → Option (List ℕ)) (writes : W → List ℕ → Result ℕ E → W → Type 0) (old mid new : W)
    (piece left : List ℕ) (answer : Result ℕ E) (before now n : ℕ)
    → EachWrite writes (λ old new bytes r. WriteAppends (written old) (written new) r bytes)
    → Passed written writes old piece left mid → writes mid left answer new → Settles TakesNothing answer before now (Ok n)
    → Passed written writes old piece (take (length left - n) (drop n left)) new
passed_more {W} {E} written writes old mid new piece left answer before now n appends passed gives settled =
    let is : answer ≡ Ok n = settled.count in
    let more : Taken writes old piece (drop n left) new = streams.one_more left n mid new passed.taken (took_some answer before now n settled)
    (subst (λ (a : Result ℕ E). writes mid left a new) is gives) in
    record {
      taken = subst (λ (rest : List ℕ). Taken writes old piece rest new) (sym (rest_from left n)) more;
      front = passed.front ++ take n left;
      cut = passed.cut ∙ ap (λ (bs : List ℕ). passed.front ++ bs) (sym (take-append-drop n left))
          ∙ sym (append_assoc passed.front (take n left) (drop n left)) ∙ ap (λ (bs : List ℕ). (passed.front ++ take n left) ++ bs) (sym (rest_from left n));
      bytes = Appends-trans (written old) (written mid) (written new) passed.front (take n left) passed.bytes
          (subst (λ (a : Result ℕ E). WriteAppends (written mid) (written new) a left) is (appends mid new left answer gives));
    }

-- a write that fails or takes nothing keeps what is written
kept_none : (mid new : Option (List ℕ)) → Appends mid new [] → Keeps mid new
kept_none None new h = tt
kept_none (Some xs) None h = h
kept_none (Some xs) (Some ys) h = h ∙ append-nil xs

nothing_taken : {E : Type 0} (mid new : Option (List ℕ)) (left : List ℕ) (answer : Result ℕ E) → TakesNothing answer
    → WriteAppends mid new answer left → Keeps mid new
nothing_taken mid new left (Ok n) none h = kept_none mid new (let P : ℕ → Type 0 = λ n. Appends mid new (take n left) in subst P none h)
nothing_taken mid new left (Err e) none h = h

-- and leaves the front
passed_front : (old mid new : Option (List ℕ)) (piece front left : List ℕ) → piece ≡ front ++ left → Appends old mid front → Keeps mid new
    → AppendsFront old new piece
passed_front old mid new piece front left cut bytes kept =
    let whole : take (length front) piece ≡ front = ap (take (length front)) cut ∙ take-append_seam front left in
    (length front, omega (arith, ap length cut, length-append front left), subst (Appends old new) (sym whole) (Appends-kept old mid new front bytes kept))

-- a push ends at a write that is a fault
pub halts : {W E : Type 0} (written : W → Option (List ℕ)) (writes : W → List ℕ → Result ℕ E → W → Type 0) (old mid new : W) (piece left : List ℕ)
    (faults before now : ℕ) (answer : Result ℕ E) (failed : Failed) (result : Result (Unit {0}) Failed)
    → EachWrite writes (λ old new bytes r. WriteAppends (written old) (written new) r bytes)
    → before ≡ faults → Passed written writes old piece left mid → 0 < length left → writes mid left answer new
    → Settles TakesNothing answer before now (Err failed) → IsErr result
    → WriterGives written writes old piece faults now result new
halts written writes old mid new piece left faults before now answer failed (Ok o) appends same passed some last settled is = absurd (search rules)
halts written writes old mid new piece left faults before now answer failed (Err e) appends same passed some last settled is =
    let stop : TakesNothing answer = settled.fails.0 refl in
    let kept : Keeps (written mid) (written new) = nothing_taken (written mid) (written new) left answer stop (appends mid new left answer last) in
    let cause : HasCause {T = Unit {0}} {E = Failed} before now
    (Err failed) = record { later = settled.cause.later; failed = settled.cause.failed; kept = tt } in
    record {
      made = record { rest = left; mid = mid; answer = answer; before = passed.taken; some = some; last = last; stop = stop };
      empty = λ none. absurd (omega (arith, ap length none, ap length passed.cut, length-append passed.front left, some));
      bytes = passed_front (written old) (written mid) (written new) piece passed.front left passed.cut passed.bytes kept;
      cause = subst (λ (b : ℕ). HasCause {T = Unit {0}} {E = Failed} b now (Err e)) same cause;
      rose = settled.rose ∙ ap counted_on same;
    }
