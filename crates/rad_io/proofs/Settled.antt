-- What follows of a pull from the answer of its read.
use Rattle.std.proofs.Common.{ℕ, List, Option, Result, Ok, Err, rules}
use Rattle.std.specs.Prelude.{IsErr}
use Rattle.std.specs.Io.{ReadsAtMost}
use Rattle.std.specs.Io.KnownBytes.{ReadConsumes}
use Rattle.rad_io.specs.Calls.{EachRead}
use Rattle.rad_io.specs.Streams.{Settles, ReaderGives}
use Rattle.rad_io.specs.declared.Failed.{Failed}

pub settled-within : {E : Type 0} (faults faults' : ℕ) (room' : List ℕ) (answer : Result ℕ E) (result : Result ℕ Failed) → Settles IsErr answer
    faults faults' result → ReadsAtMost answer room' → ReadsAtMost result room'
settled-within faults faults' room' (Ok n) (Ok m) settled h = search rules
settled-within faults faults' room' (Ok n) (Err e) settled h = search rules
settled-within faults faults' room' (Err e) (Ok m) settled h = search rules
settled-within faults faults' room' (Err e) (Err f) settled h = search rules

pub settled-bytes : {E : Type 0} (left left' : Option (List ℕ)) (faults faults' : ℕ) (room' : List ℕ) (answer : Result ℕ E)
    (result : Result ℕ Failed) → Settles IsErr answer faults faults' result → ReadConsumes left left' answer room' → ReadConsumes left left' result room'
settled-bytes left left' faults faults' room' (Ok n) (Ok m) settled h = search rules
settled-bytes left left' faults faults' room' (Ok n) (Err e) settled h = search rules
settled-bytes left left' faults faults' room' (Err e) (Ok m) settled h = search rules
settled-bytes left left' faults faults' room' (Err e) (Err f) settled h = search rules

-- one read, whose answer is settled, is a pull
pub pull_of : {R E : Type 0} (left : R → Option (List ℕ)) (reads : R → List ℕ → Result ℕ E → List ℕ → R → Type 0) (old : R) (room : List ℕ)
    (faults faults' : ℕ) (answer : Result ℕ E) (result : Result ℕ Failed) (room' : List ℕ) (new : R)
    → EachRead reads (λ old new r room. ReadsAtMost r room) → EachRead reads (λ old new r room. ReadConsumes (left old) (left new) r room)
    → reads old room answer room' new → Settles IsErr answer faults faults' result → ReaderGives left reads old room faults faults' result room' new
pull_of left reads old room faults faults' answer result room' new within consumes read settled = record {
  answer = answer;
  read = read;
  settled = settled;
  within = settled-within faults faults' room' answer result settled (within old new room room' answer read);
  bytes = settled-bytes (left old) (left new) faults faults' room' answer result settled (consumes old new room room' answer read);
}
