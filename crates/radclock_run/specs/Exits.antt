-- With which exit status the program ends.
use Rattle.std.specs.Prelude.{◌≡◌, ℕ, ◌⊎◌, List, drop}
use Rattle.clock_words.specs.Lines.{command_in}
use Rattle.tick_desk.specs.Shows.{IsFresh}
use Rattle.tick_desk.specs.declared.desk.Desk.{Desk}
use Rattle.radclock_input.specs.Pulled.{PullGives}
use Rattle.radclock_run.specs.Runs.{PushGives, ByBlocks, Ran}
use Rattle.radclock_run.specs.Statuses.{code_of}
use Rattle.radclock_run.specs.declared.status.Status.{Status}
use Rattle.radclock_run.specs.declared.status.Status.TheVariants as status

-- a run by the words behind the first, the program's name, on a desk that nothing was done with, whose lines went out in
-- blocks
pub record HasRun {S K : Type 0} (pull : PullGives S) (push : PushGives K) (words : List (List ℕ)) (source source' : S) (sink sink' : K)
    (result : Status) : Type 0 where
  pub desk : Desk
  pub fresh : IsFresh desk.pen desk.passes.items
  pub desk' : Desk
  pub ran : Ran pull (ByBlocks push) (command_in (drop 1 words)) source source' sink sink' desk desk' result

-- memory was wanting before the run, and nothing was read or written
pub record IsShort {S K : Type 0} (source source' : S) (sink sink' : K) (code : ℕ) : Type 0 where
  pub unread : source' ≡ source
  pub unwritten : sink' ≡ sink
  pub code_is : code ≡ code_of status.NoMemory

-- the program ends with the code of such a run, or for want of memory before it
abbrev pub Exits : {S K : Type 0} → PullGives S → PushGives K → List (List ℕ) → S → S → K → K → ℕ → Type 0
Exits pull push words source source' sink sink' code =
    ((result : Status) × HasRun pull push words source source' sink sink' result × (code ≡ code_of result))
    ⊎ IsShort source source' sink sink' code
