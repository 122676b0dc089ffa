-- A run whose lines go out in blocks.
use Rattle.std.proofs.Common.{◌≡◌, ℕ, ◌-◌, ◌^◌, List, Option, None, Result, Ok, Err, OnOk, OnErr, refl, ◌∙◌, arith}
use Rattle.rad_io.specs.Blocks.{Gathering, IsFresh, BlockGives, Closes, Short}
use Rattle.rad_io.specs.Pushes.{Wrote, Broke}
use Rattle.rad_io.specs.declared.Failed.{Failed}
use Rattle.rad_io.proofs.InBlocks.{wrote-in-blocks, broke-in-blocks}
use Rattle.clock_words.specs.declared.commands.Command.{Command}
use Rattle.tick_desk.specs.declared.desk.Desk.{Desk}
use Rattle.radclock_input.specs.Pulled.{PullGives}
use Rattle.radclock_run.specs.Runs.{PushGives, ByLines, ByBlocks, Ran, ends_with}
use Rattle.radclock_run.specs.declared.status.Status.{Status}
use Rattle.radclock_run.specs.declared.status.Status.TheVariants as status
use Rattle.radclock_run.proofs.Running.{by-writes}

module _ {K : Type 0} (written : K → Option (List ℕ)) (faults : K → ℕ) (push : PushGives K) where
  -- a sink that tells nothing, and whose count stands at its last value
  untold : Gathering K → Option (List ℕ)
  untold = λ _. None

  stands : Gathering K → ℕ
  stands = λ _. 2 ^ 64 - 1

  -- what is due in the blocks, and how the run ends
  abbrev pub GoesOut : K → List (List ℕ) → Status → K → Status → Type 0
  GoesOut sink lines due sink' result = (answer : Result (Unit {0}) Failed) × ByBlocks push sink lines answer sink' × (result ≡ ends_with due answer)

  ends-last : (due ended result : Status) (last : Result (Unit {0}) Failed) → ended ≡ due → OnOk last (result ≡ ended)
      → OnErr last (result ≡ status.WriteFault) → result ≡ ends_with due last
  ends-last due ended result (Ok o) is ok err = ok ∙ is
  ends-last due ended result (Err e) is ok err = err

  fails-last : (ended result : Status) (last : Result (Unit {0}) Failed) → ended ≡ status.WriteFault → OnOk last (result ≡ ended)
      → OnErr last (result ≡ status.WriteFault) → result ≡ status.WriteFault
  fails-last ended result (Ok o) is ok err = ok ∙ is
  fails-last ended result (Err e) is ok err = err

  goes-out : (sink sink' : K) (old mid : Gathering K) (lines : List (List ℕ)) (due ended result : Status)
      (answer last : Result (Unit {0}) Failed) → IsFresh sink old → Closes written faults (Short push) mid last sink'
      → OnOk last (result ≡ ended) → OnErr last (result ≡ status.WriteFault) → ended ≡ ends_with due answer
      → ByLines (BlockGives written faults (Short push)) old lines answer mid → GoesOut sink lines due sink' result
  unfolding untold stands
  goes-out sink sink' old mid lines due ended result (Ok o) last fresh closes ok err is pushes =
      let wrote : Wrote untold stands (BlockGives written faults (Short push)) old lines mid = record { pushes = pushes; bytes = tt; same = refl } in
      let blocks = wrote-in-blocks written faults (Short push) untold stands sink old mid lines last sink' fresh wrote closes in (
        last,
        record {
          blocks = blocks.blocks;
          bytes = blocks.bytes;
          pushed = by-writes written faults (Short push) sink blocks.blocks last sink' blocks.writes;
        },
        ends-last due ended result last is ok err,
      )
  goes-out sink sink' old mid lines due ended result (Err e) last fresh closes ok err is b =
      let broke : Broke untold stands (BlockGives written faults (Short push)) old lines
      mid = record {
        front = b.front;
        failed = b.failed;
        rest = b.rest;
        cut = b.cut;
        mid = b.mid;
        pushes = b.pushes;
        last = b.last;
        bytes = (0, omega arith, tt);
        later = omega arith;
        rose = omega arith;
      } in
      let blocks = broke-in-blocks written faults (Short push) untold stands sink old mid lines last sink' fresh broke closes in (
        Err (record {}),
        record {
          blocks = blocks.blocks;
          bytes = blocks.bytes;
          pushed = by-writes written faults (Short push) sink blocks.blocks (Err (record {})) sink' blocks.writes;
        },
        fails-last ended result last is ok err,
      )

pub run-in-blocks : {S K : Type 0} (pull : PullGives S) (written : K → Option (List ℕ)) (faults : K → ℕ) (push : PushGives K)
    (asked : Option Command) (source source' : S) (sink sink' : K) (old mid : Gathering K) (desk desk' : Desk) (ended result : Status)
    (last : Result (Unit {0}) Failed)
    → IsFresh sink old → Ran pull (ByLines (BlockGives written faults (Short push))) asked source source' old mid desk desk' ended
    → Closes written faults (Short push) mid last sink' → OnOk last (result ≡ ended) → OnErr last (result ≡ status.WriteFault)
    → Ran pull (ByBlocks push) asked source source' sink sink' desk desk' result
run-in-blocks pull written faults push asked source source' sink sink' old mid desk desk' ended result last fresh ran closes ok err =
    let out = goes-out written faults push sink sink' old mid _ ran.due ended result ran.answer last fresh closes ok err ran.ended ran.wrote in
    record {
      text = ran.text;
      stopped = ran.stopped;
      due = ran.due;
      answer = out.0;
      told = ran.told;
      status_is = ran.status_is;
      ended = out.2;
      read = ran.read;
      wrote = out.1;
      headline = ran.headline;
      truth = ran.truth;
      holds = ran.holds;
    }
