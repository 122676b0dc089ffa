-- How the parts of a run end: with the lines of a report, or of a fault.
use Rattle.std.specs.Prelude.{◌≡◌, ℕ, ◌⊎◌, Bool, List, [], ◌∷◌, Option, Result}
use Rattle.rad_io.specs.Pushes.{Wrote, Broke}
use Rattle.rad_io.specs.declared.Failed.{Failed}
use Rattle.report_text.specs.Text.{fault_text}
use Rattle.report_text.specs.declared.lines.FaultText.TheVariants as fault
use Rattle.clock_words.specs.declared.commands.Report.{Report}
use Rattle.clock_words.specs.declared.commands.Report.TheVariants as asked
use Rattle.tick_desk.specs.declared.desk.Desk.{Desk}
use Rattle.replay_run.specs.declared.plan.Options.{Options}
use Rattle.ideal_world.specs.declared.deviations.Deviation.{Deviation}
use Rattle.radclock_input.specs.Inputs.{accepted_among}
use Rattle.radclock_run.specs.MadeRuns.{run_text}
use Rattle.radclock_run.specs.Replays.{IsReplayed, IsRunOf}
use Rattle.radclock_run.specs.Reports.{report_of}
use Rattle.stamp_text.specs.declared.lines.Head.{Head}
use Rattle.radclock_input.specs.declared.files.ItemLine.{ItemLine}
use Rattle.radclock_input.specs.declared.stops.Stop.{Stop}
use Rattle.radclock_input.specs.declared.stops.Stop.TheVariants as stop
use Rattle.radclock_run.specs.declared.ran.Asked.{Asked}
use Rattle.radclock_run.specs.declared.status.Status.{Status}
use Rattle.radclock_run.specs.declared.status.Status.TheVariants as status

-- what a report leaves of the desk: only a replay changes it
abbrev pub Leaves : Report → ℕ → List ItemLine → Desk → Desk → Type 0
Leaves asked.Stamps freq items old new = new ≡ old
Leaves asked.Rtt freq items old new = new ≡ old
Leaves asked.Estimate freq items old new = new ≡ old
Leaves (asked.Ticks ticks timers) freq items old new = new ≡ old
Leaves (asked.Replay ticks readers reads back crank utc lane) freq items old new =
    IsReplayed (record { ticks = ticks; readers = readers; reads = reads; back = back; crank = crank; utc = utc }) freq (accepted_among freq [] items) new.pen

-- what a stop leaves of it. Memory may be wanting where passes were made already, but no tick
abbrev pub LeavesAt : Stop → Desk → Desk → Type 0
LeavesAt stop.Memory old new = new.pen.journal ≡ old.pen.journal
LeavesAt (stop.Read taken) old new = new ≡ old
LeavesAt (stop.Fault f) old new = new ≡ old
LeavesAt (stop.Large l) old new = new ≡ old
LeavesAt (stop.Capture f) old new = new ≡ old

-- the lines that were to be written are, and the run ends as it was to, or a push failed, which
-- was the last one
abbrev pub EndsWith : {K : Type 0} (written : K → Option (List ℕ)) (faults : K → ℕ) (push : K → List ℕ → Result (Unit {0}) Failed → K → Type 0) → K
    → List (List ℕ) → Status → Status → K → Type 0
EndsWith written faults push old lines due result new = ((result ≡ due) × Wrote written faults push old lines new)
    ⊎ ((result ≡ status.WriteFault) × Broke written faults push old lines new)

-- with the report that is asked for a run ends as it is to, or for want of memory
abbrev pub Finishes : {K : Type 0} (written : K → Option (List ℕ)) (faults : K → ℕ)
    (push : K → List ℕ → Result (Unit {0}) Failed → K → Type 0) → Report → Head → List ItemLine → K → Desk → Status → K → Desk → Type 0
Finishes written faults push r head items old desk result new desk' =
    (Leaves r head.freq items desk desk' × EndsWith written faults push old (report_of r head items desk'.pen) status.Done result new)
    ⊎ (LeavesAt stop.Memory desk desk' × EndsWith written faults push old (fault_text fault.Memory ∷ []) status.NoMemory result new)

-- and so it does with that on a run over made stamps
abbrev pub Summarises : {K : Type 0} (written : K → Option (List ℕ)) (faults : K → ℕ)
    (push : K → List ℕ → Result (Unit {0}) Failed → K → Type 0) → Asked → K → Desk → Status → K → Desk → Type 0
Summarises written faults push a old desk result new desk' =
    ((told : Option Deviation) × IsRunOf a told desk'.pen × EndsWith written faults push old (run_text a told desk'.pen) status.Done result new)
    ⊎ (LeavesAt stop.Memory desk desk' × EndsWith written faults push old (fault_text fault.Memory ∷ []) status.NoMemory result new)

-- the report on a replay by these options, over a lane or without one
abbrev pub replay_by : Options → Bool → Report
replay_by o lane = asked.Replay o.ticks o.readers o.reads o.back o.crank o.utc lane
