-- How a run ends.
use Rattle.std.specs.Prelude.{ℕ, Option, None, Some}
use Rattle.report_text.specs.declared.lines.FaultText.{FaultText}
use Rattle.report_text.specs.declared.lines.FaultText.TheVariants as fault
use Rattle.radclock_input.specs.declared.stops.Stop.{Stop}
use Rattle.radclock_input.specs.declared.stops.Stop.TheVariants as stop
use Rattle.radclock_run.specs.declared.status.Status.{Status}
use Rattle.radclock_run.specs.declared.status.Status.TheVariants as status

-- the exit status
abbrev pub code_of : Status → ℕ
code_of status.Done = 0
code_of (status.BadInput f) = 1
code_of status.Usage = 2
code_of status.ReadFault = 3
code_of status.WriteFault = 4
code_of status.NoMemory = 5
code_of (status.TooLarge l) = 6
code_of (status.BadCapture f) = 7

-- the status of a run that was stopped while it read
abbrev pub status_of : Stop → Status
status_of stop.Memory = status.NoMemory
status_of (stop.Read taken) = status.ReadFault
status_of (stop.Fault f) = status.BadInput f
status_of (stop.Large l) = status.TooLarge l
status_of (stop.Capture f) = status.BadCapture f

-- the fault that such a run tells
abbrev pub fault_of : Stop → FaultText
fault_of stop.Memory = fault.Memory
fault_of (stop.Read taken) = fault.Read taken
fault_of (stop.Fault f) = fault.Input f
fault_of (stop.Large l) = fault.Large l
fault_of (stop.Capture f) = fault.Capture f

-- the status of a run that nothing stops from outside
abbrev pub status_by : Option Stop → Status
status_by None = status.Done
status_by (Some s) = status_of s
