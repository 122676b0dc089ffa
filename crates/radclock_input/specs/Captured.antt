-- Where a capture is not read further.
use Rattle.std.specs.Prelude.{ℕ, List, Option}
use Rattle.std.specs.Option.{option_map}
use Rattle.report_text.specs.declared.lines.Limit.TheVariants as limit
use Rattle.capture_text.specs.Inputs.{stop_within, stop_of_capture}
use Rattle.capture_text.specs.declared.inputs.CaptureStop.{CaptureStop}
use Rattle.capture_text.specs.declared.inputs.CaptureStop.TheVariants as capture_stop
use Rattle.radclock_input.specs.Inputs.{most_bytes}
use Rattle.radclock_input.specs.Pulled.{front_stop, input_stop}
use Rattle.radclock_input.specs.declared.stops.Stop.{Stop}
use Rattle.radclock_input.specs.declared.stops.Stop.TheVariants as stop

-- a stop of a capture among all stops; its exchanges are the stamps of the file that it becomes
abbrev pub stop_of : CaptureStop → Stop
stop_of capture_stop.Memory = stop.Memory
stop_of capture_stop.ManyExchanges = stop.Large limit.Stamps
stop_of (capture_stop.Fault f) = stop.Capture f

-- what stops a capture that may go on, as many bytes as are read, and a whole one
abbrev pub capture_within : List ℕ → Option Stop
capture_within text = option_map stop_of (stop_within text)

abbrev pub capture_whole : List ℕ → Option Stop
capture_whole text = option_map stop_of (stop_of_capture text)

-- the first stop, in the order of the bytes, of a capture that may go on, and of a whole one
abbrev pub capture_so_far : List ℕ → Option Stop
capture_so_far = front_stop most_bytes capture_within

abbrev pub stop_of_packets : List ℕ → Option Stop
stop_of_packets = input_stop most_bytes capture_within capture_whole
