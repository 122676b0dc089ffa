use Rattle.std.proofs.Common.{◌++◌, ap, subst}
use Rattle.std.specs.Option.{option_map}
use Rattle.radclock_input.specs.Captured.{stop_of}
use Rattle.radclock_input.specs.Pulled.{IsInputStop}
use Rattle.radclock_input.proofs.PacketLaws.{reads-nothing-stops, stops-as}
use Rattle.radclock_input.proofs.captures.CaptureReaderIntake.take.Goals as goal

pub returns-in-Ok-clause-ok : goal.returns-in-Ok-clause-ok
returns-in-Ok-clause-ok c rules text short was =
    let read = c.in-Ok.ensures.ok text short was in
    record { read = read; sound = reads-nothing-stops _ _ _ (text ++ c.args.piece.now) read }
