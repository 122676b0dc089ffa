use Rattle.std.proofs.Common.{◌++◌}
use Rattle.std.proofs.lemmas.Result.{on_ok_weaker}
use Rattle.radclock_input.proofs.Gathering.{reads-within}
use Rattle.radclock_input.proofs.stamps.StampReaderIntake.take.Goals as goal

pub returns-clause-ok : goal.returns-clause-ok
returns-clause-ok c = on_ok_weaker c.take_piece.result (λ ok limited text short was.
    let read = ok limited text short was in
    record { read = read; sound = reads-within limited _ _ _ (text ++ c.args.piece.now) read }) c.take_piece.ensures.ok
