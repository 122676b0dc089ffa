use Rattle.replay_run.proofs.Going.{way-room}
use Rattle.replay_run.proofs.laps.approach.Goals as goal

pub go_on-requires-clause-spare : goal.go_on-requires-clause-spare
go_on-requires-clause-spare g c κs within = way-room c.args.ticks c.in-Some.from c.args.to c.args.pen.now.spare c.args.last c.in-Some.is c.requires.spare
