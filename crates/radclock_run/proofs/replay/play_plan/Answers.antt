use Rattle.std.proofs.Common.{[], refl}
use Rattle.radclock_input.specs.Inputs.{accepted_among}
use Rattle.radclock_run.proofs.Replaying.{are-played, plan-played}
use Rattle.radclock_run.proofs.replay.play_plan.Goals as goal

pub play-requires-clause-logs : goal.play-requires-clause-logs
play-requires-clause-logs g c κs within = (c.in_ok-logs.ensures.ready c.in_ok-plan.plan.options refl).logs_are

pub returns-clause-played : goal.returns-clause-played
returns-clause-played g c =
    let freq = c.args.file.now.head.freq in
    let all = accepted_among freq [] c.args.file.now.items.items in
    let is = c.in_ok-plan.ensures in
    are-played freq c.args.options.now all _ _ _ _ _ (c.in_ok-logs.ensures.ready c.args.options.now is.options_is)
    (plan-played freq c.args.options.now all _ _ _ _ _ is c.play.ensures.played) c.requires.options.readers c.requires.options.reads
