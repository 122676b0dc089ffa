use Rattle.std.proofs.Common.{Some, ap, ◌∙◌}
use Rattle.replay_run.proofs.Going.{last-some, last-none}
use Rattle.replay_run.proofs.laps.last_count.Goals as goal

pub returns-in-Some : goal.returns-in-Some
returns-in-Some c = ap (λ n. Some n) c.count_of.ensures ∙ last-some c.args.got.now c.in-Some.e.now c.in-Some.ensures.value

pub returns-in-None : goal.returns-in-None
returns-in-None c = last-none c.args.got.now c.in-None.ensures.value
