use Rattle.std.proofs.Common.{sym, ◌∙◌}
use Rattle.callouts.proofs.Told.{none_fire}
use Rattle.callouts.proofs.Uptimes.{uptimes}
use Rattle.callouts.proofs.asked.fire_asked.Goals as goal

pub fire_all-requires : goal.fire_all-requires
fire_all-requires c = uptimes c.args.ticks.now c.requires.journal

pub returns-in-None : goal.returns-in-None
returns-in-None c = rw c.in-None.is (c.new.ensures.items ∙ sym (none_fire 0 c.args.ticks.now))
