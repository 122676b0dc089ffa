use Rattle.std.proofs.Common.{ap, ◌∙◌}
use Rattle.replay_run.specs.Laps.{last_count}
use Rattle.replay_run.proofs.Going.{way-fits, own-fits, own-room, lap-winds, own-behind}
use Rattle.replay_run.proofs.laps.lap.Goals as goal

pub approach-requires-clause-fits : goal.approach-requires-clause-fits
approach-requires-clause-fits g c κs within =
    way-fits c.args.freq c.args.ticks c.args.got.now.items c.args.e c.last_count.result c.event_step-s.result c.args.pen.now c.args.pen.now
    c.requires.behind c.requires.follows (c.last_count.ensures ∙ ap last_count c.deref.ensures.value) c.event_step-s.ensures

pub next_step-requires-clause-spare : goal.next_step-requires-clause-spare
next_step-requires-clause-spare g c κs within =
    own-room c.args.freq c.args.ticks c.args.got.now.items c.args.e c.last_count.result c.event_step-s.result c.args.pen.now c.approach.new.pen
    c.requires.behind c.requires.follows (c.last_count.ensures ∙ ap last_count c.deref.ensures.value) c.event_step-s.ensures c.approach.ensures c.requires.spare

pub next_step-requires-clause-fits : goal.next_step-requires-clause-fits
next_step-requires-clause-fits g c κs within =
    own-fits c.args.freq c.args.ticks c.args.got.now.items c.args.e c.last_count.result c.event_step-s.result c.args.pen.now c.approach.new.pen
    c.requires.behind c.requires.follows (c.last_count.ensures ∙ ap last_count c.deref.ensures.value) c.event_step-s.ensures c.approach.ensures

pub returns-clause-winds : goal.returns-clause-winds
returns-clause-winds g c =
    lap-winds c.args.freq c.args.ticks c.args.got.now.items c.args.e c.last_count.result c.event_step-s.result c.args.pen.now c.approach.new.pen
    c.requires.behind c.requires.follows (c.last_count.ensures ∙ ap last_count c.deref.ensures.value) c.event_step-s.ensures c.approach.ensures
    c.next_step.new.pen c.next_step.ensures

pub returns-clause-behind : goal.returns-clause-behind
returns-clause-behind g c =
    own-behind c.args.freq c.args.ticks c.args.got.now.items c.args.e c.last_count.result c.event_step-s.result c.args.pen.now c.approach.new.pen
    c.requires.behind c.requires.follows (c.last_count.ensures ∙ ap last_count c.deref.ensures.value) c.event_step-s.ensures c.approach.ensures
    c.next_step.new.pen _ c.push_reserved.ensures.items c.next_step.ensures
