use Rattle.std.proofs.Common.{◌<◌, ◌++◌, [], ◌∷◌, length, sym, ap, ◌∙◌, arith}
use Rattle.est_lane.specs.Lanes.{received_by, known_to}
use Rattle.replay_run.proofs.Going.{rest-follows, rest-whole, lap-on, lap-room-rest, lap-spare}
use Rattle.replay_run.proofs.Feeding.{same-out}
use Rattle.replay_run.proofs.laps.drive_rest.Goals as goal

pub lap-requires-clause-follows : goal.lap-requires-clause-follows
lap-requires-clause-follows g c κs within =
    rest-follows c.args.freq c.loop.got.items (received_by c.loop.output) (known_to c.loop.output) (known_to c.take_known-e.new.output) _ c.take_known-e.result
    c.requires.turn c.loop.invariant.got c.loop.invariant.all c.take_known-e.ensures.known

pub lap-requires-clause-spare : goal.lap-requires-clause-spare
lap-requires-clause-spare g c κs within =
    let fewer : length c.loop.got.items < c.args.most = omega (arith, c.loop.got.ok.0, c.loop.invariant.many, c.loop-test.true) in
    lap-room-rest c.args.freq c.args.ticks c.args.most c.loop.got.items c.take_known-e.result c.loop.pen.spare fewer c.loop.invariant.spare

pub loop-preserved : goal.loop-preserved
loop-preserved g c =
    let was = c.loop.invariant in
    let e = c.take_known-e.result in
    let fewer : length c.loop.got.items < c.args.most = omega (arith, c.loop.got.ok.0, was.many, c.loop-test.true) in
    record {
      end = same-out c.args.output.now c.loop.output c.take_known-e.new.output was.end c.take_known-e.ensures.end;
      got = c.lap.ensures.got ∙ ap (λ es. es ++ e ∷ []) was.got ∙ sym c.take_known-e.ensures.received;
      all = rest-whole (received_by c.loop.output) (received_by c.take_known-e.new.output) (known_to c.loop.output) (known_to c.take_known-e.new.output) _ e
          was.all c.take_known-e.ensures.known c.take_known-e.ensures.received;
      many = omega (arith, c.lap.ensures.len, was.many);
      room = omega (arith, was.room, c.lap.ensures.room);
      behind = c.lap.ensures.behind;
      spare = lap-spare c.args.freq c.args.ticks c.args.most c.loop.got.items c.lap.new.got.items e c.loop.pen c.lap.new.pen c.lap.ensures.got fewer was.spare
          c.lap.ensures.winds;
      winds = λ first winds. lap-on c.args.freq c.args.ticks c.loop.got.items c.lap.new.got.items e first c.loop.pen c.lap.new.pen c.lap.ensures.got
          (was.winds first winds) c.lap.ensures.winds;
    }
