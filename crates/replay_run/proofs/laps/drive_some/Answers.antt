use Rattle.std.proofs.Common.{◌<◌, ◌++◌, [], ◌∷◌, length, refl, sym, ap, subst, ◌∙◌, arith}
use Rattle.replay_run.specs.Laps.{WindsBy, IsBehind, last_count}
use Rattle.replay_run.specs.Plans.{plan_of}
use Rattle.replay_run.proofs.Going.{plan-none, lap-on, lap-room-some}
use Rattle.replay_run.proofs.Feeding.{same-out}
use Rattle.replay_run.proofs.laps.drive_some.Goals as goal
use Rattle.replay_run.proofs.laps.drive_some.Goals.{in-Some+else-not-may_follow, in-None}

pub loop-init : goal.loop-init
loop-init g c = record {
  end = ((refl, refl, refl, refl), refl);
  got = c.requires.empty ∙ sym c.requires.unused;
  winds = subst (λ es. WindsBy (plan_of c.args.freq es c.args.ticks) c.args.pen.now c.begin.new.pen) (sym c.requires.empty)
      (subst (λ ss. WindsBy ss c.args.pen.now c.begin.new.pen) (sym (plan-none c.args.freq c.args.ticks)) c.begin.ensures.winds);
  behind = subst (λ es. IsBehind (last_count es) c.begin.new.pen) (sym c.requires.empty) c.begin.ensures.at;
  few = omega (arith, c.args.got.now.ok.0, ap length c.requires.empty);
  room = c.requires.room;
}

pub lap-requires-clause-spare : goal.lap-requires-clause-spare
lap-requires-clause-spare g c κs within =
    let fewer : length c.loop.got.items < c.args.most = omega (arith, c.loop.got.ok.0, c.len.ensures, c.if-len-most.false) in
    lap-room-some c.args.freq c.args.ticks c.args.most c.loop.got.items c.in-Some.e c.args.pen.now c.loop.pen fewer c.requires.spare c.loop.invariant.winds

pub loop-preserved : goal.loop-preserved
loop-preserved g c =
    let was = c.loop.invariant in
    elim c.match-take.branch [
      | in-Some+else-not-may_follow w ↦ rw (w.got-is, w.pen-is) (record {
        end = same-out c.args.output.now c.loop.output c.take.new.self was.end c.take.ensures.end;
        got = w.lap.ensures.got ∙ ap (λ es. es ++ w.in-Some.e ∷ []) was.got ∙ sym w.in-Some.ensures.received;
        winds = lap-on c.args.freq c.args.ticks c.loop.got.items w.lap.new.got.items w.in-Some.e c.args.pen.now c.loop.pen w.lap.new.pen w.lap.ensures.got
            was.winds w.lap.ensures.winds;
        behind = w.lap.ensures.behind;
        few = omega (arith, w.lap.ensures.len, c.len.ensures, c.if-len-most.false);
        room = omega (arith, was.room, w.lap.ensures.room);
      })
      | in-None w ↦ rw (w.got-is, w.pen-is) (record {
        end = same-out c.args.output.now c.loop.output c.take.new.self was.end c.take.ensures.end;
        got = was.got ∙ sym w.in-None.ensures.received.0;
        winds = was.winds;
        behind = was.behind;
        few = was.few;
        room = was.room;
      })
    ]
