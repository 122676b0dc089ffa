use Rattle.std.proofs.Common.{◌<◌, ap, arith}
use Rattle.callouts.specs.Timers.{Kept}
use Rattle.callouts.proofs.Changing.{of_tried, of_asked}
use Rattle.callouts.proofs.tests.equal_ones_fire_by_id.Goals as goal

pub cancel-requires : goal.cancel-requires
cancel-requires g c =
    let second = c.in-Ok.second in
    let early : second.id < c.add.new.self.added = omega (arith, c.in-Ok.ensures.id, ap (λ (k : Kept). k.added) c.in-Ok.ensures.added) in
    of_asked _ _ second _ _ (of_asked _ _ second _ _ (of_tried _ _ second _ _ c.in-Ok.ensures.of early c.add-2.ensures.full c.add-2.ensures.added)
    c.fire.ensures.fires c.fire.ensures.same) c.fire-2.ensures.fires c.fire-2.ensures.same
