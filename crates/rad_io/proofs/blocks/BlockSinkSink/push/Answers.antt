use Rattle.std.proofs.Common.{◌≡◌, [], refl, ap, arith}
use Rattle.rad_io.proofs.InBlocks.{hands-none, taking-more, taking-stops, gives-stop}
use Rattle.rad_io.proofs.blocks.BlockSinkSink.push.Goals as goal

pub loop-rest-init : goal.loop-rest-init
loop-rest-init g c =
    let sound : c.args.self.now.faults ≡ 0 = omega (arith, c.if-self-gt0.false, ap (λ v. v.faults) c.self.view_is) in
    record { taking = record { front = []; cut = refl; hands = hands-none _ _ _ c.args.self.now sound } }

pub returns-in_err-take : goal.returns-in_err-take
returns-in_err-take g c =
    record {
      once = gives-stop _ _ _ _ _ c.args.piece.now _ c.from_residual.ensures.0
          (taking-stops _ _ _ _ _ _ c.args.piece.now c.loop-rest.rest.now c.min-count.result c.loop-rest.invariant.taking c.in_err-take.ensures.err);
    }

pub loop-rest-preserved : goal.loop-rest-preserved
loop-rest-preserved g c =
    record { taking = taking-more _ _ _ _ _ _ c.args.piece.now c.loop-rest.rest.now c.min-count.result c.loop-rest.invariant.taking c.in_ok-take.ensures.ok }
