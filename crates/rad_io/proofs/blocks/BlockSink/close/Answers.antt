use Rattle.std.proofs.Common.{◌≡◌, ◌≤◌, length, arith, rules}
use Rattle.rad_io.proofs.InBlocks.{closes-empty, closes-last}
use Rattle.rad_io.proofs.blocks.BlockSink.close.Goals as goal

pub returns-then-is_empty : goal.returns-then-is_empty
returns-then-is_empty g c =
    let sound : c.self.inside.faults ≡ 0 = omega (arith, c.if-faults-gt0.false) in
    let none : length c.self.inside.block.items ≡ 0 = search rules in
    closes-empty _ _ _ _ _ c.self.view_is sound none

pub returns : goal.returns
returns g c =
    let sink = g.met.K.Sink in
    let once = c.push-pushed.ensures.once in
    let sound : c.self.inside.faults ≡ 0 = omega (arith, c.if-faults-gt0.false) in
    let few : length c.deref.result.now ≤ 65536 = search rules in
    closes-last _ _ _ _ _ _ c.push-pushed.result _ c.self.view_is sound c.deref.ensures.value (sink.appends _ _ _ _ once) (sink.cause _ _ _ _ once) (few, once)
