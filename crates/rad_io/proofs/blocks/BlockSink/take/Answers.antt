use Rattle.std.proofs.Common.{◌≡◌, ◌+◌, ◌≤◌, ◌++◌, length, refl, sym, ap, ◌∙◌, subst, arith, rules, length-append}
use Rattle.rad_io.proofs.InBlocks.{hands-held, hands-from, block-ok, block-err, ok-from, err-from}
use Rattle.rad_io.proofs.blocks.BlockSink.take.Goals as goal

pub returns-then-len-lt-BLOCK-clause-ok : goal.returns-then-len-lt-BLOCK-clause-ok
returns-then-len-lt-BLOCK-clause-ok g c =
    let sound : c.self.inside.faults ≡ 0 = ap (λ v. v.faults) c.self.view_is ∙ c.requires.sound in
    let held : c.extend_from_slice.new.self.items ≡ c.self.inside.block.items ++ c.args.front.now = search rules in
    hands-from _ _ _ _ _ _ c.args.front.now c.self.view_is (hands-held _ _ _ _ _ c.args.front.now sound sound refl held)

pub returns-then-is_err-clause-err : goal.returns-then-is_err-clause-err
returns-then-is_err-clause-err g c =
    let sink = g.met.K.Sink in
    let sound : c.self.inside.faults ≡ 0 = ap (λ v. v.faults) c.self.view_is ∙ c.requires.sound in
    let held : c.extend_from_slice.new.self.items ≡ c.self.inside.block.items ++ c.args.front.now = search rules in
    let once = c.push-pushed.ensures.once in
    let fits : length c.self.inside.block.items + length c.args.front.now ≤ 65536 = subst (λ v. length v.block + length c.args.front.now ≤ 65536)
    (sym c.self.view_is) c.requires.fits in
    let sized : length c.deref.result.now ≡ 65536 = omega (
      arith,
      c.if-len-lt-BLOCK.false,
      c.len.ensures,
      c.extend_from_slice.new.self.ok.0,
      ap length (c.deref.ensures.value ∙ held),
      ap length c.deref.ensures.value,
      fits,
      length-append c.self.inside.block.items c.args.front.now,
    ) in
    err-from _ _ _ _ _ _ c.args.front.now c.push-pushed.result c.self.view_is
    (block-err _ _ _ _ _ c.args.front.now _ c.push-pushed.result sound refl (c.deref.ensures.value ∙ held) (sink.appends _ _ _ _ once)
    (sink.cause _ _ _ _ once) (omega (arith, sized), once))

pub returns-else-is_err-clause-ok : goal.returns-else-is_err-clause-ok
returns-else-is_err-clause-ok g c =
    let sink = g.met.K.Sink in
    let sound : c.self.inside.faults ≡ 0 = ap (λ v. v.faults) c.self.view_is ∙ c.requires.sound in
    let held : c.extend_from_slice.new.self.items ≡ c.self.inside.block.items ++ c.args.front.now = search rules in
    let once = c.push-pushed.ensures.once in
    let fits : length c.self.inside.block.items + length c.args.front.now ≤ 65536 = subst (λ v. length v.block + length c.args.front.now ≤ 65536)
    (sym c.self.view_is) c.requires.fits in
    let sized : length c.deref.result.now ≡ 65536 = omega (
      arith,
      c.if-len-lt-BLOCK.false,
      c.len.ensures,
      c.extend_from_slice.new.self.ok.0,
      ap length (c.deref.ensures.value ∙ held),
      ap length c.deref.ensures.value,
      fits,
      length-append c.self.inside.block.items c.args.front.now,
    ) in
    ok-from _ _ _ _ _ _ c.args.front.now c.push-pushed.result c.self.view_is
    (block-ok _ _ _ _ _ c.args.front.now _ c.push-pushed.result sound sound c.clear.ensures.items (c.deref.ensures.value ∙ held) sized
    (sink.appends _ _ _ _ once) (sink.cause _ _ _ _ once) (omega (arith, sized), once))
