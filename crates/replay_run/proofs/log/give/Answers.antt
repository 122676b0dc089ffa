use Rattle.std.proofs.Common.{◌∙◌, ◌<◌, length, arith}
use Rattle.std.proofs.lemmas.List.{length-set}
use Rattle.replay_run.proofs.Opening.{giving-more, giving-done}
use Rattle.replay_run.proofs.log.give.Goals as goal

pub loop-i-preserved : goal.loop-i-preserved
loop-i-preserved c =
    let inv = c.loop-i.invariant in
    let within : c.loop-i.i < length c.loop-i.logs.items = omega (arith, c.loop-i-test.true, c.len-i-end.ensures, inv.many, c.args.logs.now.ok.0) in
    record {
      giving = giving-more _ _ _ _ _ c.loop-i.i c.index_mut.result.now c.remove.result within inv.many c.requires inv.giving
          c.index_mut.ensures.value c.remove.ensures.value c.remove.ensures.items;
      many = length-set c.loop-i.logs.items c.loop-i.i _ ∙ inv.many;
    }

pub returns : goal.returns
returns c = giving-done _ _ _ _ c.loop-i.i (omega (arith, c.loop-i.invariant.many, c.requires, c.loop-i-test.false)) c.loop-i.invariant.many
    c.loop-i.invariant.giving
