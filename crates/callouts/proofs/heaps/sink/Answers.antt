use Rattle.std.proofs.Common.{◌+◌, ◌*◌, ◌∙◌, arith, inr}
use Rattle.callouts.proofs.Loose.{within_nodes}
use Rattle.callouts.proofs.Melding.{keeps_on}
use Rattle.callouts.proofs.Sinking.{heaps_sunk, keeps_sunk, sinking, at_hook}
use Rattle.callouts.proofs.Turning.{root, keeps_turned}
use Rattle.callouts.proofs.Turned.{melding_turned}
use Rattle.callouts.proofs.heaps.sink.Goals as goal

pub returns-then-rest-eq0-clause-heaps : goal.returns-then-rest-eq0-clause-heaps
returns-then-rest-eq0-clause-heaps c =
    heaps_sunk _ _ _ _ _ c.pass-at.ensures.melding c.pass-at.ensures.kid c.hang_timer.ensures c.if-rest-eq0.true

pub returns-then-rest-eq0-clause-keeps : goal.returns-then-rest-eq0-clause-keeps
returns-then-rest-eq0-clause-keeps c =
    keeps_on _ _ _ _ _ c.loop-node.invariant.keeps
    (keeps_sunk _ _ _ _ _ c.pass-at.ensures.melding c.pass-at.ensures.kid c.hang_timer.ensures c.if-rest-eq0.true)
    (at_hook _ _ _ c.pass-at.ensures.at c.loop-node.invariant.at)

pub loop-node-preserved : goal.loop-node-preserved
loop-node-preserved c =
    let turned = sinking _ _ _ _ _ c.pass-at.ensures.melding c.pass-at.ensures.kid c.hang_timer.ensures
    (2 * c.loop-node.loose + c.next_side-side.result) c.loop-node.invariant.some c.pass-at.ensures.after (omega (arith, c.next_side-side.ensures.within)) in
    record {
      long = c.next_side-side.ensures.long ∙ c.pass-at.ensures.long ∙ c.loop-node.invariant.long;
      node = omega (arith, within_nodes c.loop-node.nodes c.loop-node.loose (root turned).lives, (keeps_turned turned).length);
      side = c.next_side-side.ensures.within;
      some = c.if-rest-eq0.false;
      melding = melding_turned turned;
      keeps = keeps_on _ _ _ _ _ c.loop-node.invariant.keeps (keeps_turned turned) (at_hook _ _ _ c.pass-at.ensures.at c.loop-node.invariant.at);
      at = inr (omega (arith, (root turned).timer));
    }
