use Rattle.std.proofs.Common.{rules, ◌≡◌, ◌+◌, ◌*◌, ◌<◌, ap, ◌∙◌, arith, inr}
use Rattle.callouts.specs.Nodes.{key_of, key_at}
use Rattle.callouts.proofs.Loose.{within_nodes}
use Rattle.callouts.proofs.Passing.{less_to_pass, passed}
use Rattle.callouts.proofs.Turning.{IsTurned, root, kid_after}
use Rattle.callouts.proofs.Turned.{melding_turned}
use Rattle.callouts.proofs.heaps.pass.Goals as goal
use Rattle.callouts.proofs.heaps.pass.Goals.{After-kid-next-in-loop-next}

-- the step over what hangs from the hook
step : (c : After-kid-next-in-loop-next)
    → IsTurned c.args.nodes.now c.args.nodes.now (2 * c.loop-next.node + c.loop-next.side) c.loop-next.next c.args.loose
    (2 * c.loop-next.next + c.next_side-side.result)
step c =
    let was = c.loop-next.invariant in
    let ahead : key_at c.args.nodes.now c.loop-next.next < key_of c.timer-last.result = search rules in
    let key : key_of c.timer-last.result ≡ key_at c.args.nodes.now c.args.loose = ap key_of c.timer-last.ensures.value in
    passed c.args.nodes.now _ c.loop-next.next c.args.loose _ was.melding was.next c.loop-next-test.true
    (omega (arith, ahead, key)) (omega (arith, c.next_side-side.ensures.within))

pub loop-next-smaller : goal.loop-next-smaller
loop-next-smaller c =
    let turned = step c in
    rw c.kid-next-in-loop-next.ensures
    (less_to_pass c.args.nodes.now c.loop-next.next _ c.args.loose c.loop-next-test.true (turned.before c.requires.some) (kid_after turned))

pub loop-next-preserved : goal.loop-next-preserved
loop-next-preserved c =
    let was = c.loop-next.invariant in
    let turned = step c in
    record {
      long = c.next_side-side.ensures.long ∙ was.long;
      node = within_nodes c.args.nodes.now c.loop-next.next (root turned).lives;
      side = c.next_side-side.ensures.within;
      next = c.kid-next-in-loop-next.ensures;
      melding = melding_turned turned;
      at = inr (omega (arith, (root turned).timer));
    }
