use Rattle.std.proofs.Common.{rules, ◌<◌, ◌≤◌, subst, arith, inl, inr}
use Rattle.callouts.specs.Nodes.{key_at}
use Rattle.callouts.specs.Heaps.{IsHung}
use Rattle.callouts.proofs.Loose.{torn_swap}
use Rattle.callouts.proofs.Melding.{one_left, heaps_melded}
use Rattle.callouts.proofs.Passing.{other_before}
use Rattle.callouts.proofs.Sinking.{hook_whole}
use Rattle.callouts.proofs.Turned.{melding_turned}
use Rattle.callouts.proofs.heaps.meld.Goals as goal
use Rattle.callouts.proofs.heaps.meld.Goals.{then-one-eq0-via-then-one-eq0, then-one-eq0-via-else-one-eq0+then-other-eq0, then-one-eq0-2, else-one-eq0-2}

-- one heap is left
pub returns-then-one-eq0-clause-heaps : goal.returns-then-one-eq0-clause-heaps
returns-then-one-eq0-clause-heaps c =
    heaps_melded _ _ _ (one_left c.args.nodes.now c.args.hook c.args.one c.args.other c.if-one-eq0-2.hang c.requires.torn
    (elim c.then-one-eq0.branch [ then-one-eq0-via-then-one-eq0 w ↦ inl w.if-one-eq0.true | then-one-eq0-via-else-one-eq0+then-other-eq0 w ↦ inr w.if-other-eq0.true ])
    (elim c.if-one-eq0-2.branch [ then-one-eq0-2 w ↦ inl (w.if-one-eq0-2.true, w.hang-is) | else-one-eq0-2 w ↦ inr (w.if-one-eq0-2.false, w.hang-is) ]))
    _ c.hang.ensures

-- the one that fires first is the root
pub sink-requires-clause-melding : goal.sink-requires-clause-melding
sink-requires-clause-melding c =
    let lt : key_at c.args.nodes.now c.args.one < key_at c.args.nodes.now c.args.other = search rules in
    melding_turned {ns = c.args.nodes.now} {h = c.args.hook} {one = c.args.one} (record {
      torn = c.requires.torn;
      some = c.if-one-eq0.false;
      before = λ _. lt;
      up = subst (λ h. IsHung c.args.nodes.now c.hang_timer.new.nodes h c.args.one) (hook_whole c.args.hook) c.hang_timer.ensures;
      half = omega (arith, c.next_side-side.ensures.within);
    })

pub sink-requires-else-is_before-clause-melding : goal.sink-requires-else-is_before-clause-melding
sink-requires-else-is_before-clause-melding c =
    let le : key_at c.args.nodes.now c.args.other ≤ key_at c.args.nodes.now c.args.one = search rules in
    melding_turned {ns = c.args.nodes.now} {h = c.args.hook} {one = c.args.other} (record {
      torn = torn_swap _ _ _ _ c.requires.torn;
      some = c.if-other-eq0.false;
      before = λ some. other_before _ _ _ _ c.requires.apart c.requires.torn some c.if-other-eq0.false le;
      up = subst (λ h. IsHung c.args.nodes.now c.hang_timer-else-is_before.new.nodes h c.args.other) (hook_whole c.args.hook) c.hang_timer-else-is_before.ensures;
      half = omega (arith, c.next_side-side-else-is_before.ensures.within);
    })
