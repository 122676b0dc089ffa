use Rattle.std.proofs.Common.{◌≡◌, ◌+◌, ◌-◌, ◌/◌, ap, ◌∙◌, refl, arith, subst}
use Rattle.tick_reads.specs.Converts.{ask_back}
use Rattle.tick_table.specs.Sees.{PassSees}
use Rattle.tick_table.specs.Steps.{LearnsTurn}
use Rattle.tick_views.specs.declared.views.PassView.{PassView}
use Rattle.tick_views.specs.Views.{scan_of, turn_loaded, call_begun}
use Rattle.tick_laws.specs.Goes.{GoesDown}
use Rattle.tick_laws.proofs.Deciding.{down_answers, down_down, down_here}
use Rattle.tick_desk.proofs.Adding.{call_adds}
use Rattle.tick_desk.proofs.pass.Pass.convert.Goals as goal

pub returns-in-Some : goal.returns-in-Some
returns-in-Some c =
    let w = c.open_call-first.result in
    let is = c.open_call-first.ensures.view ∙ ap (λ (z : PassSees). turn_loaded w (call_begun (ask_back c.args.count) z.view)) c.self.view_is in
    call_adds c.args.self.now c.open_call-first.new.self _ (ask_back c.args.count) w _ is
    (subst (λ (z : PassSees). LearnsTurn z.view w) c.self.view_is c.open_call-first.ensures.learns)
    (ap (λ (v : PassView). (scan_of v).answer) is)
    (c.in-Some.ensures.table ∙ (c.open_call-first.ensures.table ∙ ap (λ (z : PassSees). z.table) c.self.view_is)) c.in-Some.ensures.some c.in-Some.ensures.by

pub loop-down-init : goal.loop-down-init
loop-down-init c = record {
  table = refl;
  near = let some = c.in_default.ensures.more refl in omega arith;
  few = omega arith;
  slot = let some = c.in_default.ensures.more refl in omega arith;
  down = down_here _ _ _ _ _ (c.in_default.ensures.none refl);
}

pub loop-down-preserved : goal.loop-down-preserved
loop-down-preserved c = let i = c.loop-down.invariant in let n = c.in_default-look_older.ensures in let some = n.more refl in let near = n.nearer refl in
    let next : c.open_call-first.result / 2 - c.loop-down.down - 1 ≡ c.open_call-first.result / 2 - (c.loop-down.down + 1) = omega arith in record {
      table = n.table ∙ i.table;
      near = omega arith;
      few = omega arith;
      slot = omega (arith, i.slot);
      down = subst (λ t. GoesDown c.look_newest.new.self.view c.look_older.new.self.view c.args.count c.open_call-first.result t) next
          (down_down _ _ _ _ _ _ _ i.down (n.none refl));
    }

pub returns-in-Some-look_older : goal.returns-in-Some-look_older
returns-in-Some-look_older c =
    let w = c.open_call-first.result in
    let is = c.open_call-first.ensures.view ∙ ap (λ (z : PassSees). turn_loaded w (call_begun (ask_back c.args.count) z.view)) c.self.view_is in
    call_adds c.args.self.now c.open_call-first.new.self _ (ask_back c.args.count) w _ is
    (subst (λ (z : PassSees). LearnsTurn z.view w) c.self.view_is c.open_call-first.ensures.learns)
    (ap (λ (v : PassView). (scan_of v).answer) is)
    (c.in-Some-look_older.ensures.table ∙ (c.loop-down.invariant.table
    ∙ (c.in_default.ensures.table ∙ (c.open_call-first.ensures.table ∙ ap (λ (z : PassSees). z.table) c.self.view_is))))
    (down_answers _ _ _ _ _ _ _ (c.in_default.ensures.none refl)
    (down_answers _ _ _ _ _ _ _ c.loop-down.invariant.down c.in-Some-look_older.ensures.some)) c.in-Some-look_older.ensures.by
