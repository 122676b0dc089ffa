use Rattle.std.proofs.Common.{◌≡◌, ap, ◌∙◌, subst}
use Rattle.tick_table.specs.Sees.{PassSees}
use Rattle.tick_table.specs.Steps.{LearnsTurn}
use Rattle.tick_views.specs.declared.views.PassView.{PassView}
use Rattle.tick_views.specs.Views.{scan_of, turn_loaded, call_begun}
use Rattle.tick_laws.specs.Goes.{ask_diff}
use Rattle.tick_desk.proofs.Adding.{call_adds}
use Rattle.tick_desk.proofs.pass.Pass.diff.Goals as goal

pub returns-clause-adds : goal.returns-clause-adds
returns-clause-adds c =
    let w = c.open_call-first.result in
    let is = c.open_call-first.ensures.view ∙ ap (λ (z : PassSees). turn_loaded w (call_begun (ask_diff c.args.delta) z.view)) c.self.view_is in
    call_adds c.args.self.now c.open_call-first.new.self _ (ask_diff c.args.delta) w _ is
    (subst (λ (z : PassSees). LearnsTurn z.view w) c.self.view_is c.open_call-first.ensures.learns)
    (ap (λ (v : PassView). (scan_of v).answer) is)
    (c.finish_quick.ensures.table ∙ (c.open_call-first.ensures.table ∙ ap (λ (z : PassSees). z.table) c.self.view_is)) c.finish_quick.ensures.answers
    c.finish_quick.ensures.by
