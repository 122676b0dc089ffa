use Rattle.std.proofs.Common.{◌+◌, length, sym, ap, ◌∙◌, arith}
use Rattle.callouts.specs.Timers.{timer_in}
use Rattle.callouts.proofs.Places.{length_places, place_at, timer_free, timer_live}
use Rattle.callouts.proofs.slots.Slots.timer.Goals as goal

pub hook-requires : goal.hook-requires
hook-requires c = omega (arith, length_places c.self.inside.nodes, ap length c.self.view_is)

pub returns-then-hook-eq0 : goal.returns-then-hook-eq0
returns-then-hook-eq0 c =
    let ns = c.self.inside.nodes in
    sym (ap (λ ps. timer_in ps c.args.place) (sym c.self.view_is)
    ∙ place_at ns c.args.place (omega (arith, length_places ns, ap length c.self.view_is))
    ∙ timer_free ns (256 + c.args.place) (sym c.hook.ensures ∙ c.if-hook-eq0.true))

pub returns : goal.returns
returns c =
    let ns = c.self.inside.nodes in
    rw c.timer.ensures (sym (ap (λ ps. timer_in ps c.args.place) (sym c.self.view_is)
    ∙ place_at ns c.args.place (omega (arith, length_places ns, ap length c.self.view_is))
    ∙ timer_live ns (256 + c.args.place) (λ z. c.if-hook-eq0.false (c.hook.ensures ∙ z))))
