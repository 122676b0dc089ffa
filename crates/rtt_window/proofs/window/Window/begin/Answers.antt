use Rattle.std.proofs.Common.{◌≡◌, ◌∙◌, map, ap, ap₂, arith}
use Rattle.min_lists.specs.declared.which.Which.TheVariants as which
use Rattle.min_lists.specs.Lists as lists
use Rattle.stamp_text.specs.Accepted.{trip}
use Rattle.rtt_window.specs.Spans.{listed}
use Rattle.rtt_window.specs.Windows.{credit}
use Rattle.rtt_window.proofs.Listed.{credit-listed}
use Rattle.rtt_window.proofs.window.Window.begin.Goals as goal

pub returns-clause-credit : goal.returns-clause-credit
returns-clause-credit c =
    let w = c.self.inside in
    let cut : c.cut.new.self ≡ listed (map trip w.stamps.items) w.count c.args.start =
    c.cut.ensures.kept ∙ ap₂ (λ (ls : lists.Kept) from. lists.with_start ls which.Base from) c.self.invariant.listed c.left_end.ensures in
    let old = credit-listed (record { stamps = w.stamps.items; count = w.count; start = w.start; freq = w.freq }) w.lists c.self.invariant.listed
    ∙ ap credit c.self.view_is in
    let new = credit-listed (record { stamps = w.stamps.items; count = w.count; start = c.args.start; freq = w.freq }) c.cut.new.self cut in
    omega (arith, c.cut.ensures.credit, old, new)
