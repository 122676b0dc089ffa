use Rattle.std.proofs.Common.{◌-◌, ◌∙◌, ap, sym, arith}
use Rattle.rtt_window.specs.Pairs.{first_least}
use Rattle.rtt_window.specs.Windows.{Kept, stamps_in}
use Rattle.rtt_window.proofs.FirstLeasts.{forward-at}
use Rattle.rtt_window.proofs.Listed.{least-listed}
use Rattle.rtt_window.proofs.window.Window.least_in.Goals as goal

pub overflow_sub-i : goal.overflow_sub-i
overflow_sub-i c =
    let w = c.self.inside in
    let at = least-listed (record { stamps = w.stamps.items; count = w.count; start = w.start; freq = w.freq }) w.lists c.args.which c.in-Some.i
    c.self.invariant.few c.self.invariant.listed c.in-Some.ensures.least in
    omega (arith, at.kept, c.len.ensures.len)

pub stamp_at-requires : goal.stamp_at-requires
stamp_at-requires c =
    let w = c.self.inside in
    let at = least-listed (record { stamps = w.stamps.items; count = w.count; start = w.start; freq = w.freq }) w.lists c.args.which c.in-Some.i
    c.self.invariant.few c.self.invariant.listed c.in-Some.ensures.least in
    omega (arith, at.within, c.len.ensures.len)

pub returns-clause-value : goal.returns-clause-value
returns-clause-value c =
    let w = c.self.inside in
    let at = least-listed (record { stamps = w.stamps.items; count = w.count; start = w.start; freq = w.freq }) w.lists c.args.which c.in-Some.i
    c.self.invariant.few c.self.invariant.listed c.in-Some.ensures.least in
    ap (λ (k : Kept). first_least (stamps_in k c.args.which)) (sym c.self.view_is) ∙ at.first c.stamp_at.result (rw c.len.ensures.len at c.stamp_at.ensures)

pub returns-clause-forward : goal.returns-clause-forward
returns-clause-forward c =
    let w = c.self.inside in
    forward-at w.stamps.items (c.in-Some.i - (w.count - c.len.result)) c.stamp_at.result
    (λ k d here. (c.self.invariant.accepted.sound k d here).counters) c.stamp_at.ensures
