use Rattle.std.proofs.Common.{◌<◌, ◌∙◌, Some, sym, ap, subst, arith}
use Rattle.stamp_text.specs.declared.lines.Stamp.{Stamp}
use Rattle.rtt_window.proofs.FirstLeasts.{first_least-one, first_least-takes, first_least-keeps, forward-at}
use Rattle.rtt_window.proofs.window.first_least.Goals.{then-trip, else-trip}
use Rattle.rtt_window.proofs.window.first_least.Goals as goal

pub loop-i-init : goal.loop-i-init
loop-i-init c =
    let xs = c.args.stamps.now.items in
    let least = c.stamp_at-least.result in
    record {
      forward = forward-at xs c.args.from least c.requires.forward c.stamp_at-least.ensures;
      so_far = first_least-one xs c.args.from least c.stamp_at-least.ensures;
    }

pub trip-requires : goal.trip-requires
trip-requires c = forward-at c.args.stamps.now.items c.loop-i.i c.stamp_at-s.result c.requires.forward c.stamp_at-s.ensures

pub loop-i-preserved : goal.loop-i-preserved
loop-i-preserved c =
    let xs = c.args.stamps.now.items in
    let from = c.args.from in
    let i = c.loop-i.i in
    let b = c.loop-i.least in
    let s = c.stamp_at-s.result in
    let here = c.stamp_at-s.ensures in
    let so_far = c.loop-i.invariant.so_far in
    elim c.if-trip.branch [
      | then-trip w ↦ record {
        forward = subst (λ (s : Stamp). s.ta < s.tf) (sym w.least-is) (forward-at xs i s c.requires.forward here);
        so_far = first_least-takes xs from i b s (omega arith) here so_far (omega arith) ∙ ap (λ s. Some s) (sym w.least-is);
      }
      | else-trip w ↦ record {
        forward = subst (λ (s : Stamp). s.ta < s.tf) (sym w.least-is) c.loop-i.invariant.forward;
        so_far = first_least-keeps xs from i b s (omega arith) here so_far (omega arith) ∙ ap (λ s. Some s) (sym w.least-is);
      }
    ]
