use Rattle.std.proofs.Common.{◌≡◌, ◌+◌, ◌++◌, ◌≤◌, drop, length, slice_index_or, [], sym, ◌∙◌, subst}
use Rattle.std.proofs.lemmas.List.Sums.{prefix_len-le-length}
use Rattle.std.proofs.Math.Seq.{take-append_seam, drop-append_seam}
use Rattle.callouts.specs.Firings.{fired_at, firing_list, is_at}
use Rattle.callouts.proofs.Told.{front, next}
use Rattle.callouts.proofs.firings.split_firings.Goals as goal

pub split_at-requires : goal.split_at-requires
split_at-requires c = subst (λ n. n ≤ length c.args.fired.now) (sym c.many_at.ensures) (prefix_len-le-length (is_at c.args.tick) c.args.fired.now)

pub returns : goal.returns
returns c ess is =
    let tick = c.args.tick in
    let later = firing_list (tick + 1) (drop (tick + 1) ess) in
    let whole : c.args.fired.now ≡ fired_at ess tick ++ later = is ∙ next tick ess in
    let many : c.many_at.result ≡ length (fired_at ess tick) =
    c.many_at.ensures ∙ rw whole (front tick (slice_index_or ess tick []) (drop (tick + 1) ess)) in (
      c.split_at.ensures.front ∙ rw (whole, many) (take-append_seam (fired_at ess tick) later),
      c.split_at.ensures.back ∙ rw (whole, many) (drop-append_seam (fired_at ess tick) later),
    )
