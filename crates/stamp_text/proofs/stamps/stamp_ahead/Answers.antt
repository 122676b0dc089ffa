use Rattle.std.proofs.Common.{refl}
use Rattle.stamp_text.proofs.PieceLaws.{stamp_first}
use Rattle.stamp_text.proofs.stamps.stamp_ahead.Goals as goal

pub returns : goal.returns
returns c = stamp_first c.args.text.now c.in_ok-ta.rest.now c.in_ok-tb.rest.now c.in_ok-te.rest.now c.in_ok-ta.ta c.in_ok-tf.tf c.in_ok-tf.count _
    c.in_ok-tb.tb c.in_ok-te.te c.stamp_within_ranges.result c.in_ok-ta.ensures c.in_ok-tb.ensures.piece c.in_ok-te.ensures.piece c.in_ok-tf.ensures
    c.stamp_within_ranges.ensures refl
