use Rattle.std.proofs.Common.{refl}
use Rattle.stamp_text.proofs.PieceLaws.{second_first}
use Rattle.stamp_text.proofs.stamps.second_ahead.Goals as goal

pub returns : goal.returns
returns c = second_first c.args.text.now c.in_ok-ta.rest.now c.in_ok-tb.rest.now c.in_ok-te.rest.now c.in_ok-tf.rest.now c.in_ok-stratum.rest.now
    c.in_ok-ta.ta c.in_ok-tf.tf c.in_ok-stratum.stratum c.in_ok-leap.leap c.in_ok-leap.count _ c.in_ok-tb.tb c.in_ok-te.te
    c.stamp_within-answer.result c.in_ok-ta.ensures c.in_ok-tb.ensures.piece c.in_ok-te.ensures.piece c.in_ok-tf.ensures c.in_ok-stratum.ensures
    c.in_ok-leap.ensures c.stamp_within-answer.ensures refl
