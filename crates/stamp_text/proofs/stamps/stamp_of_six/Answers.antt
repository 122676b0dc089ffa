use Rattle.std.proofs.Common.{sym, ◌∙◌, arith}
use Rattle.std.proofs.lemmas.Grind.{common_steps}
use Rattle.stamp_text.proofs.StampLaws.{six_told}
use Rattle.stamp_text.proofs.stamps.stamp_of_six.Goals as goal

pub returns : goal.returns
returns c = six_told c.args.a.now c.args.b.now c.args.c.now c.args.d.now c.args.e.now c.args.f.now c.stamp_of_texts.result
    (sym c.has_empty.ensures ∙ c.if-has_empty.false) (grind (arith, common_steps)) (grind (arith, common_steps)) (grind (arith, common_steps))
    c.stamp_of_texts.ensures
