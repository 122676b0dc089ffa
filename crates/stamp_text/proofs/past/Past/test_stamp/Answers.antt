use Rattle.std.proofs.Common.{◌≡◌, Ok, Err, arith}
use Rattle.std.proofs.lemmas.Grind.{common_steps}
use Rattle.stamp_text.specs.Accepted.{accept_of}
use Rattle.stamp_text.proofs.PastLaws.{stamp-refused, stamp-passed}
use Rattle.stamp_text.proofs.past.Past.test_stamp.Goals as goal

pub returns-in_err-accept : goal.returns-in_err-accept
returns-in_err-accept c =
    let kept : accept_of c.args.self.now.stamp c.args.s.now c.args.freq ≡ Err c.in_err-accept.field-0.0 = grind (arith, common_steps) in
    grind (arith, common_steps, stamp-refused c.args.freq c.args.self.now c.args.s.now c.in_err-accept.field-0.0 kept)

pub returns : goal.returns
returns c =
    let kept : accept_of c.args.self.now.stamp c.args.s.now c.args.freq ≡ Ok tt = grind (arith, common_steps) in
    let rest = stamp-passed c.args.freq c.args.self.now c.args.s.now kept in
    grind (arith, common_steps)
