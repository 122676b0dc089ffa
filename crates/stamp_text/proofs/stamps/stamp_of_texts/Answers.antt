use Rattle.stamp_text.specs.Digits.{number_in}
use Rattle.stamp_text.specs.Times.{time_in}
use Rattle.stamp_text.proofs.StampLaws.{numbers_capped}
use Rattle.stamp_text.proofs.stamps.stamp_of_texts.Goals as goal

pub returns : goal.returns
returns c =
    let same = numbers_capped (number_in c.args.a.now) (time_in c.args.b.now) (time_in c.args.c.now) (number_in c.args.d.now)
    (number_in c.args.e.now) (number_in c.args.f.now) in
    cc (c.time_of.ensures.time, c.time_of-2.ensures.time)
